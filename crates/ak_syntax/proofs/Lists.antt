-- How the reader goes along a list.
use Rattle.std.proofs.Common.{◌≡◌, ℕ, ◌<◌, Bool, true, false, ◌||◌, List, [], ◌∷◌, ◌++◌, map, length, Option, Some, None, Result, Ok, Err, refl, sym, ap, ◌∙◌, subst, cond, arith, append_assoc}
use Rattle.std.proofs.lemmas.List.{append-nil}
use Rattle.std.specs.Prelude.{codes}
use Rattle.std.specs.List.{list_any}
use Rattle.std.specs.Str.{bytes_eq}
use Rattle.ak_script.specs.declared.statement.Atom.{Atom}
use Rattle.ak_script.specs.declared.statement.Choice.{Choice}
use Rattle.ak_script.specs.declared.statement.GuardMode.{GuardMode}
use Rattle.ak_script.specs.declared.statement.GuardMode.TheVariants as guard
use Rattle.ak_syntax.specs.declared.cursor.Cursor.{Cursor}
use Rattle.ak_syntax.specs.declared.cursor.Until.{Until}
use Rattle.ak_syntax.specs.declared.cursor.Until.TheVariants.{LineEnd, With}
use Rattle.ak_syntax.specs.declared.refusal.Fault.{Fault}
use Rattle.ak_syntax.specs.declared.refusal.Fault.TheVariants.{Grammar, NoMemory}
use Rattle.ak_syntax.specs.Names.{is_name}
use Rattle.ak_syntax.proofs.Found.{ok_pair, some_is, bind_ok, bind_is, bind_err, good_pair, if_not}
use Rattle.ak_syntax.specs.Words.{Bad, bad, ◌>>=◌, Refuses, listed_from, listed_at, list_from, ends_list, is_line_end, name_found, name_at, word_at, atom_found, raise_at, guard_args_from, choices_from, plain, word_from}

pub any_mapped : {A B : Type 0} (p : B → Bool) (f : A → B) (xs : List A) → list_any p (map f xs) ≡ list_any (λ x. p (f x)) xs
any_mapped p f [] = refl
any_mapped p f (x ∷ xs) = ap (λ b. p (f x) || b) (any_mapped p f xs)

-- the items that were read are put in front
abbrev pub with_front : {T : Type 0} → List T → Result (List T × Cursor) Bad → Result (List T × Cursor) Bad
with_front front rest = rest >>= λ r. Ok (front ++ r.0, r.1)

pub no_front : {T : Type 0} (rest : Result (List T × Cursor) Bad) → with_front [] rest ≡ rest
no_front (Ok r) = refl
no_front (Err e) = refl

pub one_more : {T : Type 0} (front : List T) (x : T) (rest : Result (List T × Cursor) Bad)
    → with_front front (with_front (x ∷ []) rest) ≡ with_front (front ++ x ∷ []) rest
one_more front x (Ok r) = ap (λ (xs : List _). Ok (xs, r.1)) (sym (append_assoc front (x ∷ []) r.0))
one_more front x (Err e) = refl

-- where the part is refused for a reason, the whole is for the same
pub refused_as : {A B : Type 0} (e : Fault) (part : Result A Bad) (whole : Result B Bad) → Refuses e part
    → ((kind : Bad) → part ≡ Err kind → whole ≡ Err kind) → Refuses e whole
refused_as (Grammar kind) part whole h to = (h.0, to bad h.1)
refused_as NoMemory part whole h to = tt

-- what is known of the next word of a list
pub record Next (until : Until) (words : List (List ℕ)) (faulty : Bool) (word : List ℕ) (left : Cursor) : Type 0 where
  pub words_are : words ≡ word ∷ left.words
  pub flag : left.faulty ≡ faulty
  pub goes_on : ends_list until word ≡ false

pub next_word : (until : Until) (words : List (List ℕ)) (faulty : Bool) (word : List ℕ) (left : Cursor)
    → listed_from until words faulty ≡ Ok (Some word, left) → Next until words faulty word left
next_word until [] faulty word left h = of (is_line_end until) h
  where
    of : (b : Bool) → cond {A = Result (Option (List ℕ) × Cursor) Bad} b (Ok (None, record { words = []; faulty = faulty })) (Err bad)
        ≡ Ok (Some word, left) → Next until [] faulty word left
    of true h = let none : None ≡ Some word = (ok_pair h).0 in cc
    of false h = cc
next_word until (first ∷ words) faulty word left h = of (ends_list until first) refl h
  where
    of : (b : Bool) → ends_list until first ≡ b → good_pair (cond b None (Some first)) (record { words = words; faulty = faulty })
        ≡ good_pair (Some word) left → Next until (first ∷ words) faulty word left
    of true e h = let none : None ≡ Some word = (ok_pair h).0 in cc
    of false e h =
        let same : first ≡ word = some_is (ok_pair h).0 in
        let rest : words ≡ left.words = ap (λ (c : Cursor). c.words) (ok_pair h).1 in
        let flag : faulty ≡ left.faulty = ap (λ (c : Cursor). c.faulty) (ok_pair h).1 in
        record { words_are = cc; flag = sym flag; goes_on = subst (λ (w : List ℕ). ends_list until w ≡ false) same e }

-- one more item
pub item_read : {T : Type 0} (item : List ℕ → Result (T × Bool) Bad) (until : Until) (c left : Cursor) (word : List ℕ) (x : T) (b : Bool)
    → listed_at until c ≡ Ok (Some word, left) → item word ≡ Ok (x, b) → list_from item until c.words c.faulty
    ≡ with_front (x ∷ []) (list_from item until left.words (b || left.faulty))
unfolding listed_at list_from
item_read item until c left word x b h is = let next = next_word until c.words c.faulty word left h in
    rw (next.words_are) (rw (next.goes_on, is, next.flag) refl)

pub item_refused : {T : Type 0} (item : List ℕ → Result (T × Bool) Bad) (until : Until) (c left : Cursor) (word : List ℕ) (kind : Bad)
    → listed_at until c ≡ Ok (Some word, left) → item word ≡ Err kind → list_from item until c.words c.faulty ≡ Err kind
unfolding listed_at list_from
item_refused item until c left word kind h is = let next = next_word until c.words c.faulty word left h in
    rw (next.words_are) (rw (next.goes_on, is) refl)

pub list_over : {T : Type 0} (item : List ℕ → Result (T × Bool) Bad) (until : Until) (words : List (List ℕ)) (faulty : Bool) (left : Cursor)
    → listed_from until words faulty ≡ Ok (None, left) → list_from item until words faulty ≡ Ok ([], left)
unfolding list_from
list_over {T} item until [] faulty left h = of (is_line_end until) h
  where
    of : (b : Bool) → cond {A = Result (Option (List ℕ) × Cursor) Bad} b (Ok (None, record { words = []; faulty = faulty })) (Err bad)
        ≡ Ok (None, left) → cond {A = Result (List T × Cursor) Bad} b (Ok ([], record { words = []; faulty = faulty })) (Err bad)
        ≡ Ok ([], left)
    of true h = ap (λ (l : Cursor). Ok ([], l)) (ok_pair h).1
    of false h = cc
list_over {T} item until (first ∷ words) faulty left h = of (ends_list until first) refl h
  where
    of : (b : Bool) → ends_list until first ≡ b → good_pair (cond b None (Some first)) (record { words = words; faulty = faulty })
        ≡ good_pair None left → list_from item until (first ∷ words) faulty ≡ Ok ([], left)
    of true e h = rw e (ap (λ (l : Cursor). Ok ([], l)) (ok_pair h).1)
    of false e h = let none : Some first ≡ None = (ok_pair h).0 in cc

pub list_refused : {T : Type 0} (item : List ℕ → Result (T × Bool) Bad) (until : Until) (words : List (List ℕ)) (faulty : Bool) (kind : Bad)
    → listed_from until words faulty ≡ Err kind → list_from item until words faulty ≡ Err kind
unfolding list_from
list_refused {T} item until [] faulty kind h = of (is_line_end until) h
  where
    of : (b : Bool) → cond {A = Result (Option (List ℕ) × Cursor) Bad} b (Ok (None, record { words = []; faulty = faulty })) (Err bad)
        ≡ Err kind → cond {A = Result (List T × Cursor) Bad} b (Ok ([], record { words = []; faulty = faulty })) (Err bad) ≡ Err kind
    of true h = cc
    of false h = cc
list_refused {T} item until (first ∷ words) faulty kind h = cc

pub fewer_words : (until : Until) (c left : Cursor) (word : List ℕ) → listed_at until c ≡ Ok (Some word, left) → length left.words < length c.words
unfolding listed_at
fewer_words until c left word h = let next = next_word until c.words c.faulty word left h in rw (next.words_are) (omega arith)

-- ---- a turn of a loop, the items so far put in front
pub goes_on : {T : Type 0} (item : List ℕ → Result (T × Bool) Bad) (until : Until) (c left now : Cursor) (front pushed : List T)
    (word : List ℕ) (x : T) (b : Bool) (whole : Result (List T × Cursor) Bad)
    → with_front front (list_from item until c.words c.faulty) ≡ whole → listed_at until c ≡ Ok (Some word, left) → item word ≡ Ok (x, b)
    → pushed ≡ front ++ x ∷ [] → now.words ≡ left.words → now.faulty ≡ (b || left.faulty)
    → with_front pushed (list_from item until now.words now.faulty) ≡ whole
goes_on item until c left now front pushed word x b whole so_far h is grown words flag =
    rw (grown, words, flag) (sym (one_more front x (list_from item until left.words (b || left.faulty)))
    ∙ ap (with_front front) (sym (item_read item until c left word x b h is)) ∙ so_far)

pub ends : {T : Type 0} (item : List ℕ → Result (T × Bool) Bad) (until : Until) (c left : Cursor) (front : List T) (whole : Result (List T × Cursor) Bad)
    → with_front front (list_from item until c.words c.faulty) ≡ whole → listed_at until c ≡ Ok (None, left) → whole ≡ Ok (front, left)
unfolding listed_at
ends item until c left front whole so_far h =
    sym so_far ∙ ap (with_front front) (list_over item until c.words c.faulty left h) ∙ ap (λ (xs : List _). Ok (xs, left)) (append-nil front)

pub stops : {T : Type 0} (item : List ℕ → Result (T × Bool) Bad) (until : Until) (c : Cursor) (front : List T)
    (whole : Result (List T × Cursor) Bad) (kind : Bad)
    → with_front front (list_from item until c.words c.faulty) ≡ whole → listed_at until c ≡ Err kind → whole ≡ Err kind
unfolding listed_at
stops item until c front whole kind so_far h = sym so_far ∙ ap (with_front front) (list_refused item until c.words c.faulty kind h)

pub stops_at : {T : Type 0} (item : List ℕ → Result (T × Bool) Bad) (until : Until) (c left : Cursor) (front : List T) (word : List ℕ)
    (whole : Result (List T × Cursor) Bad) (kind : Bad)
    → with_front front (list_from item until c.words c.faulty) ≡ whole → listed_at until c ≡ Ok (Some word, left) → item word ≡ Err kind → whole ≡ Err kind
stops_at item until c left front word whole kind so_far h is = sym so_far ∙ ap (with_front front) (item_refused item until c left word kind h is)

pub plain_ok : {T : Type 0} (item : List ℕ → Result T Bad) (word : List ℕ) (x : T) → item word ≡ Ok x → plain item word ≡ Ok (x, false)
plain_ok item word x h = rw h refl

pub plain_err : {T : Type 0} (item : List ℕ → Result T Bad) (word : List ℕ) (kind : Bad) → item word ≡ Err kind → plain item word ≡ Err kind
plain_err item word kind h = rw h refl

-- nothing, where it is not something
pub is_none : {A : Type 0} (o : Option A) → ((a : A) → o ≡ Some a → ⊥) → o ≡ None
is_none None h = refl
is_none (Some a) h = absurd (h a refl)

-- ---- deferreds of a `choose`
one_taken : (words : List (List ℕ)) (faulty : Bool) (word : List ℕ) (left : Cursor) → word_from words faulty ≡ Ok (word, left)
    → length left.words < length words
one_taken [] faulty word left h = cc
one_taken (first ∷ words) faulty word left h = let same = ap (λ (c : Cursor). c.words) (ok_pair h).1 in rw (sym same) (omega arith)

bad_name : (word : List ℕ) (kind : Bad) → name_found word ≡ Err kind → kind ≡ bad
bad_name word kind h = of (is_name word) h
  where
    of : (b : Bool) → cond {A = Result (List ℕ) Bad} b (Ok word) (Err bad) ≡ Err kind → kind ≡ bad
    of true h = cc
    of false h = cc

-- a deferred and its procedure
abbrev name_from : List (List ℕ) → Bool → Result (List ℕ × Cursor) Bad
name_from words faulty = word_from words faulty >>= λ w. name_found w.0 >>= λ n. Ok (n, w.1)

abbrev choice_then : List ℕ → List ℕ → Result (List Choice × Cursor) Bad → Result (List Choice × Cursor) Bad
choice_then d proc rest = rest >>= λ r. Ok (record { d = d; proc = proc } ∷ r.0, r.1)

two_more : (word next : List ℕ) (words : List (List ℕ)) (faulty : Bool) → ends_list With word ≡ false
    → choices_from (word ∷ next ∷ words) faulty ≡ (name_found word >>= λ d. name_found next >>= λ p. choice_then d p (choices_from words faulty))
unfolding choices_from
two_more word next words faulty goes = if_not (ends_list With word) (Ok ([], record { words = next ∷ words; faulty = faulty }))
    (name_found word >>= λ d. name_found next >>= λ p. choice_then d p (choices_from words faulty)) goes

abbrev named_then : List (List ℕ) → Bool → List ℕ → Result (List ℕ × Cursor) Bad
named_then words faulty n = Ok (n, record { words = words; faulty = faulty })

second_from : (word : List ℕ) (words : List (List ℕ)) (faulty : Bool) (d proc : List ℕ) (now : Cursor) → ends_list With word ≡ false → name_found word ≡ Ok d
    → name_from words faulty ≡ Ok (proc, now)
    → choices_from (word ∷ words) faulty ≡ with_front (record { d = d; proc = proc } ∷ []) (choices_from now.words now.faulty)
unfolding choices_from
second_from word [] faulty d proc now goes first h = cc
second_from word (next ∷ words) faulty d proc now goes first h =
    let last : List ℕ → Result (List ℕ × Cursor) Bad = λ n. Ok (n, record { words = words; faulty = faulty }) in
    let found = bind_ok (name_found next) last (proc, now) h in
    let same = ok_pair found.2 in
    let second : name_found next ≡ Ok proc = found.1 ∙ ap Ok same.0 in
    rw (sym same.1) (two_more word next words faulty goes ∙ bind_is (name_found word)
    (λ d. name_found next >>= λ p. choice_then d p (choices_from words faulty)) d first
    ∙ bind_is (name_found next) (λ p. choice_then d p (choices_from words faulty)) proc second)

first_from : (word : List ℕ) (words : List (List ℕ)) (faulty : Bool) (kind : Bad) → ends_list With word ≡ false
    → name_found word ≡ Err kind → choices_from (word ∷ words) faulty ≡ Err kind
unfolding choices_from
first_from word [] faulty kind goes first = rw goes (ap Err (sym (bad_name word kind first)))
first_from word (next ∷ words) faulty kind goes first =
    two_more word next words faulty goes
    ∙ (bind_err (name_found word) (λ d. name_found next >>= λ p. choice_then d p (choices_from words faulty)) kind first)

second_bad : (word : List ℕ) (words : List (List ℕ)) (faulty : Bool) (d : List ℕ) (kind : Bad) → ends_list With word ≡ false → name_found word ≡ Ok d
    → name_from words faulty ≡ Err kind → choices_from (word ∷ words) faulty ≡ Err kind
unfolding choices_from
second_bad word [] faulty d kind goes first h = let bad : bad ≡ kind = cc in rw goes (ap Err bad)
second_bad word (next ∷ words) faulty d kind goes first h =
    two_more word next words faulty goes
    ∙ (bind_is (name_found word) (λ d. name_found next >>= λ p. choice_then d p (choices_from words faulty)) d first
    ∙ rest (name_found next) h)
  where
    rest : (r : Result (List ℕ) Bad) → (r >>= named_then words faulty) ≡ Err kind → (r >>= λ p. choice_then d p (choices_from words faulty)) ≡ Err kind
    rest (Ok n) h = cc
    rest (Err e) h = cc

pub choice_goes_on : (c left now : Cursor) (front pushed : List Choice) (word d proc : List ℕ) (whole : Result (List Choice × Cursor) Bad)
    → with_front front (choices_from c.words c.faulty) ≡ whole → listed_at With c ≡ Ok (Some word, left) → name_found word ≡ Ok d
    → name_at left ≡ Ok (proc, now)
    → pushed ≡ front ++ record { d = d; proc = proc } ∷ [] → with_front pushed (choices_from now.words now.faulty) ≡ whole
unfolding listed_at name_at word_at
choice_goes_on c left now front pushed word d proc whole so_far h first second grown =
    let next = next_word With c.words c.faulty word left h in
    let read : choices_from c.words c.faulty ≡ with_front (record { d = d; proc = proc } ∷ []) (choices_from now.words now.faulty) =
    rw (next.words_are, sym next.flag) (second_from word left.words left.faulty d proc now next.goes_on first second) in
    rw grown (sym (one_more front (record { d = d; proc = proc }) (choices_from now.words now.faulty)) ∙ ap (with_front front) (sym read) ∙ so_far)

pub choice_stops_at : (c left : Cursor) (front : List Choice) (word : List ℕ) (whole : Result (List Choice × Cursor) Bad) (kind : Bad)
    → with_front front (choices_from c.words c.faulty) ≡ whole → listed_at With c ≡ Ok (Some word, left) → name_found word ≡ Err kind → whole ≡ Err kind
unfolding listed_at
choice_stops_at c left front word whole kind so_far h first =
    let next = next_word With c.words c.faulty word left h in
    let refused : choices_from c.words c.faulty ≡ Err kind = rw (next.words_are) (first_from word left.words c.faulty kind next.goes_on first) in
    sym so_far ∙ ap (with_front front) refused

pub choice_stops_second : (c left : Cursor) (front : List Choice) (word d : List ℕ) (whole : Result (List Choice × Cursor) Bad) (kind : Bad)
    → with_front front (choices_from c.words c.faulty) ≡ whole → listed_at With c ≡ Ok (Some word, left) → name_found word ≡ Ok d
    → name_at left ≡ Err kind → whole ≡ Err kind
unfolding listed_at name_at word_at
choice_stops_second c left front word d whole kind so_far h first second =
    let next = next_word With c.words c.faulty word left h in
    let refused : choices_from c.words c.faulty ≡ Err kind =
    rw (next.words_are, sym next.flag) (second_bad word left.words left.faulty d kind next.goes_on first second) in
    sym so_far ∙ ap (with_front front) refused

pub choices_over : (words : List (List ℕ)) (faulty : Bool) (left : Cursor) → listed_from With words faulty ≡ Ok (None, left)
    → choices_from words faulty ≡ Ok ([], left)
unfolding choices_from
choices_over [] faulty left h = cc
choices_over (first ∷ []) faulty left h = of (ends_list With first) refl h
  where
    of : (b : Bool) → ends_list With first ≡ b → good_pair (cond b None (Some first)) (record { words = []; faulty = faulty })
        ≡ good_pair None left → choices_from (first ∷ []) faulty ≡ Ok ([], left)
    of true e h = rw e (ap (λ (l : Cursor). Ok ([], l)) (ok_pair h).1)
    of false e h = let none : Some first ≡ None = (ok_pair h).0 in cc
choices_over (first ∷ next ∷ words) faulty left h = of (ends_list With first) refl h
  where
    of : (b : Bool) → ends_list With first ≡ b → good_pair (cond b None (Some first)) (record { words = next ∷ words; faulty = faulty })
        ≡ good_pair None left → choices_from (first ∷ next ∷ words) faulty ≡ Ok ([], left)
    of true e h = rw e (ap (λ (l : Cursor). Ok ([], l)) (ok_pair h).1)
    of false e h = let none : Some first ≡ None = (ok_pair h).0 in cc

pub choices_end : (c left : Cursor) (front : List Choice) (whole : Result (List Choice × Cursor) Bad)
    → with_front front (choices_from c.words c.faulty) ≡ whole → listed_at With c ≡ Ok (None, left) → whole ≡ Ok (front, left)
unfolding listed_at
choices_end c left front whole so_far h =
    sym so_far ∙ ap (with_front front) (choices_over c.words c.faulty left h) ∙ ap (λ (xs : List _). Ok (xs, left)) (append-nil front)

choices_bad : (words : List (List ℕ)) (faulty : Bool) (kind : Bad) → listed_from With words faulty ≡ Err kind → choices_from words faulty ≡ Err kind
unfolding choices_from
choices_bad [] faulty kind h = let bad : bad ≡ kind = cc in ap Err bad
choices_bad (first ∷ words) faulty kind h = cc

pub choices_stop : (c : Cursor) (front : List Choice) (whole : Result (List Choice × Cursor) Bad) (kind : Bad)
    → with_front front (choices_from c.words c.faulty) ≡ whole → listed_at With c ≡ Err kind → whole ≡ Err kind
unfolding listed_at
choices_stop c front whole kind so_far h = sym so_far ∙ ap (with_front front) (choices_bad c.words c.faulty kind h)

pub fewer_choices : (c left now : Cursor) (word proc : List ℕ) → listed_at With c ≡ Ok (Some word, left) → name_at left ≡ Ok (proc, now)
    → length now.words < length c.words
unfolding name_at word_at
fewer_choices c left now word proc h second =
    let fewer = fewer_words With c left word h in
    let named : List ℕ × Cursor → Result (List ℕ × Cursor) Bad = λ w. name_found w.0 >>= λ n. Ok (n, w.1) in
    let at = bind_ok (word_from left.words left.faulty) named (proc, now) second in
    let taken : length at.0.1.words < length left.words = one_taken left.words left.faulty at.0.0 at.0.1 at.1 in
    let ended : List ℕ → Result (List ℕ × Cursor) Bad = λ n. Ok (n, at.0.1) in
    let last = bind_ok (name_found at.0.0) ended (proc, now) at.2 in
    let same : at.0.1 ≡ now = (ok_pair last.2).1 in
    rw (sym same) (omega arith)

-- ---- arguments of a guard
abbrev pub Guarded : Type 0
Guarded = Result ((List Atom × GuardMode) × Cursor) Bad

abbrev pub guarded_front : List Atom → Guarded → Guarded
guarded_front front rest = rest >>= λ r. Ok ((front ++ r.0.0, r.0.1), r.1)

pub no_guarded_front : (rest : Guarded) → guarded_front [] rest ≡ rest
no_guarded_front (Ok r) = refl
no_guarded_front (Err e) = refl

one_more_guarded : (front : List Atom) (x : Atom) (rest : Guarded) → guarded_front front (guarded_front (x ∷ []) rest) ≡ guarded_front (front ++ x ∷ []) rest
one_more_guarded front x (Ok r) = ap (λ (xs : List Atom). good_pair (xs, r.0.1) r.1) (sym (append_assoc front (x ∷ []) r.0.0))
one_more_guarded front x (Err e) = refl

-- the next word is `rest`, or an argument
arg_read : (c left : Cursor) (word : List ℕ) (x : Atom) (b : Bool) → listed_at LineEnd c ≡ Ok (Some word, left) → bytes_eq word (codes "rest") ≡ false
    → atom_found word ≡ Ok (x, b)
    → guard_args_from c.words c.faulty ≡ guarded_front (x ∷ []) (guard_args_from left.words (b || left.faulty))
unfolding listed_at guard_args_from
arg_read c left word x b h other is = let next = next_word LineEnd c.words c.faulty word left h in
    rw (next.words_are) (rw (other, is, next.flag) refl)

arg_refused : (c left : Cursor) (word : List ℕ) (kind : Bad) → listed_at LineEnd c ≡ Ok (Some word, left) → bytes_eq word (codes "rest") ≡ false
    → atom_found word ≡ Err kind
    → guard_args_from c.words c.faulty ≡ Err kind
unfolding listed_at guard_args_from
arg_refused c left word kind h other is = let next = next_word LineEnd c.words c.faulty word left h in
    rw (next.words_are) (rw (other, is) refl)

rest_read : (c left now : Cursor) (word : List ℕ) → listed_at LineEnd c ≡ Ok (Some word, left) → bytes_eq word (codes "rest") ≡ true
    → raise_at left ≡ Ok (tt, now)
    → guard_args_from c.words c.faulty ≡ Ok (([], guard.Raise), now)
unfolding listed_at guard_args_from
rest_read c left now word h here is = let next = next_word LineEnd c.words c.faulty word left h in
    rw (next.words_are, sym next.flag) (rw (here, is) refl)

rest_refused : (c left : Cursor) (word : List ℕ) (kind : Bad) → listed_at LineEnd c ≡ Ok (Some word, left) → bytes_eq word (codes "rest") ≡ true
    → raise_at left ≡ Err kind
    → guard_args_from c.words c.faulty ≡ Err kind
unfolding listed_at guard_args_from
rest_refused c left word kind h here is = let next = next_word LineEnd c.words c.faulty word left h in
    rw (next.words_are, sym next.flag) (rw (here, is) refl)

args_over : (words : List (List ℕ)) (faulty : Bool) (left : Cursor) → listed_from LineEnd words faulty ≡ Ok (None, left)
    → guard_args_from words faulty ≡ Ok (([], guard.Drop), left)
unfolding guard_args_from
args_over [] faulty left h = ap (λ (l : Cursor). good_pair ([], guard.Drop) l) (ok_pair h).1
args_over (first ∷ words) faulty left h = let none : Some first ≡ None = (ok_pair h).0 in cc

never_refused : (words : List (List ℕ)) (faulty : Bool) (kind : Bad) → listed_from LineEnd words faulty ≡ Err kind → ⊥
never_refused [] faulty kind h = cc
never_refused (first ∷ words) faulty kind h = cc

pub guard_goes_on : (c left now : Cursor) (front pushed : List Atom) (word : List ℕ) (x : Atom) (b : Bool) (whole : Guarded)
    → guarded_front front (guard_args_from c.words c.faulty) ≡ whole → listed_at LineEnd c ≡ Ok (Some word, left) → bytes_eq word (codes "rest") ≡ false
    → atom_found word ≡ Ok (x, b)
    → pushed ≡ front ++ x ∷ [] → now.words ≡ left.words → now.faulty ≡ (b || left.faulty) → guarded_front pushed (guard_args_from now.words now.faulty) ≡ whole
guard_goes_on c left now front pushed word x b whole so_far h other is grown words flag =
    rw (grown, words, flag) (sym (one_more_guarded front x (guard_args_from left.words (b || left.faulty)))
    ∙ ap (guarded_front front) (sym (arg_read c left word x b h other is)) ∙ so_far)

pub guard_ends : (c left : Cursor) (front : List Atom) (whole : Guarded) → guarded_front front (guard_args_from c.words c.faulty) ≡ whole
    → listed_at LineEnd c ≡ Ok (None, left)
    → whole ≡ Ok ((front, guard.Drop), left)
unfolding listed_at
guard_ends c left front whole so_far h =
    sym so_far ∙ ap (guarded_front front) (args_over c.words c.faulty left h) ∙ ap (λ (xs : List Atom). good_pair (xs, guard.Drop) left) (append-nil front)

pub guard_raises : (c left now : Cursor) (front : List Atom) (word : List ℕ) (whole : Guarded)
    → guarded_front front (guard_args_from c.words c.faulty) ≡ whole → listed_at LineEnd c ≡ Ok (Some word, left)
    → bytes_eq word (codes "rest") ≡ true → raise_at left ≡ Ok (tt, now) → whole ≡ Ok ((front, guard.Raise), now)
guard_raises c left now front word whole so_far h here is =
    sym so_far ∙ ap (guarded_front front) (rest_read c left now word h here is)
    ∙ ap (λ (xs : List Atom). good_pair (xs, guard.Raise) now) (append-nil front)

pub guard_stops : (c : Cursor) (front : List Atom) (whole : Guarded) (kind : Bad) → guarded_front front (guard_args_from c.words c.faulty) ≡ whole
    → listed_at LineEnd c ≡ Err kind → whole ≡ Err kind
unfolding listed_at
guard_stops c front whole kind so_far h = absurd (never_refused c.words c.faulty kind h)

pub guard_stops_raise : (c left : Cursor) (front : List Atom) (word : List ℕ) (whole : Guarded) (kind : Bad)
    → guarded_front front (guard_args_from c.words c.faulty) ≡ whole
    → listed_at LineEnd c ≡ Ok (Some word, left) → bytes_eq word (codes "rest") ≡ true → raise_at left ≡ Err kind → whole ≡ Err kind
guard_stops_raise c left front word whole kind so_far h here is = sym so_far ∙ ap (guarded_front front) (rest_refused c left word kind h here is)

pub guard_stops_at : (c left : Cursor) (front : List Atom) (word : List ℕ) (whole : Guarded) (kind : Bad)
    → guarded_front front (guard_args_from c.words c.faulty) ≡ whole
    → listed_at LineEnd c ≡ Ok (Some word, left) → bytes_eq word (codes "rest") ≡ false → atom_found word ≡ Err kind → whole ≡ Err kind
guard_stops_at c left front word whole kind so_far h other is = sym so_far ∙ ap (guarded_front front) (arg_refused c left word kind h other is)
