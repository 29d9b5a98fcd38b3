-- What single words stand for, both ways.
use Rattle.std.proofs.Common.{◌≡◌, ℕ, ◌+◌, ◌≤◌, Bool, true, false, ◌&&◌, ◌==◌, ◌⊎◌, inl, inr, cond, nat_le, Option, Some, None, Result, Ok, Err, List, [], ◌∷◌, ◌++◌, length, take, drop, refl, sym, ap, ◌∙◌, subst, ℤ, pos, negsuc, FitsSigned, w64, arith}
use Rattle.std.proofs.lemmas.Int.{ints}
use Rattle.std.proofs.lemmas.Slice.Eq.{bytes_eq-Decides}
use Rattle.std.specs.Prelude.{codes, if◌then◌else◌}
use Rattle.std.specs.List.{find, list_all, position}
use Rattle.std.specs.Str.{bytes_eq}
use Rattle.ak_text.specs.Numbers.{Writes, is_digit}
use Rattle.ak_script.specs.declared.script.Kind.{Kind}
use Rattle.ak_script.specs.declared.script.Kind.TheVariants as of_kind
use Rattle.ak_script.specs.declared.script.Param.{Param}
use Rattle.ak_script.specs.declared.statement.Atom.{Atom}
use Rattle.ak_script.specs.declared.statement.Atom.TheVariants.{Literal, Local}
use Rattle.ak_script.specs.declared.statement.Operator.{Operator}
use Rattle.ak_script.specs.declared.statement.Operator.TheVariants.{Add, Sub, Mul, Div, Rem, Less, LessEq, Equal, NotEqual}
use Rattle.ak_script.specs.declared.statement.WorkWord.{WorkWord}
use Rattle.ak_script.specs.declared.statement.WorkWord.TheVariants.{Square, Mix, Fail}
use Rattle.ak_syntax.specs.Names.{is_name, is_letter, is_number_word, is_colon, kind_word, all_kinds, operator_word, all_operators, work_word, all_works}
use Rattle.ak_syntax.specs.Table.{Place, Exactly, Named, Valued, Counted, Typed, Stands}
use Rattle.ak_syntax.specs.Words.{Bad, bad, ◌>>=◌, exactly_found, exactly_at, name_found, name_at, word_at, atom_found, atom_at, literal_found, number_of, count_in, count_or_zero, count_found, count_at, some_found, operator_named, operator_at, work_named, work_at, mode_named, mode_at, kind_named, param_found, param_cut}
use Rattle.ak_syntax.proofs.Found.{ok_is, bind_ok, bind_is, passed, chosen, if_not, if_so, good, good_pair, some_is}
use Rattle.ak_syntax.proofs.Meets.{Case}
use Rattle.ak_syntax.proofs.Numbers.{number_reads, number_some, number_none, no_number}
use Rattle.ak_syntax.proofs.Parts.{IsItem, IsPlain, IsPart, Always, item_part, found_part}
use Rattle.ak_syntax.proofs.Params.{typed_parts, typed_made}

-- ---- names
name_sound : (word name : List ℕ) → name_found word ≡ Ok name → Stands (Named name) word
name_sound word name h = let p = passed (is_name word) (good word) name h in
    let same : word ≡ name = ok_is p.1 in (same, subst (λ (w : List ℕ). is_name w ≡ true) same p.0)

name_complete : (word name : List ℕ) → Stands (Named name) word → name_found word ≡ Ok name
name_complete word name h = let here : is_name word ≡ true = subst (λ (w : List ℕ). is_name w ≡ true) (sym h.0) h.1 in
    if_so (is_name word) (good word) (Err bad) here ∙ ap good h.0

pub name_plain : IsPlain Named name_found
name_plain = record { sound = name_sound; complete = name_complete; never = λ word x h. h }

pub name_part : IsPart (Always {T = List ℕ}) (λ (n : List ℕ) (places : List Place). Named n ∷ places) name_at
unfolding name_at word_at
name_part = found_part Named name_found name_plain

-- ---- a very word
exactly_sound : (bytes word : List ℕ) (u : Unit {0}) → exactly_found bytes word ≡ Ok u → Stands (Exactly bytes) word
exactly_sound bytes word u h = (bytes_eq-Decides word bytes).0 (passed (bytes_eq word bytes) (good tt) u h).0

exactly_complete : (bytes word : List ℕ) (u : Unit {0}) → Stands (Exactly bytes) word → exactly_found bytes word ≡ Ok u
exactly_complete bytes word u h = if_so (bytes_eq word bytes) (good tt) (Err bad) ((bytes_eq-Decides word bytes).1 h)

pub exactly_part : (bytes : List ℕ) → IsPart (Always {T = Unit {0}}) (λ (u : Unit {0}) (places : List Place). Exactly bytes ∷ places) (exactly_at bytes)
unfolding exactly_at word_at
exactly_part bytes =
    found_part (λ u. Exactly bytes) (exactly_found bytes)
    (record { sound = exactly_sound bytes; complete = exactly_complete bytes; never = λ word x h. h })

-- ---- words of a table
pub table_found : {K : Type 0} (f : K → List ℕ) (all : List K) (word : List ℕ) (k : K) → find (λ k. bytes_eq (f k) word) all ≡ Some k → word ≡ f k
table_found f [] word k e = cc
table_found {K} f (x ∷ all) word k e = of (bytes_eq (f x) word) refl e (table_found f all word k)
  where
    of : (b : Bool) → bytes_eq (f x) word ≡ b → cond b (Some x) (find (λ k. bytes_eq (f k) word) all) ≡ Some k
        → (find (λ k. bytes_eq (f k) word) all ≡ Some k → word ≡ f k) → word ≡ f k
    of true is e later = sym ((bytes_eq-Decides (f x) word).0 is) ∙ ap f (some_is e)
    of false is e later = later e

some_sound : {T : Type 0} (o : Option T) (x : T) → some_found o ≡ Ok x → o ≡ Some x
some_sound None x h = cc
some_sound (Some y) x h = ap Some (ok_is h)

operator_again : (x : Operator) → operator_named (operator_word x) ≡ Some x
unfolding operator_named
operator_again Add = refl
operator_again Sub = refl
operator_again Mul = refl
operator_again Div = refl
operator_again Rem = refl
operator_again Less = refl
operator_again LessEq = refl
operator_again Equal = refl
operator_again NotEqual = refl

work_again : (x : WorkWord) → work_named (work_word x) ≡ Some x
unfolding work_named
work_again Square = refl
work_again Mix = refl
work_again Fail = refl

operator_is : (word : List ℕ) (x : Operator) → operator_named word ≡ Some x → word ≡ operator_word x
unfolding operator_named
operator_is word x h = table_found operator_word all_operators word x h

work_is : (word : List ℕ) (x : WorkWord) → work_named word ≡ Some x → word ≡ work_word x
unfolding work_named
work_is word x h = table_found work_word all_works word x h

abbrev pub mode_word : Bool → List ℕ
mode_word stop = if stop then codes "stop" else codes "go"

mode_again : (x : Bool) → mode_named (mode_word x) ≡ Some x
unfolding mode_named
mode_again true = refl
mode_again false = refl

mode_is : (word : List ℕ) (x : Bool) → mode_named word ≡ Some x → word ≡ mode_word x
unfolding mode_named
mode_is word x h = of (bytes_eq word (codes "stop")) refl (bytes_eq word (codes "go")) refl h
  where
    of : (a : Bool) → bytes_eq word (codes "stop") ≡ a → (b : Bool) → bytes_eq word (codes "go") ≡ b
        → cond a (Some true) (cond b (Some false) None) ≡ Some x → word ≡ mode_word x
    of true e b k h = (bytes_eq-Decides word (codes "stop")).0 e ∙ ap mode_word (some_is h)
    of false e true k h = (bytes_eq-Decides word (codes "go")).0 k ∙ ap mode_word (some_is h)
    of false e false k h = cc

-- a table of words, both ways
table_plain : {K : Type 0} (f : K → List ℕ) (named : List ℕ → Option K) → ((word : List ℕ) (k : K) → named word ≡ Some k → word ≡ f k)
    → ((k : K) → named (f k) ≡ Some k)
    → IsPlain (λ k. Exactly (f k)) (λ word. some_found (named word))
table_plain {K} f named is again = record {
  sound = λ word k h. is word k (some_sound (named word) k h);
  complete = λ word k h. ap (λ (w : List ℕ). some_found (named w)) h ∙ ap some_found (again k);
  never = λ word k h. h;
}

pub operator_part : IsPart (Always {T = Operator}) (λ (x : Operator) (places : List Place). Exactly (operator_word x) ∷ places) operator_at
unfolding operator_at word_at
operator_part = found_part (λ x. Exactly (operator_word x)) (λ word. some_found (operator_named word))
    (table_plain operator_word operator_named operator_is operator_again)

pub work_part : IsPart (Always {T = WorkWord}) (λ (x : WorkWord) (places : List Place). Exactly (work_word x) ∷ places) work_at
unfolding work_at word_at
work_part = found_part (λ x. Exactly (work_word x)) (λ word. some_found (work_named word)) (table_plain work_word work_named work_is work_again)

pub mode_part : IsPart (Always {T = Bool}) (λ (x : Bool) (places : List Place). Exactly (mode_word x) ∷ places) mode_at
unfolding mode_at word_at
mode_part = found_part (λ x. Exactly (mode_word x)) (λ word. some_found (mode_named word)) (table_plain mode_word mode_named mode_is mode_again)

-- ---- numbers
-- a word that writes a number is to be one
pub is_number : (word : List ℕ) (n : ℤ) → Writes word n → is_number_word word ≡ true
is_number [] n h = absurd (omega (arith, h.0.0))
is_number (byte ∷ word) n h = of (byte == 45) refl
  where
    of : (b : Bool) → (byte == 45) ≡ b → is_number_word (byte ∷ word) ≡ true
    of true e = grind arith
    of false e = let digits : list_all is_digit (byte ∷ word) ≡ true = rw e at h.0.1 in grind arith

-- a name is not
pub name_no_number : (word : List ℕ) → is_name word ≡ true → is_number_word word ≡ false
name_no_number [] h = cc
name_no_number (byte ∷ word) h = let letter : is_letter byte ≡ true = grind arith in grind arith

abbrev local_of : List ℕ → Result (Atom × Bool) Bad
local_of name = Ok (Local name, false)

literal_case : (word : List ℕ) (o : Option ℤ) → is_number_word word ≡ true → number_of word ≡ o → Case (literal_found o).1 (Valued (literal_found o).0) word
literal_case word (Some n) h e = let r = number_reads word n e in (r.1, r.0)
literal_case word None h e = ((h, λ other s. number_none word e other s.0 s.1), refl)

atom_sound : (word : List ℕ) (a : Atom) (b : Bool) → atom_found word ≡ Ok (a, b) → Case b (Valued a) word
unfolding atom_found
atom_sound word a b h = of (chosen (is_number_word word) (good (literal_found (number_of word))) (name_found word >>= local_of) (good_pair a b) h)
  where
    move : (x y : Atom × Bool) → x ≡ y → Case x.1 (Valued x.0) word → Case y.1 (Valued y.0) word
    move x y e k = subst (λ (z : Atom × Bool). Case z.1 (Valued z.0) word) e k

    of : ((is_number_word word ≡ true) × (good (literal_found (number_of word)) ≡ good_pair a b))
        ⊎ ((is_number_word word ≡ false) × ((name_found word >>= local_of) ≡ good_pair a b)) → Case b (Valued a) word
    of (inl e) = move (literal_found (number_of word)) (a, b) (ok_is e.1) (literal_case word (number_of word) e.0 refl)
    of (inr e) = let y = bind_ok (name_found word) local_of (a, b) e.1 in move (Local y.0, false) (a, b) (ok_is y.2) (name_sound word y.0 y.1)

atom_complete : (word : List ℕ) (a : Atom) (b : Bool) → Case b (Valued a) word → atom_found word ≡ Ok (a, b)
unfolding atom_found
atom_complete word (Literal n) false h =
    if_so (is_number_word word) (good (literal_found (number_of word))) (name_found word >>= local_of) (is_number word n h.1)
    ∙ ap (λ (o : Option ℤ). good (literal_found o)) (number_some word n h.1 h.0)
atom_complete word (Literal n) true h =
    if_so (is_number_word word) (good (literal_found (number_of word))) (name_found word >>= local_of) h.0.0
    ∙ ap (λ (o : Option ℤ). good (literal_found o)) (no_number word (λ m fits w. h.0.1 m (fits, w))) ∙ ap (λ (m : ℤ). good_pair (Literal m) true) (sym h.1)
atom_complete word (Local n) false h =
    let here : is_name word ≡ true = subst (λ (w : List ℕ). is_name w ≡ true) (sym h.0) h.1 in
    if_not (is_number_word word) (good (literal_found (number_of word))) (name_found word >>= local_of) (name_no_number word here)
    ∙ bind_is (name_found word) local_of n (name_complete word n h)
atom_complete word (Local n) true h = absurd h.0

pub atom_item : IsItem Valued atom_found
atom_item = record { sound = atom_sound; complete = atom_complete }

pub atom_part : IsPart (Always {T = Atom}) (λ (a : Atom) (places : List Place). Valued a ∷ places) atom_at
unfolding atom_at word_at
atom_part = item_part Valued atom_found atom_item

-- ---- counts
both_true : (a b : Bool) → (a && b) ≡ true → (a ≡ true) × (b ≡ true)
both_true true true h = (refl, refl)
both_true true false h = cc
both_true false b h = cc

count_some : (least : ℕ) (o : Option ℤ) (k : ℕ) → count_in least o ≡ Some k → (o ≡ Some (pos k)) × (least ≤ k) × (k ≤ 1000000)
count_some least None k h = cc
count_some least (Some (negsuc n)) k h = cc
count_some least (Some (pos n)) k h = of (nat_le least n && nat_le n 1000000) refl h
  where
    of : (b : Bool) → (nat_le least n && nat_le n 1000000) ≡ b → cond b (Some n) None ≡ Some k → (Some (pos n) ≡ Some (pos k)) × (least ≤ k) × (k ≤ 1000000)
    of true e h = let same : n ≡ k = some_is h in let t = both_true (nat_le least n) (nat_le n 1000000) e in
        let low : least ≤ n = grind arith in let high : n ≤ 1000000 = grind arith in (ap (λ (m : ℕ). Some (pos m)) same, rw (sym same) low, rw (sym same) high)
    of false e h = cc

count_is : (least k : ℕ) → least ≤ k → k ≤ 1000000 → count_in least (Some (pos k)) ≡ Some k
count_is least k low high = if_so (nat_le least k && nat_le k 1000000) (Some k) None (grind arith)

count_none : (least : ℕ) (word : List ℕ) → count_in least (number_of word) ≡ None → (other : ℕ) → Stands (Counted least other) word → ⊥
count_none least word h other s =
    let fits : FitsSigned w64 (pos other) = omega (arith, ints, s.1) in
    let some : count_in least (number_of word) ≡ Some other = ap (count_in least) (number_some word (pos other) s.2 fits) ∙ count_is least other s.0 s.1 in
    cc

count_case : (least : ℕ) (word : List ℕ) (o : Option ℕ) → is_number_word word ≡ true → count_in least (number_of word) ≡ o
    → Case (count_or_zero o).1 (Counted least (count_or_zero o).0) word
count_case least word (Some k) h e = let c = count_some least (number_of word) k e in let r = number_reads word (pos k) c.0 in (c.1, c.2, r.0)
count_case least word None h e = ((h, count_none least word e), refl)

count_sound : (least : ℕ) (word : List ℕ) (k : ℕ) (b : Bool) → count_found least word ≡ Ok (k, b) → Case b (Counted least k) word
count_sound least word k b h =
    let p = passed (is_number_word word) (good (count_or_zero (count_in least (number_of word)))) (k, b) h in
    let P : ℕ × Bool → Type 0 = λ z. Case z.1 (Counted least z.0) word in
    subst P (ok_is p.1) (count_case least word (count_in least (number_of word)) p.0 refl)

none_where : (o : Option ℕ) → ((k : ℕ) → o ≡ Some k → ⊥) → o ≡ None
none_where None h = refl
none_where (Some k) h = absurd (h k refl)

count_complete : (least : ℕ) (word : List ℕ) (k : ℕ) (b : Bool) → Case b (Counted least k) word → count_found least word ≡ Ok (k, b)
count_complete least word k false h =
    let fits : FitsSigned w64 (pos k) = omega (arith, ints, h.1) in
    let some : count_in least (number_of word) ≡ Some k = ap (count_in least) (number_some word (pos k) h.2 fits) ∙ count_is least k h.0 h.1 in
    if_so (is_number_word word) (good (count_or_zero (count_in least (number_of word)))) (Err bad) (is_number word (pos k) h.2)
    ∙ ap (λ (o : Option ℕ). good (count_or_zero o)) some
count_complete least word k true h =
    let none : count_in least (number_of word) ≡ None = none_where (count_in least (number_of word)) (λ m e.
    let c = count_some least (number_of word) m e in let r = number_reads word (pos m) c.0 in h.0.1 m (c.1, c.2, r.0)) in
    if_so (is_number_word word) (good (count_or_zero (count_in least (number_of word)))) (Err bad) h.0.0
    ∙ ap (λ (o : Option ℕ). good (count_or_zero o)) none ∙ ap (λ (m : ℕ). good_pair m true) (sym h.1)

pub count_part : (least : ℕ) → IsPart (Always {T = ℕ}) (λ (k : ℕ) (places : List Place). Counted least k ∷ places) (count_at least)
unfolding count_at word_at
count_part least = item_part (Counted least) (count_found least) (record { sound = count_sound least; complete = count_complete least })

-- ---- parameters
kind_again : (k : Kind) → kind_named (kind_word k) ≡ Some k
unfolding kind_named
kind_again of_kind.Num = refl
kind_again of_kind.Ivar = refl
kind_again of_kind.Def = refl
kind_again of_kind.Mon = refl
kind_again of_kind.Pipe = refl
kind_again of_kind.Thr = refl
kind_again of_kind.Event = refl
kind_again of_kind.Helper = refl

abbrev param_of : List ℕ → Kind → Result Param Bad
param_of name kind = Ok (record { name = name; kind = kind })

abbrev param_behind : List ℕ → ℕ → List ℕ → Result Param Bad
param_behind word colon name = some_found (kind_named (drop (colon + 1) word)) >>= param_of name

kind_is : (word : List ℕ) (k : Kind) → kind_named word ≡ Some k → word ≡ kind_word k
unfolding kind_named
kind_is word k h = table_found kind_word all_kinds word k h

param_sound : (word : List ℕ) (p : Param) → param_found word ≡ Ok p → Stands (Typed p) word
unfolding param_found
param_sound word p h = of (position is_colon word) refl h
  where
    of : (o : Option ℕ) → position is_colon word ≡ o → param_cut word o ≡ Ok p → Stands (Typed p) word
    of None e h = cc
    of (Some colon) e h =
        let x = bind_ok (name_found (take colon word)) (param_behind word colon) p h in
        let y = bind_ok (some_found (kind_named (drop (colon + 1) word))) (param_of x.0) p x.2 in
        let same : record { name = x.0; kind = y.0 } ≡ p = ok_is y.2 in
        let named = name_sound (take colon word) x.0 x.1 in
        let kind : drop (colon + 1) word ≡ kind_word y.0 = kind_is (drop (colon + 1) word) y.0 (some_sound (kind_named (drop (colon + 1) word)) y.0 y.1) in
        let made : word ≡ x.0 ++ 58 ∷ kind_word y.0 = typed_made word colon y.0 (sym e) kind ∙ ap (λ (n : List ℕ). n ++ 58 ∷ kind_word y.0) named.0 in
        subst (λ (q : Param). Stands (Typed q) word) same (made, named.1)

param_complete : (word : List ℕ) (p : Param) → Stands (Typed p) word → param_found word ≡ Ok p
unfolding param_found
param_complete word p h =
    let parts = typed_parts word p h in
    let named : name_found (take (length p.name) word) ≡ Ok p.name = name_complete (take (length p.name) word) p.name (parts.1, h.1) in
    let kind : some_found (kind_named (drop (length p.name + 1) word)) ≡ Ok p.kind =
    ap (λ (w : List ℕ). some_found (kind_named w)) parts.2 ∙ ap some_found (kind_again p.kind) in
    ap (param_cut word) (sym parts.0) ∙ bind_is (name_found (take (length p.name) word)) (param_behind word (length p.name)) p.name named
    ∙ bind_is (some_found (kind_named (drop (length p.name + 1) word))) (param_of p.name) p.kind kind

pub param_plain : IsPlain Typed param_found
param_plain = record { sound = param_sound; complete = param_complete; never = λ word x h. h }
