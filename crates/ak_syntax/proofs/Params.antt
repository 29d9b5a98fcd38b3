-- Names, kinds and parameters in words.
use Rattle.std.proofs.Common.{◌≡◌, ℕ, suc, ◌+◌, ◌<◌, Bool, true, false, not, cond, List, [], ◌∷◌, ◌++◌, length, take, drop, get_or, Some, None, refl, sym, ap, ◌∙◌, length-append, add-one, take_at, arith, subst}
use Rattle.std.proofs.lemmas.Grind.{common_steps}
use Rattle.std.proofs.lemmas.List.Sums.{split_at_first, prefix_len_stops}
use Rattle.std.specs.List.{find, list_all, position, position_or_len}
use Rattle.std.specs.Str.{bytes_eq}
use Rattle.ak_script.specs.declared.script.Kind.{Kind}
use Rattle.ak_script.specs.declared.script.Kind.TheVariants.{Num, Ivar, Def, Mon, Pipe, Thr, Event, Helper}
use Rattle.ak_script.specs.declared.script.Param.{Param}
use Rattle.ak_syntax.specs.Names.{is_name, is_name_byte, kind_word, all_kinds, is_colon}
use Rattle.ak_syntax.specs.Table.{Stands, Typed}
use Rattle.std.proofs.lemmas.Slice.Eq.{bytes_eq-Decides}

-- the kind that was found has the word
pub kind_found : (kinds : List Kind) (word : List ℕ) (k : Kind) → Some k ≡ find (λ kind. bytes_eq (kind_word kind) word) kinds → word ≡ kind_word k
kind_found [] word k e = cc
kind_found (kind ∷ kinds) word k e = of (bytes_eq (kind_word kind) word) refl e (λ h. kind_found kinds word k h)
  where
    of : (b : Bool) → bytes_eq (kind_word kind) word ≡ b → Some k ≡ cond b (Some kind) (find (λ kind. bytes_eq (kind_word kind) word) kinds)
        → (Some k ≡ find (λ kind. bytes_eq (kind_word kind) word) kinds → word ≡ kind_word k) → word ≡ kind_word k
    of true is e later = let same : kind ≡ k = cc in sym ((bytes_eq-Decides (kind_word kind) word).0 is) ∙ ap kind_word same
    of false is e later = later e

-- each kind is found by its word
pub kind_missing : (word : List ℕ) → None ≡ find (λ kind. bytes_eq (kind_word kind) word) all_kinds → (k : Kind) → word ≡ kind_word k → ⊥
kind_missing word e k h = at k (subst (λ (w : List ℕ). None ≡ find (λ kind. bytes_eq (kind_word kind) w) all_kinds) h e)
  where
    at : (k : Kind) → None ≡ find (λ kind. bytes_eq (kind_word kind) (kind_word k)) all_kinds → ⊥
    at Num e = cc
    at Ivar e = cc
    at Def e = cc
    at Mon e = cc
    at Pipe e = cc
    at Thr e = cc
    at Event e = cc
    at Helper e = cc

no_colon : (byte : ℕ) → is_name_byte byte ≡ true → is_colon byte ≡ false
no_colon byte h = grind arith

-- the first colon behind a name
pub colon_after : (name rest : List ℕ) → list_all is_name_byte name ≡ true → position_or_len is_colon (name ++ 58 ∷ rest) ≡ length name
colon_after [] rest h = refl
colon_after (byte ∷ name) rest h =
    let here : is_name_byte byte ≡ true = grind arith in
    let there : list_all is_name_byte name ≡ true = grind arith in
    rw (no_colon byte here) (omega (arith, colon_after name rest there))

name_bytes : (name : List ℕ) → is_name name ≡ true → list_all is_name_byte name ≡ true
name_bytes name h = grind arith

-- a parameter's word has its name before the first colon, and the word of its kind behind
typed_split : (name rest : List ℕ) → list_all is_name_byte name ≡ true
    → (Some (length name) ≡ position is_colon (name ++ 58 ∷ rest)) × (take (length name) (name ++ 58 ∷ rest) ≡ name)
    × (drop (length name + 1) (name ++ 58 ∷ rest) ≡ rest)
typed_split name rest h =
    let at : position_or_len is_colon (name ++ 58 ∷ rest) ≡ length name = colon_after name rest h in
    let below : length name < length (name ++ 58 ∷ rest) = omega (arith, length-append name (58 ∷ rest)) in
    (grind (arith, common_steps), take_at name (58 ∷ rest) (length name) refl, rw add-one (drop_behind name rest))
  where
    drop_behind : (name rest : List ℕ) → drop (suc (length name)) (name ++ 58 ∷ rest) ≡ rest
    drop_behind [] rest = refl
    drop_behind (byte ∷ name) rest = drop_behind name rest

pub typed_parts : (word : List ℕ) (p : Param) → Stands (Typed p) word
    → (Some (length p.name) ≡ position is_colon word) × (take (length p.name) word ≡ p.name) × (drop (length p.name + 1) word ≡ kind_word p.kind)
typed_parts word p h = rw (h.0) (typed_split p.name (kind_word p.kind) (name_bytes p.name h.1))

-- a word with a name before its first colon and the word of a kind behind is a parameter's
pub typed_made : (word : List ℕ) (colon : ℕ) (k : Kind) → Some colon ≡ position is_colon word → drop (colon + 1) word ≡ kind_word k
    → word ≡ take colon word ++ 58 ∷ kind_word k
typed_made word colon k found rest =
    let below : position_or_len is_colon word < length word = grind (arith, common_steps) in
    let at : colon ≡ position_or_len is_colon word = grind (arith, common_steps) in
    let sign : get_or word (position_or_len is_colon word) 0 ≡ 58 = grind (arith, prefix_len_stops (λ x. not (is_colon x)) word 0 below) in
    split_at_first is_colon word 0 below ∙ rw (sign, sym at, rest) refl

-- the name and the kind of a parameter's word, by the place of its colon
pub typed_at : (word : List ℕ) (colon : ℕ) (p : Param) → Some colon ≡ position is_colon word → Stands (Typed p) word
    → (take colon word ≡ p.name) × (drop (colon + 1) word ≡ kind_word p.kind) × (is_name p.name ≡ true)
typed_at word colon p found h =
    let parts = typed_parts word p h in
    let at : colon ≡ length p.name = some_same (found ∙ sym (parts.0)) in
    (rw at (parts.1), rw at (parts.2), h.1)
  where
    some_same : {a b : ℕ} → Some a ≡ Some b → a ≡ b
    some_same e = cc
