-- The least kind of faults that come one after another.
use Rattle.std.proofs.Common.{◌≡◌, ◌⊎◌, inl, inr, ℕ, zero, suc, ◌+◌, ◌<◌, ◌≤◌, min, Bool, true, false, cond, List, [], ◌∷◌, ◌++◌, length, take, drop, get_or, nat_lt, Option, Some, None, refl, sym, ap, ◌∙◌, arith, if◌then◌else◌, append-nil}
use Rattle.std.proofs.lemmas.Bool.Decides.{nat_tests}
use Rattle.std.proofs.lemmas.Grind.{flat_map-append}
use Rattle.std.specs.List.{flat_map}
use Rattle.ak_valid.specs.declared.refusal.FaultKind.{FaultKind}
use Rattle.ak_script.specs.declared.script.Param.{Param}
use Rattle.ak_script.specs.declared.statement.Atom.{Atom}
use Rattle.ak_valid.specs.Faults.{kind_number, lesser, least, passed_faults, args_faults}
use Rattle.ak_valid.specs.Kinds.{lesser_by, least_by}
use Rattle.ak_valid.proofs.Naming.{take_next}

-- ---- of any kinds, by their numbers
abbrev least_kind : {K : Type 0} → (K → ℕ) → K → K → K
least_kind number a b = if nat_lt (number b) (number a) then b else a

kind_assoc : {K : Type 0} (number : K → ℕ) (a b c : K) → least_kind number (least_kind number a b) c ≡ least_kind number a (least_kind number b c)
kind_assoc number a b c = of (nat_lt (number b) (number a)) (nat_lt (number c) (number b)) (nat_lt (number c) (number a)) refl refl refl
  where
    of : (p q r : Bool) → nat_lt (number b) (number a) ≡ p → nat_lt (number c) (number b) ≡ q → nat_lt (number c) (number a) ≡ r
        → least_kind number (cond p b a) c ≡ least_kind number a (cond q c b)
    of true true true p q r = rw (q, r) refl
    of true true false p q r = absurd (grind (arith, nat_tests))
    of true false true p q r = rw (q, p) refl
    of true false false p q r = rw (q, p) refl
    of false true true p q r = rw (r) refl
    of false true false p q r = rw (r) refl
    of false false true p q r = absurd (grind (arith, nat_tests))
    of false false false p q r = rw (r, p) refl

pub lesser_assoc : {K : Type 0} (number : K → ℕ) (a b c : Option K)
    → lesser_by number (lesser_by number a b) c ≡ lesser_by number a (lesser_by number b c)
lesser_assoc number None b c = refl
lesser_assoc number (Some a) None c = refl
lesser_assoc number (Some a) (Some b) None = refl
lesser_assoc number (Some a) (Some b) (Some c) = ap Some (kind_assoc number a b c)

pub lesser_none : {K : Type 0} (number : K → ℕ) (a : Option K) → lesser_by number a None ≡ a
lesser_none number None = refl
lesser_none number (Some a) = refl

pub least_by_append : {K : Type 0} (number : K → ℕ) (xs ys : List K)
    → least_by number (xs ++ ys) ≡ lesser_by number (least_by number xs) (least_by number ys)
least_by_append number [] ys = refl
least_by_append number (x ∷ xs) ys =
    ap (lesser_by number (Some x)) (least_by_append number xs ys)
    ∙ sym (lesser_assoc number (Some x) (least_by number xs) (least_by number ys))

-- of the items so far and one more
pub least_by_next : {A K : Type 0} (number : K → ℕ) (f : A → List K) (xs : List A) (i : ℕ) (x : A) (old new here : Option K) → i < length xs
    → x ≡ get_or xs i x → old ≡ least_by number (flat_map f (take i xs)) → here ≡ least_by number (f x)
    → new ≡ lesser_by number old here → new ≡ least_by number (flat_map f (take (i + 1) xs))
least_by_next {A} {K} number f xs i x old new here below is so_far this joined =
    joined ∙ rw (so_far, this, take_next xs i x below is, flat_map-append f (take i xs) (x ∷ []))
    (sym (least_by_append number (flat_map f (take i xs)) (f x ++ [])
    ∙ ap (λ (ks : List K). lesser_by number (least_by number (flat_map f (take i xs))) (least_by number ks)) (append-nil (f x))))

-- ---- of the kinds of faults
pub least_append : (xs ys : List FaultKind) → least (xs ++ ys) ≡ lesser (least xs) (least ys)
least_append xs ys = least_by_append kind_number xs ys

-- of the items so far and one more
pub least_next : {A : Type 0} (f : A → List FaultKind) (xs : List A) (i : ℕ) (x : A) (old new here : Option FaultKind) → i < length xs
    → x ≡ get_or xs i x → old ≡ least (flat_map f (take i xs)) → here ≡ least (f x)
    → new ≡ lesser old here → new ≡ least (flat_map f (take (i + 1) xs))
least_next f xs i x old new here below is so_far this joined = least_by_next kind_number f xs i x old new here below is so_far this joined

-- two lists, one after the other
pub least_two : (xs ys : List FaultKind) (a b c : Option FaultKind) → a ≡ least xs → b ≡ least ys → c ≡ lesser a b → c ≡ least (xs ++ ys)
least_two xs ys a b c first second joined = joined ∙ rw (first, second) (sym (least_append xs ys))

pub drop_next : {A : Type 0} (xs : List A) (i : ℕ) (x : A) → i < length xs → x ≡ get_or xs i x → drop i xs ≡ x ∷ drop (i + 1) xs
drop_next [] i x below is = absurd (omega arith)
drop_next (y ∷ xs) zero x below is = ap (λ z. z ∷ xs) (sym is)
drop_next (y ∷ xs) (suc i) x below is = let next : suc i + 1 ≡ suc (i + 1) = omega arith in rw next (drop_next xs i x (omega arith) is)

pub drop_end : {A : Type 0} (xs : List A) (i : ℕ) → length xs ≤ i → drop i xs ≡ []
drop_end [] zero h = refl
drop_end [] (suc i) h = refl
drop_end (x ∷ xs) zero h = absurd (omega arith)
drop_end (x ∷ xs) (suc i) h = drop_end xs i (omega arith)

-- ---- arguments beside parameters
pub args_next : (known : List Param) (args args_left : List Atom) (params params_left : List Param) (a : Atom) (param : Param)
    (all old new here : Option FaultKind) → args ≡ a ∷ args_left → params ≡ param ∷ params_left
    → lesser old (least (args_faults known args params)) ≡ all → here ≡ least (passed_faults known a param) → new ≡ lesser old here
    → lesser new (least (args_faults known args_left params_left)) ≡ all
args_next known args args_left params params_left a param all old new here args_are params_are so_far this joined =
    let opened : lesser old (least (passed_faults known a param ++ args_faults known args_left params_left)) ≡ all = rw (args_are, params_are) at so_far in
    rw (joined, this) (lesser_assoc kind_number old _ _ ∙ ap (lesser old) (sym (least_append (passed_faults known a param) _)) ∙ opened)

pub args_end : (known : List Param) (args : List Atom) (params : List Param) (all old : Option FaultKind) → (args ≡ []) ⊎ (params ≡ [])
    → lesser old (least (args_faults known args params)) ≡ all → old ≡ all
args_end known args params all old (inl none) so_far = sym (lesser_none kind_number old) ∙ (rw none at so_far)
args_end known args params all old (inr none) so_far =
    let both : args_faults known args params ≡ [] = rw none (nothing args) in
    sym (lesser_none kind_number old) ∙ (rw both at so_far)
  where
    nothing : (rest : List Atom) → args_faults known rest [] ≡ []
    nothing [] = refl
    nothing (a ∷ rest) = refl

take_nothing : {A : Type 0} (n : ℕ) → take {A = A} n [] ≡ []
take_nothing zero = refl
take_nothing (suc n) = refl

pub take_min : {A : Type 0} (xs : List A) (n : ℕ) → take (min n (length xs)) xs ≡ take n xs
take_min [] n = take_nothing (min n 0) ∙ sym (take_nothing n)
take_min (x ∷ xs) zero = let none : min 0 (suc (length xs)) ≡ 0 = omega arith in rw none refl
take_min (x ∷ xs) (suc n) = let step : min (suc n) (suc (length xs)) ≡ suc (min n (length xs)) = omega arith in rw step (ap (λ ys. x ∷ ys) (take_min xs n))

pub drop_min : {A : Type 0} (xs : List A) (n : ℕ) → drop (min n (length xs)) xs ≡ drop n xs
drop_min [] n = drop_end [] (min n 0) (omega arith) ∙ sym (drop_end [] n (omega arith))
drop_min (x ∷ xs) zero = let none : min 0 (suc (length xs)) ≡ 0 = omega arith in rw none refl
drop_min (x ∷ xs) (suc n) = let step : min (suc n) (suc (length xs)) ≡ suc (min n (length xs)) = omega arith in rw step (drop_min xs n)
