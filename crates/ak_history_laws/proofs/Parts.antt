-- Truth values, and counts in lists that grow.
use Rattle.std.proofs.Common.{◌≡◌, ℕ, ◌+◌, ◌≤◌, Bool, true, false, cond, List, [], ◌∷◌, ◌++◌, refl, ap, ◌∙◌, arith}
use Rattle.std.specs.Prelude.{◌||◌, ◌&&◌, count_by}
use Rattle.std.specs.List.{list_any}
use Rattle.std.proofs.lemmas.List.Sums.{sum_by-append}

pub or_parts : (a b : Bool) → (a || b) ≡ false → (a ≡ false) × (b ≡ false)
or_parts true b h = absurd (cc h)
or_parts false b h = (refl, h)

pub or_both : (a b : Bool) → a ≡ false → b ≡ false → (a || b) ≡ false
or_both a b e k = ap (λ c. c || b) e ∙ k

pub or_yes : (b : Bool) → (b || true) ≡ true
or_yes true = refl
or_yes false = refl

pub or_no : (b : Bool) → (b || false) ≡ b
or_no true = refl
or_no false = refl

pub or_true : (a b : Bool) → b ≡ true → (a || b) ≡ true
or_true true b e = refl
or_true false b e = e

pub or_assoc : (x y z : Bool) → (x || (y || z)) ≡ ((x || y) || z)
or_assoc true y z = refl
or_assoc false y z = refl

pub and_no : (b : Bool) → (b && false) ≡ false
and_no true = refl
and_no false = refl

abbrev pub bit : Bool → ℕ
bit b = cond b 1 0

pub count_append : {A : Type 0} (p : A → Bool) (xs ys : List A) → count_by p (xs ++ ys) ≡ count_by p xs + count_by p ys
count_append p xs ys = sum_by-append (λ x. cond (p x) 1 0) xs ys

pub count_more : {A : Type 0} (p : A → Bool) (xs : List A) (x : A) → count_by p (xs ++ x ∷ []) ≡ count_by p xs + bit (p x)
count_more p xs x =
    let l : count_by p (x ∷ []) ≡ 0 + bit (p x) = refl in
    omega (arith, count_append p xs (x ∷ []), l)

pub count_cons : {A : Type 0} (p : A → Bool) (x : A) (xs : List A) → count_by p (x ∷ xs) ≡ bit (p x) + count_by p xs
count_cons p x xs =
    let l : count_by p (x ∷ []) ≡ 0 + bit (p x) = refl in
    omega (arith, count_append p (x ∷ []) xs, l)

pub count_none : {A : Type 0} (p : A → Bool) (xs : List A) → list_any p xs ≡ false → count_by p xs ≡ 0
count_none p [] none = refl
count_none {A} p (x ∷ xs) none = one (p x) refl none (λ k. count_none p xs k)
  where
    one : (b : Bool) → p x ≡ b → (b || list_any p xs) ≡ false → (list_any p xs ≡ false → count_by p xs ≡ 0) → count_by p (x ∷ xs) ≡ 0
    one true is none later = absurd (cc none)
    one false is none later = omega (arith, count_cons p x xs, ap bit is, later none)

pub count_some : {A : Type 0} (p : A → Bool) (xs : List A) → list_any p xs ≡ true → 1 ≤ count_by p xs
count_some p [] some = absurd (cc some)
count_some {A} p (x ∷ xs) some = one (p x) refl some (λ k. count_some p xs k)
  where
    one : (b : Bool) → p x ≡ b → (b || list_any p xs) ≡ true → (list_any p xs ≡ true → 1 ≤ count_by p xs) → 1 ≤ count_by p (x ∷ xs)
    one true is some later = omega (arith, count_cons p x xs, ap bit is)
    one false is some later = omega (arith, count_cons p x xs, ap bit is, later some)
