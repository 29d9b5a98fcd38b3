-- Things in order of their numbers.
use Rattle.std.proofs.Common.{ℕ, ◌+◌, ◌<◌, ◌≤◌, ◌≡◌, List, [], ◌∷◌, ◌++◌, refl, ap, ◌∙◌, Bool, true, false, cond, arith}
use Rattle.std.specs.Prelude.{not, ◌==◌, filter, find, Some, None}
use Rattle.std.proofs.lemmas.Bool.{ne_eqb}
use Rattle.ak_base.specs.Numbers.{AreNumbered}

-- a later number stands nowhere before it
pub no_earlier : {A : Type 0} (number : A → ℕ) (low high n : ℕ) (xs : List A) → n < low → AreNumbered number low high xs
    → (find (λ x. number x == n) xs ≡ None) × (filter (λ x. not (number x == n)) xs ≡ xs)
no_earlier number low high n [] l a = (refl, refl)
no_earlier number low high n (x ∷ xs) l a =
    let other : (number x == n) ≡ false = ne_eqb (number x) n (λ h. omega (arith, h, l, a.0))
    in let rest = no_earlier number (number x + 1) high n xs (omega (arith, l, a.0)) a.2
    in (
      ap (λ t. cond t (Some x) (find (λ y. number y == n) xs)) other ∙ rest.0,
      ap (λ t. cond (not t) (x ∷ filter (λ y. not (number y == n)) xs) (filter (λ y. not (number y == n)) xs)) other ∙ ap (λ r. x ∷ r) rest.1,
    )

-- the least number may be less
pub lowered : {A : Type 0} (number : A → ℕ) (lower low high : ℕ) (xs : List A) → lower ≤ low → AreNumbered number low high xs
    → AreNumbered number lower high xs
lowered number lower low high [] m a = tt
lowered number lower low high (x ∷ xs) m a = (omega (arith, m, a.0), a.1, a.2)

-- one more, under the next number
pub numbered_more : {A : Type 0} (number : A → ℕ) (low high : ℕ) (xs : List A) (x : A) → low ≤ high → number x ≡ high → AreNumbered number low high xs
    → AreNumbered number low (high + 1) (xs ++ x ∷ [])
numbered_more number low high [] x m e a = (omega (arith, m, e), omega (arith, e), tt)
numbered_more number low high (y ∷ ys) x m e a = (a.0, omega (arith, a.1), numbered_more number (number y + 1) high ys x (omega (arith, a.1)) e a.2)

kept_or_not : {A : Type 0} (number : A → ℕ) (t : Bool) (low high : ℕ) (x : A) (xs : List A) → low ≤ number x → number x < high
    → AreNumbered number (number x + 1) high xs → AreNumbered number low high (cond t (x ∷ xs) xs)
kept_or_not number true low high x xs p q a = (p, q, a)
kept_or_not number false low high x xs p q a = lowered number low (number x + 1) high xs (omega (arith, p)) a

-- those that pass a test
pub numbered_filtered : {A : Type 0} (number : A → ℕ) (p : A → Bool) (low high : ℕ) (xs : List A) → AreNumbered number low high xs
    → AreNumbered number low high (filter p xs)
numbered_filtered number p low high [] a = a
numbered_filtered number p low high (x ∷ xs) a =
    kept_or_not number (p x) low high x (filter p xs) a.0 a.1 (numbered_filtered number p (number x + 1) high xs a.2)
