-- Sums over a list, where one element changes, and what holds of each element or of some.
use Rattle.std.proofs.Common.{◌≡◌, ◌≢◌, ℕ, zero, suc, ◌+◌, ◌≤◌, List, [], ◌∷◌, ◌++◌, set, sym, refl, ap, arith, inl, inr, ⊎_elim}
use mathlib.Core.Option.{some, some-injective, some-ne-none}
use mathlib.Core.Logic.{dite}
use native.Mathlib.Decide.{ℕ_discrete}
use lib.ListN.{get_elem?}
use Rattle.ak_turn.specs.Entries.{total, Each, SomeOf}

module _ {X : Type 0} (f : X → ℕ) where
  -- a set of one element
  pub total-set : (xs : List X) (i : ℕ) (x y : X) → get_elem? xs i ≡ some x → total f (set xs i y) + f x ≡ total f xs + f y
  total-set [] i x y e = absurd (some-ne-none x (sym e))
  total-set (z ∷ zs) zero x y e = let same : f z ≡ f x = ap f (some-injective z x e) in omega arith
  total-set (z ∷ zs) (suc i) x y e = let h : total f (set zs i y) + f x ≡ total f zs + f y = total-set zs i x y e in omega arith

  pub total-push : (xs : List X) (y : X) → total f (xs ++ y ∷ []) ≡ total f xs + f y
  total-push [] y = omega arith
  total-push (z ∷ zs) y = let h = total-push zs y in omega arith

  pub total-append : (xs ys : List X) → total f (xs ++ ys) ≡ total f xs + total f ys
  total-append [] ys = omega arith
  total-append (z ∷ zs) ys = let h = total-append zs ys in omega arith

  -- no element is above the sum, nor are two
  pub total_has : (xs : List X) (i : ℕ) (x : X) → get_elem? xs i ≡ some x → f x ≤ total f xs
  total_has [] i x e = absurd (some-ne-none x (sym e))
  total_has (z ∷ zs) zero x e = let same : f z ≡ f x = ap f (some-injective z x e) in omega arith
  total_has (z ∷ zs) (suc i) x e = let h : f x ≤ total f zs = total_has zs i x e in omega arith

  pub total_two : (xs : List X) (i j : ℕ) (x y : X) → i ≢ j → get_elem? xs i ≡ some x → get_elem? xs j ≡ some y → f x + f y ≤ total f xs
  total_two [] i j x y n d e = absurd (some-ne-none x (sym d))
  total_two (z ∷ zs) zero zero x y n d e = absurd (n refl)
  total_two (z ∷ zs) zero (suc j) x y n d e = let same : f z ≡ f x = ap f (some-injective z x d) in let h : f y ≤ total f zs = total_has zs j y e in omega arith
  total_two (z ∷ zs) (suc i) zero x y n d e = let same : f z ≡ f y = ap f (some-injective z y e) in let h : f x ≤ total f zs = total_has zs i x d in omega arith
  total_two (z ∷ zs) (suc i) (suc j) x y n d e = let h : f x + f y ≤ total f zs = total_two zs i j x y (λ k. n (ap suc k)) d e in omega arith

  -- where the sum is not 0 some element is not
  pub total_some : (xs : List X) → 1 ≤ total f xs → (i : ℕ) × (x : X) × (get_elem? xs i ≡ some x) × (1 ≤ f x)
  total_some [] h = absurd (omega arith)
  total_some (z ∷ zs) h = dite (ℕ_discrete (f z) 0)
      (λ e. let t = total_some zs (omega arith) in (suc t.0, t.1, t.2, t.3))
      (λ ne. (zero, z, refl, omega arith))

-- a sum of smaller numbers
pub total_le : {X : Type 0} (f g : X → ℕ) (xs : List X) → ((i : ℕ) (x : X) → get_elem? xs i ≡ some x → f x ≤ g x) → total f xs ≤ total g xs
total_le f g [] h = omega arith
total_le f g (z ∷ zs) h = let a : f z ≤ g z = h zero z refl in let b : total f zs ≤ total g zs = total_le f g zs (λ i x e. h (suc i) x e) in omega arith

module _ {X : Type 0} (P : X → Type 0) where
  pub each-append : (xs ys : List X) → Each P xs → Each P ys → Each P (xs ++ ys)
  each-append [] ys a b = b
  each-append (x ∷ xs) ys a b = (a.0, each-append xs ys a.1 b)

  pub each_front : (xs ys : List X) → Each P (xs ++ ys) → Each P xs × Each P ys
  each_front [] ys h = (tt, h)
  each_front (x ∷ xs) ys h = let t = each_front xs ys h.1 in ((h.0, t.0), t.1)

  pub some_left : (xs ys : List X) → SomeOf P xs → SomeOf P (xs ++ ys)
  some_left [] ys h = absurd h
  some_left (x ∷ xs) ys h = ⊎_elim inl (λ t. inr (some_left xs ys t)) h

  pub some_right : (xs ys : List X) → SomeOf P ys → SomeOf P (xs ++ ys)
  some_right [] ys h = h
  some_right (x ∷ xs) ys h = inr (some_right xs ys h)
