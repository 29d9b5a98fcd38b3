-- Hands that are made one after another.
use Rattle.std.proofs.Common.{◌≡◌, ℕ, ◌+◌, List, [], ◌∷◌, ◌++◌, length, sym, ap, subst, arith}
use Rattle.std.specs.List.{AllByRecursion}
use Rattle.std.proofs.lemmas.List.{length-append}

-- one hand more that has done nothing
pub none_more : (xs ys : List ℕ) (x : ℕ) → ys ≡ xs ++ x ∷ [] → AllByRecursion (λ (h : ℕ). h ≡ 0) xs → x ≡ 0 → AllByRecursion (λ (h : ℕ). h ≡ 0) ys
none_more xs ys x now all one = subst (AllByRecursion (λ (h : ℕ). h ≡ 0)) (sym now) (more xs all)
  where
    more : (xs : List ℕ) → AllByRecursion (λ (h : ℕ). h ≡ 0) xs → AllByRecursion (λ (h : ℕ). h ≡ 0) (xs ++ x ∷ [])
    more [] h = (one, tt)
    more (y ∷ xs) h = (h.0, more xs h.1)

pub one_longer : (xs ys : List ℕ) (x n : ℕ) → ys ≡ xs ++ x ∷ [] → length xs ≡ n → length ys ≡ n + 1
one_longer xs ys x n now size = omega (arith, ap length now, length-append xs (x ∷ []), size)
