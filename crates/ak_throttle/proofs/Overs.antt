-- Bodies that are over before the first that runs are counted.
use Rattle.std.proofs.Common.{ℕ, zero, suc, ◌+◌, ◌-◌, ◌≤◌, ◌≡◌, List, [], ◌∷◌, ◌++◌, drop, replicate, set, refl, ap, sym, ◌∙◌, Bool, true, false, cond, arith, append_assoc}
use Rattle.std.specs.Prelude.{not, count_by, Some, slice_get, slice_set}
use Rattle.std.specs.List.{prefix_len}
use Rattle.std.proofs.lemmas.List.{set-append_right, length-replicate}
use Rattle.std.proofs.lemmas.List.Sums.{sum_by-cons}
use Rattle.std.proofs.lemmas.Bool.{not-false, not-true}
use Rattle.std.proofs.lemmas.Grind.{replicate_next}
use Rattle.ak_throttle.specs.Started.{is_first_running, is_marked_over}

first_over : (n : ℕ) (over : Bool) (xs : List Bool) → over ≡ true → replicate n true ++ (over ∷ xs) ≡ replicate (n + 1) true ++ xs
first_over n over xs e =
    ap (λ o. replicate n true ++ (o ∷ xs)) e
    ∙ sym (append_assoc (replicate n true) (true ∷ []) xs)
    ∙ ap (λ r. r ++ xs) (sym (replicate_next n true))

-- 1 for a body that runs
abbrev one : Bool → ℕ
one over = cond (not over) 1 0

one_running : (over : Bool) → over ≡ false → one over ≡ 1
one_running over e = ap one e

one_over : (over : Bool) → over ≡ true → one over ≡ 0
one_over over e = ap one e

some_is : (x y : Bool) → Some x ≡ Some y → x ≡ y
some_is x y e = cc

-- one more body in front that is over
pub counted : (n : ℕ) (xs : List Bool) → is_first_running xs ≡ false → replicate n true ++ xs ≡ replicate (n + 1) true ++ drop 1 xs
counted n [] e = cc
counted n (x ∷ xs) e = first_over n x xs (not-false x e)

pub count_same : (xs : List Bool) → is_first_running xs ≡ false → count_by not (drop 1 xs) ≡ count_by not xs
count_same [] e = refl
count_same (x ∷ xs) e = omega (arith, sum_by-cons one x xs, one_over x (not-false x e))

-- the number of those before the first that runs
pub over_first : (n : ℕ) (xs : List Bool) → is_first_running xs ≡ true → prefix_len is_marked_over (replicate n true ++ xs) ≡ n
over_first zero [] e = refl
over_first zero (x ∷ xs) e = ap (λ (b : Bool). cond b (1 + prefix_len is_marked_over xs) 0) (not-true x e)
over_first (suc n) xs e = omega (arith, over_first n xs e)

-- one of those behind the counted ones is over
pub set_behind : (n k m : ℕ) (xs : List Bool) → n ≤ m → k ≡ m - n → slice_set (replicate n true ++ xs) m true ≡ replicate n true ++ slice_set xs k true
set_behind n k m xs h e =
    set-append_right (replicate n true) xs n m true (length-replicate n true) h ∙ ap (λ i. replicate n true ++ set xs i true) (sym e)

-- one fewer runs
pub one_fewer : (xs : List Bool) (k : ℕ) → slice_get xs k ≡ Some false → count_by not (slice_set xs k true) + 1 ≡ count_by not xs
one_fewer [] k e = cc
one_fewer (x ∷ xs) zero e = omega (arith, sum_by-cons one true xs, sum_by-cons one x xs, one_running x (some_is x false e))
one_fewer (x ∷ xs) (suc k) e = omega (arith, sum_by-cons one x (slice_set xs k true), sum_by-cons one x xs, one_fewer xs k e)

-- a body that runs is behind the counted ones
pub is_behind : (n m : ℕ) (xs : List Bool) → slice_get (replicate n true ++ xs) m ≡ Some false → n ≤ m
is_behind zero m xs e = omega arith
is_behind (suc n) zero xs e = cc
is_behind (suc n) (suc m) xs e = omega (arith, is_behind n m xs e)
