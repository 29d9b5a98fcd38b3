-- What is left of a list.
use Rattle.std.proofs.Common.{◌≡◌, ℕ, zero, suc, ◌+◌, ◌<◌, ◌≤◌, List, [], ◌∷◌, length, drop, get_or, sym, ap, ◌∙◌, refl, arith, add-one}
use Rattle.std.proofs.Math.Seq.{drop-cons}

pub cons_at : {X : Type 0} (xs : List X) (k : ℕ) (x : X) → k < length xs → x ≡ get_or xs k x → drop k xs ≡ x ∷ drop (k + 1) xs
cons_at [] k x h e = absurd (omega (arith, h))
cons_at (y ∷ ys) k x h e = drop-cons (y ∷ ys) k x h ∙ ap (λ z. z ∷ drop (suc k) (y ∷ ys)) (sym e) ∙ ap (λ n. x ∷ drop n (y ∷ ys)) (sym (add-one k))

pub drop_all : {X : Type 0} (xs : List X) (k : ℕ) → length xs ≤ k → drop k xs ≡ []
drop_all [] zero h = refl
drop_all [] (suc k) h = refl
drop_all (x ∷ xs) zero h = absurd (omega (arith, h))
drop_all (x ∷ xs) (suc k) h = drop_all xs k (omega (arith, h))
