-- What all items of a list have, as it grows and is cut.
use Rattle.std.proofs.Common.{ℕ, zero, suc, ◌≡◌, List, [], ◌∷◌, ◌++◌, Some, subst}
use Rattle.std.specs.List.{AllByRecursion, slice_get}

-- what all have and the new last item has, all have
pub all_push : {A : Type 0} (P : A → Type 0) (xs : List A) (x : A)
    → AllByRecursion P xs → P x → AllByRecursion P (xs ++ x ∷ [])
all_push P [] x p q = (q, tt)
all_push P (y ∷ ys) x p q = (p.0, all_push P ys x p.1 q)

-- what all of two lists have, all of both have
pub all_append : {A : Type 0} (P : A → Type 0) (xs ys : List A) → AllByRecursion P xs → AllByRecursion P ys → AllByRecursion P (xs ++ ys)
all_append P [] ys p q = q
all_append P (x ∷ xs) ys p q = (p.0, all_append P xs ys p.1 q)

-- and so have those in front of others
pub all_front : {A : Type 0} (P : A → Type 0) (xs ys : List A) → AllByRecursion P (xs ++ ys) → AllByRecursion P xs
all_front P [] ys p = tt
all_front P (x ∷ xs) ys p = (p.0, all_front P xs ys p.1)

-- one between others
pub all_between : {A : Type 0} (P : A → Type 0) (xs ys : List A) (x : A) → AllByRecursion P (xs ++ x ∷ ys) → P x
all_between P [] ys x p = p.0
all_between P (y ∷ xs) ys x p = all_between P xs ys x p.1

same_item : {A : Type 0} {x y : A} → Some x ≡ Some y → x ≡ y
same_item e = cc

-- and one at its place
pub all_get : {A : Type 0} (P : A → Type 0) (xs : List A) (k : ℕ) (x : A) → AllByRecursion P xs → slice_get xs k ≡ Some x → P x
all_get P [] k x p e = cc
all_get P (y ∷ xs) zero x p e = subst P (same_item e) p.0
all_get P (y ∷ xs) (suc k) x p e = all_get P xs k x p.1 e
