-- Lists of numbers in order, and lists whose items have such numbers.
use Rattle.std.proofs.Common.{ℕ, zero, suc, ◌+◌, ◌-◌, ◌<◌, ◌≤◌, ◌≡◌, ◌⊎◌, List, [], ◌∷◌, ◌++◌, Bool, true, false, cond, ltb, length, get_or, set, drop, refl, ap, sym, ◌∙◌, inl, inr, arith}
use Rattle.std.specs.Prelude.{◌||◌, ◌==◌, not, map, filter, find, Some}
use Rattle.std.specs.List.{range_with_len}
use Rattle.std.proofs.Math.Seq.{drop-nil}
use Rattle.std.proofs.lemmas.Bool.{eq-eqb, ne_eqb, lt-ltb, le-ltb, cases_lt, cases_eq}
use Rattle.std.proofs.lemmas.List.Folds.{list_any-append}
use Rattle.ak_history.specs.Events.{is_among, numbers_below}
use Rattle.ak_pool.specs.Stands.{Each}

-- ---- items by their places
pub each_at : {A : Type 0} (P : A → Type 0) (xs : List A) (d : A) → ((i : ℕ) → i < length xs → P (get_or xs i d)) → Each P xs
each_at P [] d h = tt
each_at P (x ∷ xs) d h = (h 0 (omega arith), each_at P xs d (λ i lt. h (suc i) (omega arith)))

pub find_at : {A : Type 0} (p : A → Bool) (xs : List A) (d : A) (i : ℕ) → i < length xs → p (get_or xs i d) ≡ true
    → ((j : ℕ) → j < i → p (get_or xs j d) ≡ false) → find p xs ≡ Some (get_or xs i d)
find_at p [] d i lt e h = absurd (omega arith)
find_at p (x ∷ xs) d zero lt e h = ap (λ b. cond b (Some x) (find p xs)) e
find_at p (x ∷ xs) d (suc i) lt e h =
    ap (λ b. cond b (Some x) (find p xs)) (h 0 (omega arith)) ∙ find_at p xs d i (omega arith) e (λ j less. h (suc j) (omega arith))

-- ---- numbers in order
range_last : (a n : ℕ) → range_with_len a (suc n) ≡ range_with_len a n ++ (a + n) ∷ []
range_last a zero = let e : a ≡ a + 0 = omega arith in ap (λ k. k ∷ []) e
range_last a (suc n) =
    let e : a + 1 + n ≡ a + suc n = omega arith in
    ap (λ ks. a ∷ ks) (range_last (a + 1) n ∙ ap (λ k. range_with_len (a + 1) n ++ k ∷ []) e)

pub below_range : (n : ℕ) → numbers_below n ≡ range_with_len 0 n
below_range zero = refl
below_range (suc n) =
    let e : n ≡ 0 + n = omega arith in
    ap (λ ks. ks ++ n ∷ []) (below_range n) ∙ (ap (λ k. range_with_len 0 n ++ k ∷ []) e ∙ sym (range_last 0 n))

range_append : (a k m : ℕ) → range_with_len a k ++ range_with_len (a + k) m ≡ range_with_len a (k + m)
range_append a zero m =
    let e : a + 0 ≡ a = omega arith in
    let f : m ≡ 0 + m = omega arith in
    ap (λ n. range_with_len n m) e ∙ ap (range_with_len a) f
range_append a (suc k) m =
    let e : a + suc k ≡ a + 1 + k = omega arith in
    let f : suc (k + m) ≡ suc k + m = omega arith in
    ap (λ n. a ∷ (range_with_len (a + 1) k ++ range_with_len n m)) e
    ∙ (ap (λ ks. a ∷ ks) (range_append (a + 1) k m) ∙ ap (range_with_len a) f)

-- the numbers below one, and those from it on
pub below_then : (k n : ℕ) → k ≤ n → numbers_below k ++ range_with_len k (n - k) ≡ numbers_below n
below_then k n le =
    let e : k + (n - k) ≡ n = omega arith in
    let f : k ≡ 0 + k = omega arith in
    ap (λ ks. ks ++ range_with_len k (n - k)) (below_range k)
    ∙ (ap (λ a. range_with_len 0 k ++ range_with_len a (n - k)) f
    ∙ (range_append 0 k (n - k) ∙ (ap (range_with_len 0) e ∙ sym (below_range n))))

or_step : (a b : Bool) → b ≡ false → (a || (b || false)) ≡ a
or_step true b e = refl
or_step false b e = ap (λ c. c || false) e

or_now : (a b : Bool) → b ≡ true → (a || (b || false)) ≡ true
or_now true b e = refl
or_now false b e = ap (λ c. c || false) e

-- which numbers are below another
pub among_below : (k q : ℕ) → is_among (numbers_below k) q ≡ ltb q k
among_below zero q = sym (le-ltb q 0 (omega arith))
among_below (suc k) q =
    list_any-append (λ o. o == q) (numbers_below k) (k ∷ [])
    ∙ elim (cases_eq k q) [
      | inl e ↦ or_now (is_among (numbers_below k) q) (k == q) (eq-eqb k q e) ∙ sym (lt-ltb q (suc k) (omega arith))
      | inr ne ↦ or_step (is_among (numbers_below k) q) (k == q) (ne_eqb k q ne)
          ∙ (among_below k q ∙ elim (cases_lt q k) [
            | inl lt ↦ lt-ltb q k lt ∙ sym (lt-ltb q (suc k) (omega arith))
            | inr ge ↦ le-ltb q k ge ∙ sym (le-ltb q (suc k) (omega arith))
          ])
    ]

-- ---- items with numbers in order
pub numbers_are : {A : Type 0} (no' : A → ℕ) (xs : List A) (d : A) (n : ℕ) → ((i : ℕ) → i < length xs → no' (get_or xs i d) ≡ n + i)
    → map no' xs ≡ range_with_len n (length xs)
numbers_are no' [] d n h = refl
numbers_are no' (x ∷ xs) d n h =
    let first : no' x ≡ n = omega (arith, h 0 (omega arith)) in
    (λ i. first i ∷ numbers_are no' xs d (n + 1) (λ j lt. omega (arith, h (suc j) (omega arith))) i)

-- the items with numbers from one on
pub from_number : {A : Type 0} (no' : A → ℕ) (xs : List A) (d : A) (n k : ℕ) → ((i : ℕ) → i < length xs → no' (get_or xs i d) ≡ n + i)
    → filter (λ x. not (is_among (numbers_below k) (no' x))) xs ≡ drop (k - n) xs
from_number no' [] d n k h = sym (drop-nil (k - n))
from_number {A} no' (x ∷ xs) d n k h =
    of (cases_lt n k) (from_number no' xs d (n + 1) k (λ j lt. omega (arith, h (suc j) (omega arith))))
  where
    first : no' x ≡ n
    first = omega (arith, h 0 (omega arith))

    among : is_among (numbers_below k) (no' x) ≡ ltb n k
    among = among_below k (no' x) ∙ ap (λ m. ltb m k) first

    ys : List A
    ys = filter (λ y. not (is_among (numbers_below k) (no' y))) xs

    of : (n < k) ⊎ (k ≤ n) → ys ≡ drop (k - (n + 1)) xs → cond (not (is_among (numbers_below k) (no' x))) (x ∷ ys) ys ≡ drop (k - n) (x ∷ xs)
    of (inl lt) rest =
        let e : k - n ≡ suc (k - (n + 1)) = omega arith in
        ap (λ b. cond (not b) (x ∷ ys) ys) (among ∙ lt-ltb n k lt) ∙ (rest ∙ sym (ap (λ m. drop m (x ∷ xs)) e))
    of (inr ge) rest =
        let e : k - n ≡ 0 = omega arith in
        let f : k - (n + 1) ≡ 0 = omega arith in
        ap (λ b. cond (not b) (x ∷ ys) ys) (among ∙ le-ltb n k ge)
        ∙ (ap (λ zs. x ∷ zs) (rest ∙ ap (λ m. drop m xs) f) ∙ sym (ap (λ m. drop m (x ∷ xs)) e))

-- a test of what is made of the items
pub filter_mapped : {A B : Type 0} (p : B → Bool) (g : A → B) (xs : List A) → filter p (map g xs) ≡ map g (filter (λ x. p (g x)) xs)
filter_mapped p g [] = refl
filter_mapped {A} {B} p g (x ∷ xs) = of (p (g x)) (filter_mapped p g xs)
  where
    of : (b : Bool) → filter p (map g xs) ≡ map g (filter (λ y. p (g y)) xs)
        → cond b (g x ∷ filter p (map g xs)) (filter p (map g xs)) ≡ map g (cond b (x ∷ filter (λ y. p (g y)) xs) (filter (λ y. p (g y)) xs))
    of true e = ap (λ ys. g x ∷ ys) e
    of false e = e

pub map_mapped : {A B C : Type 0} (g : B → C) (f : A → B) (xs : List A) → map g (map f xs) ≡ map (λ x. g (f x)) xs
map_mapped g f [] = refl
map_mapped g f (x ∷ xs) = ap (λ ys. g (f x) ∷ ys) (map_mapped g f xs)

-- a write that leaves what is made of the item
pub map_set_same : {A B : Type 0} (g : A → B) (xs : List A) (i : ℕ) (y d : A) → g y ≡ g (get_or xs i d) → map g (set xs i y) ≡ map g xs
map_set_same g [] i y d e = refl
map_set_same g (x ∷ xs) zero y d e = ap (λ b. b ∷ map g xs) e
map_set_same g (x ∷ xs) (suc i) y d e = ap (λ bs. g x ∷ bs) (map_set_same g xs i y d e)
