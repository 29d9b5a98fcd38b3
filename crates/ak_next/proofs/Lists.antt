-- Lists, numbers below another, and counts.
use Rattle.std.proofs.Common.{◌≡◌, ◌⊎◌, inl, inr, ℕ, zero, suc, ◌+◌, ◌≤◌, ◌<◌, Bool, true, false, cond, List, [], ◌∷◌, ◌++◌, length, refl, sym, ap, subst, ◌∙◌, arith}
use Rattle.std.specs.Prelude.{◌||◌, ◌==◌, not, filter, find, count_by, Option, Some, None, is_some}
use Rattle.std.specs.Option.{option_map}
use Rattle.std.specs.List.{cons_option, filter_map, list_any}
use Rattle.std.proofs.lemmas.Bool.{eqb-true, cases_eq}
use Rattle.std.proofs.lemmas.List.Elements.{filter_map-append}
use Rattle.ak_base.specs.Lists.{first_of}
use Rattle.ak_history.specs.Events.{numbers_below}
use Rattle.ak_pool.specs.Stands.{Each}
use Rattle.ak_pool.proofs.Items.{each_append, each_map}
use Rattle.ak_history_laws.proofs.Parts.{bit, count_more}

-- ---- what is found
pub found_first : {A : Type 0} (p : A → Bool) (xs : List A) → find p xs ≡ first_of (filter p xs)
found_first p [] = refl
found_first {A} p (x ∷ xs) = one (p x) (found_first p xs)
  where
    one : (b : Bool) → find p xs ≡ first_of (filter p xs) → cond b (Some x) (find p xs) ≡ first_of (cond b (x ∷ filter p xs) (filter p xs))
    one true later = refl
    one false later = later

-- an item that is found passes any test that passes it
pub any_at : {A : Type 0} (p q : A → Bool) (xs : List A) (a : A) → find p xs ≡ Some a → q a ≡ true → list_any q xs ≡ true
any_at p q [] a e is = absurd (cc e)
any_at {A} p q (x ∷ xs) a e is = one (p x) e (q x) refl (λ now. any_at p q xs a now is)
  where
    one : (b : Bool) → cond b (Some x) (find p xs) ≡ Some a → (c : Bool) → q x ≡ c → (find p xs ≡ Some a → list_any q xs ≡ true)
        → (c || list_any q xs) ≡ true
    one true now c here later = let same : x ≡ a = cc now in ap (λ b. b || list_any q xs) (sym here ∙ (ap q same ∙ is))
    one false now true here later = refl
    one false now false here later = later now

pub mapped_some : {A B : Type 0} (f : A → B) (o : Option A) (y : B) → option_map f o ≡ Some y → (x : A) × (o ≡ Some x) × (f x ≡ y)
mapped_some f None y e = absurd (cc e)
mapped_some f (Some x) y e = (x, refl, cc e)

pub mapped_none : {A B : Type 0} (f : A → B) (o : Option A) → option_map f o ≡ None → o ≡ None
mapped_none f None e = refl
mapped_none f (Some x) e = absurd (cc e)

pub is_some_mapped : {A B : Type 0} (f : A → B) (o : Option A) → is_some (option_map f o) ≡ is_some o
is_some_mapped f None = refl
is_some_mapped f (Some x) = refl

pub same_options : (a b : Option ℕ) → ((n : ℕ) → a ≡ Some n → b ≡ Some n) → ((n : ℕ) → b ≡ Some n → a ≡ Some n) → a ≡ b
same_options None None f g = refl
same_options None (Some n) f g = absurd (cc (g n refl))
same_options (Some n) b f g = sym (f n refl)

-- ---- what is mapped where there is something
pub append_none : {A : Type 0} (xs ys : List A) → xs ++ ys ≡ [] → (xs ≡ []) × (ys ≡ [])
append_none [] ys e = (refl, e)
append_none (x ∷ xs) ys e = absurd (cc e)

cons_none : {A : Type 0} (o : Option A) → cons_option o [] ≡ [] → o ≡ None
cons_none None e = refl
cons_none (Some x) e = absurd (cc e)

-- where nothing is mapped from the numbers below another, each gives nothing
pub none_mapped : {B : Type 0} (f : ℕ → Option B) (k : ℕ) → filter_map f (numbers_below k) ≡ [] → (n : ℕ) → n < k → f n ≡ None
none_mapped f zero e n lt = absurd (omega (arith, lt))
none_mapped {B} f (suc k) e n lt = of (cases_eq n k) (λ none ne. none_mapped f k none n (omega (arith, lt, ne)))
  where
    both : (filter_map f (numbers_below k) ≡ []) × (cons_option (f k) [] ≡ [])
    both = append_none (filter_map f (numbers_below k)) (cons_option (f k) []) (sym (filter_map-append f (numbers_below k) (k ∷ [])) ∙ e)

    of : (n ≡ k) ⊎ (n ≡ k → ⊥) → (filter_map f (numbers_below k) ≡ [] → (n ≡ k → ⊥) → f n ≡ None) → f n ≡ None
    of (inl same) later = ap f same ∙ cons_none (f k) both.1
    of (inr ne) later = later both.0 ne

-- it is given by a number below another
abbrev pub IsGiven : {B : Type 0} → (ℕ → Option B) → ℕ → B → Type 0
IsGiven f k y = (n : ℕ) × (n < k) × (f n ≡ Some y)

-- each that is mapped from the numbers below another is given by one of them
pub each_given : {B : Type 0} (f : ℕ → Option B) (k : ℕ) → Each (IsGiven f k) (filter_map f (numbers_below k))
each_given f zero = tt
each_given {B} f (suc k) =
    subst (Each (IsGiven f (suc k))) (sym (filter_map-append f (numbers_below k) (k ∷ [])))
    (each_append (IsGiven f (suc k)) (filter_map f (numbers_below k)) (cons_option (f k) [])
    (each_map (IsGiven f k) (IsGiven f (suc k)) (λ y g. (g.0, omega (arith, g.1), g.2)) (filter_map f (numbers_below k)) (each_given f k))
    (one (f k) refl))
  where
    one : (o : Option B) → f k ≡ o → Each (IsGiven f (suc k)) (cons_option o [])
    one None e = tt
    one (Some y) e = ((k, omega arith, e), tt)

-- ---- counts
bit_few : (b : Bool) → bit b ≤ 1
bit_few true = omega arith
bit_few false = omega arith

pub count_few : (p : ℕ → Bool) (n : ℕ) → count_by p (numbers_below n) ≤ n
count_few p zero = omega arith
count_few p (suc n) = omega (arith, count_more p (numbers_below n) n, count_few p n, bit_few (p n))

count_alike : (p q : ℕ → Bool) (n : ℕ) → ((u : ℕ) → u < n → p u ≡ q u) → count_by q (numbers_below n) ≡ count_by p (numbers_below n)
count_alike p q zero h = refl
count_alike p q (suc n) h =
    omega (
      arith,
      count_more p (numbers_below n) n,
      count_more q (numbers_below n) n,
      ap bit (h n (omega arith)),
      count_alike p q n (λ u lt. h u (omega (arith, lt))),
    )

-- one number more passes
pub count_up : (p q : ℕ → Bool) (t n : ℕ) → t < n → p t ≡ false → q t ≡ true → ((u : ℕ) → (u ≡ t → ⊥) → p u ≡ q u)
    → count_by q (numbers_below n) ≡ count_by p (numbers_below n) + 1
count_up p q t zero lt fails passes h = absurd (omega (arith, lt))
count_up p q t (suc n) lt fails passes h = of (cases_eq t n) (λ less. count_up p q t n less fails passes h)
  where
    of : (t ≡ n) ⊎ (t ≡ n → ⊥) → (t < n → count_by q (numbers_below n) ≡ count_by p (numbers_below n) + 1)
        → count_by q (numbers_below (suc n)) ≡ count_by p (numbers_below (suc n)) + 1
    of (inl same) later =
        omega (
          arith,
          count_more p (numbers_below n) n,
          count_more q (numbers_below n) n,
          ap bit (ap p (sym same) ∙ fails),
          ap bit (ap q (sym same) ∙ passes),
          count_alike p q n (λ u less. h u (λ e. absurd (omega (arith, e, less, same)))),
        )
    of (inr ne) later =
        omega (
          arith,
          count_more p (numbers_below n) n,
          count_more q (numbers_below n) n,
          ap bit (h n (λ e. ne (sym e))),
          later (omega (arith, lt, ne)),
        )

-- ---- so many different numbers stand in no shorter list
kept_few : (p : ℕ → Bool) (xs : List ℕ) → length (filter p xs) ≤ length xs
kept_few p [] = omega arith
kept_few p (x ∷ xs) = one (p x) (kept_few p xs)
  where
    one : (b : Bool) → length (filter p xs) ≤ length xs → length (cond b (x ∷ filter p xs) (filter p xs)) ≤ length (x ∷ xs)
    one true later = omega (arith, later)
    one false later = omega (arith, later)

shorter : (y : ℕ) (xs : List ℕ) → list_any (λ k. k == y) xs ≡ true → length (filter (λ k. not (k == y)) xs) + 1 ≤ length xs
shorter y [] e = absurd (cc e)
shorter y (x ∷ xs) e = one (x == y) e (λ now. shorter y xs now)
  where
    one : (b : Bool) → (b || list_any (λ k. k == y) xs) ≡ true
        → (list_any (λ k. k == y) xs ≡ true → length (filter (λ k. not (k == y)) xs) + 1 ≤ length xs)
        → length (cond (not b) (x ∷ filter (λ k. not (k == y)) xs) (filter (λ k. not (k == y)) xs)) + 1 ≤ length (x ∷ xs)
    one true now later = omega (arith, kept_few (λ k. not (k == y)) xs)
    one false now later = omega (arith, later now)

still_there : (y z : ℕ) (xs : List ℕ) → (z ≡ y → ⊥) → list_any (λ k. k == z) xs ≡ true → list_any (λ k. k == z) (filter (λ k. not (k == y)) xs) ≡ true
still_there y z [] ne e = absurd (cc e)
still_there y z (x ∷ xs) ne e = one (x == y) refl (x == z) refl e (still_there y z xs ne)
  where
    rest : List ℕ
    rest = filter (λ k. not (k == y)) xs

    one : (b : Bool) → (x == y) ≡ b → (c : Bool) → (x == z) ≡ c → (c || list_any (λ k. k == z) xs) ≡ true
        → (list_any (λ k. k == z) xs ≡ true → list_any (λ k. k == z) rest ≡ true)
        → list_any (λ k. k == z) (cond (not b) (x ∷ rest) rest) ≡ true
    one true is true here now later = absurd (ne (sym (eqb-true x z here) ∙ eqb-true x y is))
    one true is false here now later = later now
    one false is true here now later = ap (λ b. b || list_any (λ k. k == z) rest) here
    one false is false here now later = ap (λ b. b || list_any (λ k. k == z) rest) here ∙ later now

-- LAW. Different numbers in a list are no more than the list has.
pub no_more : (n : ℕ) (f : ℕ → ℕ) (xs : List ℕ) → ((t : ℕ) → t < n → list_any (λ k. k == f t) xs ≡ true)
    → ((t u : ℕ) → t < n → u < n → f t ≡ f u → t ≡ u) → n ≤ length xs
no_more zero f xs there apart = omega arith
no_more (suc n) f xs there apart =
    let rest = filter (λ k. not (k == f n)) xs in
    let few : n ≤ length rest = no_more n f rest
    (λ t lt. still_there (f n) (f t) xs (λ e. absurd (omega (arith, apart t n (omega (arith, lt)) (omega arith) e, lt))) (there t (omega (arith, lt))))
    (λ t u lt less e. apart t u (omega (arith, lt)) (omega (arith, less)) e) in
    omega (arith, few, shorter (f n) xs (there n (omega arith)))
