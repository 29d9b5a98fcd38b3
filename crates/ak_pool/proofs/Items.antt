-- Lists of which something holds at each item, and filters and searches of lists.
use Rattle.std.proofs.Common.{ℕ, ◌≡◌, List, [], ◌∷◌, ◌++◌, Bool, true, false, cond, refl, ap, ◌∙◌, subst, append-nil}
use Rattle.std.specs.Prelude.{◌&&◌, ◌||◌, ◌==◌, filter, find, Option, Some, None, is_some}
use Rattle.std.specs.List.{list_any, list_all}
use Rattle.std.specs.Option.{option_or}
use Rattle.std.proofs.lemmas.Bool.{eq-eqb, or_right}
use Rattle.std.proofs.lemmas.List.Folds.{find-append, list_any-append}
use Rattle.std.proofs.lemmas.List.Elements.{filter-append}
use Rattle.ak_pool.specs.Stands.{Each}

pub each_map : {A : Type 0} (P Q : A → Type 0) → ((x : A) → P x → Q x) → (xs : List A) → Each P xs → Each Q xs
each_map P Q f [] h = tt
each_map P Q f (x ∷ xs) h = (f x h.0, each_map P Q f xs h.1)

pub each_last : {A : Type 0} (P : A → Type 0) (xs : List A) (x : A) → Each P xs → P x → Each P (xs ++ x ∷ [])
each_last P [] x h p = (p, tt)
each_last P (y ∷ ys) x h p = (h.0, each_last P ys x h.1 p)

pub each_both : {A : Type 0} (P Q : A → Type 0) (xs : List A) → Each P xs → Each Q xs → Each (λ x. P x × Q x) xs
each_both P Q [] h k = tt
each_both P Q (x ∷ xs) h k = ((h.0, k.0), each_both P Q xs h.1 k.1)

pub each_all : {A : Type 0} (P : A → Type 0) → ((x : A) → P x) → (xs : List A) → Each P xs
each_all P f [] = tt
each_all P f (x ∷ xs) = (f x, each_all P f xs)

-- the same items, and others put in or left out
cond_each : {A : Type 0} (P : A → Type 0) (b : Bool) (x : A) (xs : List A) → P x → Each P xs → Each P (cond b (x ∷ xs) xs)
cond_each P true x xs p h = (p, h)
cond_each P false x xs p h = h

pub each_filter : {A : Type 0} (P : A → Type 0) (p : A → Bool) (xs : List A) → Each P xs → Each P (filter p xs)
each_filter P p [] h = tt
each_filter P p (x ∷ xs) h = cond_each P (p x) x (filter p xs) h.0 (each_filter P p xs h.1)

cond_passes : {A : Type 0} (p : A → Bool) (b : Bool) (x : A) (xs : List A) → p x ≡ b → Each (λ y. p y ≡ true) xs → Each (λ y. p y ≡ true) (cond b (x ∷ xs) xs)
cond_passes p true x xs e h = (e, h)
cond_passes p false x xs e h = h

pub each_passes : {A : Type 0} (p : A → Bool) (xs : List A) → Each (λ y. p y ≡ true) (filter p xs)
each_passes p [] = tt
each_passes p (x ∷ xs) = cond_passes p (p x) x (filter p xs) refl (each_passes p xs)

cond_same : {A : Type 0} (a b : Bool) (x : A) (ys zs : List A) → a ≡ b → ys ≡ zs → cond a (x ∷ ys) ys ≡ cond b (x ∷ zs) zs
cond_same a b x ys zs e f = ap (λ c. cond c (x ∷ ys) ys) e ∙ ap (λ us. cond b (x ∷ us) us) f

-- a filter by another test that agrees at each item
pub filter_same : {A : Type 0} (p q : A → Bool) (xs : List A) → Each (λ x. p x ≡ q x) xs → filter p xs ≡ filter q xs
filter_same p q [] h = refl
filter_same p q (x ∷ xs) h = cond_same (p x) (q x) x (filter p xs) (filter q xs) h.0 (filter_same p q xs h.1)

filter_cond : {A : Type 0} (p q : A → Bool) (b : Bool) (x : A) (xs : List A) → filter q (filter p xs) ≡ filter (λ y. p y && q y) xs
    → filter q (cond b (x ∷ filter p xs) (filter p xs)) ≡ cond (b && q x) (x ∷ filter (λ y. p y && q y) xs) (filter (λ y. p y && q y) xs)
filter_cond p q true x xs e = cond_same (q x) (q x) x (filter q (filter p xs)) (filter (λ y. p y && q y) xs) refl e
filter_cond p q false x xs e = e

-- one filter behind another
pub filter_filter : {A : Type 0} (p q : A → Bool) (xs : List A) → filter q (filter p xs) ≡ filter (λ y. p y && q y) xs
filter_filter p q [] = refl
filter_filter p q (x ∷ xs) = filter_cond p q (p x) x xs (filter_filter p q xs)

pub filter_all : {A : Type 0} (p : A → Bool) (xs : List A) → Each (λ x. p x ≡ true) xs → filter p xs ≡ xs
filter_all p [] h = refl
filter_all p (x ∷ xs) h = cond_same (p x) true x (filter p xs) xs h.0 (filter_all p xs h.1)

pub filter_none : {A : Type 0} (p : A → Bool) (xs : List A) → Each (λ x. p x ≡ false) xs → filter p xs ≡ []
filter_none p [] h = refl
filter_none p (x ∷ xs) h = cond_same (p x) false x (filter p xs) [] h.0 (filter_none p xs h.1)

any_from_find_at : {A : Type 0} (p : A → Bool) (b : Bool) (x : A) (xs : List A) → is_some (find p xs) ≡ list_any p xs
    → is_some (cond b (Some x) (find p xs)) ≡ (b || list_any p xs)
any_from_find_at p true x xs e = refl
any_from_find_at p false x xs e = e

-- a search and a test of any item
pub any_from_find : {A : Type 0} (p : A → Bool) (xs : List A) → is_some (find p xs) ≡ list_any p xs
any_from_find p [] = refl
any_from_find p (x ∷ xs) = any_from_find_at p (p x) x xs (any_from_find p xs)

pub some_same : {A : Type 0} (x a : A) → Some x ≡ Some a → x ≡ a
some_same x a h = cc

find_at_passes : {A : Type 0} (p : A → Bool) (b : Bool) (x a : A) (xs : List A) → p x ≡ b → (find p xs ≡ Some a → p a ≡ true)
    → cond b (Some x) (find p xs) ≡ Some a → p a ≡ true
find_at_passes p true x a xs e f h = subst (λ y. p y ≡ true) (some_same x a h) e
find_at_passes p false x a xs e f h = f h

pub find_passes : {A : Type 0} (p : A → Bool) (xs : List A) (a : A) → find p xs ≡ Some a → p a ≡ true
find_passes p [] a h = absurd (cc)
find_passes p (x ∷ xs) a h = find_at_passes p (p x) x a xs refl (find_passes p xs a) h

each_find_at : {A : Type 0} (P : A → Type 0) (p : A → Bool) (b : Bool) (x a : A) (xs : List A) → P x → (find p xs ≡ Some a → P a)
    → cond b (Some x) (find p xs) ≡ Some a → P a
each_find_at P p true x a xs h f e = subst P (some_same x a e) h
each_find_at P p false x a xs h f e = f e

pub each_find : {A : Type 0} (P : A → Type 0) (p : A → Bool) (xs : List A) (a : A) → Each P xs → find p xs ≡ Some a → P a
each_find P p [] a h e = absurd (cc)
each_find P p (x ∷ xs) a h e = each_find_at P p (p x) x a xs h.0 (each_find P p xs a h.1) e

pub find_more : {A : Type 0} (p : A → Bool) (xs ys : List A) (a : A) → find p xs ≡ Some a → find p (xs ++ ys) ≡ Some a
find_more p xs ys a e = find-append p xs ys ∙ ap (λ o. option_or o (find p ys)) e

pub find_last : {A : Type 0} (p : A → Bool) (xs : List A) (y : A) → find p xs ≡ None → p y ≡ true → find p (xs ++ y ∷ []) ≡ Some y
find_last p xs y e h = find-append p xs (y ∷ []) ∙ ap (λ o. option_or o (find p (y ∷ []))) e ∙ ap (λ b. cond b (Some y) None) h

find_none_at : {A : Type 0} (b : Bool) (x : A) (o : Option A) → cond b (Some x) o ≡ None → (b ≡ false) × (o ≡ None)
find_none_at true x o e = absurd (cc)
find_none_at false x o e = (refl, e)

pub find_none : {A : Type 0} (p : A → Bool) (xs : List A) → find p xs ≡ None → Each (λ x. p x ≡ false) xs
find_none p [] e = tt
find_none p (x ∷ xs) e =
    let h = find_none_at (p x) x (find p xs) e in (h.0, find_none p xs h.1)

any_at : {A : Type 0} (P : A → Type 0) (p : A → Bool) (b : Bool) (x : A) (xs : List A) → p x ≡ b → P x
    → (list_any p xs ≡ true → (y : A) × P y × (p y ≡ true)) → (b || list_any p xs) ≡ true → (y : A) × P y × (p y ≡ true)
any_at P p true x xs e h f k = (x, h, e)
any_at P p false x xs e h f k = f k

-- an item that passes, with what holds of each
pub any_one : {A : Type 0} (P : A → Type 0) (p : A → Bool) (xs : List A) → Each P xs → list_any p xs ≡ true → (y : A) × P y × (p y ≡ true)
any_one P p [] h k = absurd (cc)
any_one P p (x ∷ xs) h k = any_at P p (p x) x xs refl h.0 (any_one P p xs h.1) k

or_false : (a b : Bool) → (a || b) ≡ false → (a ≡ false) × (b ≡ false)
or_false true b e = absurd (cc)
or_false false b e = (refl, e)

pub any_none : {A : Type 0} (p : A → Bool) (xs : List A) → list_any p xs ≡ false → Each (λ x. p x ≡ false) xs
any_none p [] e = tt
any_none p (x ∷ xs) e = let h = or_false (p x) (list_any p xs) e in (h.0, any_none p xs h.1)

pub any_same : {A : Type 0} (p q : A → Bool) (xs : List A) → Each (λ x. p x ≡ q x) xs → list_any p xs ≡ list_any q xs
any_same p q [] h = refl
any_same p q (x ∷ xs) h =
    ap (λ b. b || list_any p xs) h.0 ∙ ap (λ b. q x || b) (any_same p q xs h.1)

pub all_same : {A : Type 0} (p q : A → Bool) (xs : List A) → Each (λ x. p x ≡ q x) xs → list_all p xs ≡ list_all q xs
all_same p q [] h = refl
all_same p q (x ∷ xs) h =
    ap (λ b. b && list_all p xs) h.0 ∙ ap (λ b. q x && b) (all_same p q xs h.1)

all_each_at : {A : Type 0} (p : A → Bool) (b : Bool) (x : A) (xs : List A) → p x ≡ b → (list_all p xs ≡ true → Each (λ y. p y ≡ true) xs)
    → (b && list_all p xs) ≡ true → (p x ≡ true) × Each (λ y. p y ≡ true) xs
all_each_at p true x xs e f h = (e, f h)
all_each_at p false x xs e f h = absurd (cc)

pub all_each : {A : Type 0} (p : A → Bool) (xs : List A) → list_all p xs ≡ true → Each (λ x. p x ≡ true) xs
all_each p [] e = tt
all_each p (x ∷ xs) e = all_each_at p (p x) x xs refl (all_each p xs) e

pub each_all_true : {A : Type 0} (p : A → Bool) (xs : List A) → Each (λ x. p x ≡ true) xs → list_all p xs ≡ true
each_all_true p [] h = refl
each_all_true p (x ∷ xs) h = ap (λ b. b && list_all p xs) h.0 ∙ each_all_true p xs h.1

any_by_filter_at : {A : Type 0} (b : Bool) (x : A) (ys : List A) (c : Bool) → (ys ≡ [] → c ≡ false) → cond b (x ∷ ys) ys ≡ [] → (b || c) ≡ false
any_by_filter_at true x ys c f e = absurd (cc)
any_by_filter_at false x ys c f e = f e

-- a test of any item, by the items that pass
pub any_by_filter : {A : Type 0} (p : A → Bool) (xs : List A) → filter p xs ≡ [] → list_any p xs ≡ false
any_by_filter p [] e = refl
any_by_filter p (x ∷ xs) e = any_by_filter_at (p x) x (filter p xs) (list_any p xs) (any_by_filter p xs) e

any_by_one_at : {A : Type 0} (b : Bool) (x : A) (zs ys : List A) (y : A) (c : Bool) → (zs ≡ y ∷ ys → c ≡ true) → cond b (x ∷ zs) zs ≡ y ∷ ys → (b || c) ≡ true
any_by_one_at true x zs ys y c f e = refl
any_by_one_at false x zs ys y c f e = f e

pub any_by_one : {A : Type 0} (p : A → Bool) (xs ys : List A) (y : A) → filter p xs ≡ y ∷ ys → list_any p xs ≡ true
any_by_one p [] ys y e = absurd (cc)
any_by_one p (x ∷ xs) ys y e = any_by_one_at (p x) x (filter p xs) ys y (list_any p xs) (any_by_one p xs ys y) e

-- what holds of each item holds of the one that passes
pub each_one : {A : Type 0} (P : A → Type 0) (p : A → Bool) (xs ys : List A) (y : A) → Each P xs → filter p xs ≡ y ∷ ys → P y × (p y ≡ true)
each_one P p xs ys y h e =
    ((subst (λ zs. Each P zs) e (each_filter P p xs h)).0, (subst (λ zs. Each (λ z. p z ≡ true) zs) e (each_passes p xs)).0)

pub each_append : {A : Type 0} (P : A → Type 0) (xs ys : List A) → Each P xs → Each P ys → Each P (xs ++ ys)
each_append P [] ys h k = k
each_append P (x ∷ xs) ys h k = (h.0, each_append P xs ys h.1 k)

-- a test of any item fails where it fails at each
pub none_any : {A : Type 0} (p : A → Bool) (xs : List A) → Each (λ x. p x ≡ false) xs → list_any p xs ≡ false
none_any p [] h = refl
none_any p (x ∷ xs) h = ap (λ b. b || list_any p xs) h.0 ∙ none_any p xs h.1

none_at : {A : Type 0} (o : Option A) → is_some o ≡ false → o ≡ None
none_at None e = refl
none_at (Some x) e = absurd (cc)

-- nothing is found where the test of any item fails
pub none_found : {A : Type 0} (p : A → Bool) (xs : List A) → list_any p xs ≡ false → find p xs ≡ None
none_found p xs e = none_at (find p xs) (any_from_find p xs ∙ e)

some_at : {A : Type 0} (o : Option A) → is_some o ≡ true → (a : A) × (o ≡ Some a)
some_at None e = absurd (cc)
some_at (Some x) e = (x, refl)

pub some_found : {A : Type 0} (p : A → Bool) (xs : List A) → list_any p xs ≡ true → (a : A) × (find p xs ≡ Some a)
some_found p xs e = some_at (find p xs) (any_from_find p xs ∙ e)

unfilter_at : {A : Type 0} (P : A → Type 0) (p : A → Bool) (b : Bool) (x : A) (ys : List A) → p x ≡ b → Each P (cond b (x ∷ ys) ys)
    → (p x ≡ true → P x) × Each P ys
unfilter_at P p true x ys e h = (λ _. h.0, h.1)
unfilter_at P p false x ys e h = (λ k. absurd (cc (e, k)), h)

-- what holds of each item that passes
pub unfilter : {A : Type 0} (P : A → Type 0) (p : A → Bool) (xs : List A) → Each P (filter p xs) → Each (λ x. p x ≡ true → P x) xs
unfilter P p [] h = tt
unfilter P p (x ∷ xs) h =
    let k = unfilter_at P p (p x) x (filter p xs) refl h in (k.0, unfilter P p xs k.1)

nil_at : {A : Type 0} (b : Bool) (x : A) (ys : List A) → cond b (x ∷ ys) ys ≡ [] → (b ≡ false) × (ys ≡ [])
nil_at true x ys e = absurd (cc)
nil_at false x ys e = (refl, e)

-- no item passes where the filter keeps none
pub filter_nil : {A : Type 0} (p : A → Bool) (xs : List A) → filter p xs ≡ [] → Each (λ x. p x ≡ false) xs
filter_nil p [] e = tt
filter_nil p (x ∷ xs) e = let k = nil_at (p x) x (filter p xs) e in (k.0, filter_nil p xs k.1)

-- the last item, where it passes and where it doesn't
pub filter_last : {A : Type 0} (p : A → Bool) (xs : List A) (x : A) → p x ≡ true → filter p (xs ++ x ∷ []) ≡ filter p xs ++ x ∷ []
filter_last p xs x e = filter-append p xs (x ∷ []) ∙ ap (λ b. filter p xs ++ cond b (x ∷ []) []) e

pub filter_kept : {A : Type 0} (p : A → Bool) (xs : List A) (x : A) → p x ≡ false → filter p (xs ++ x ∷ []) ≡ filter p xs
filter_kept p xs x e =
    filter-append p xs (x ∷ []) ∙ ap (λ b. filter p xs ++ cond b (x ∷ []) []) e ∙ append-nil (filter p xs)

-- a test of any item, with one item more
pub any_last : {A : Type 0} (p : A → Bool) (xs : List A) (x : A) → list_any p (xs ++ x ∷ []) ≡ (list_any p xs || (p x || false))
any_last p xs x = list_any-append p xs (x ∷ [])

pub any_more : {A : Type 0} (p : A → Bool) (xs ys : List A) → list_any p xs ≡ true → list_any p (xs ++ ys) ≡ true
any_more p xs ys e = list_any-append p xs ys ∙ ap (λ b. b || list_any p ys) e

pub each_any : {A : Type 0} (key : A → ℕ) (xs : List A) → Each (λ x. list_any (λ y. key y == key x) xs ≡ true) xs
each_any key [] = tt
each_any key (x ∷ xs) = (
  ap (λ b. b || list_any (λ y. key y == key x) xs) (eq-eqb (key x) (key x) refl),
  each_map (λ z. list_any (λ y. key y == key z) xs ≡ true) (λ z. list_any (λ y. key y == key z) (x ∷ xs) ≡ true)
      (λ z e. or_right (key x == key z) (list_any (λ y. key y == key z) xs) e) xs (each_any key xs),
)
