-- Names in a list, and behind references.
use Rattle.std.proofs.Common.{◌≡◌, ◌≢◌, ℕ, zero, suc, take, get_or, ◌+◌, ◌<◌, Bool, true, false, not, ◌||◌, cond, List, [], ◌∷◌, ◌++◌, length, map, refl, sym, ap, ◌∙◌, arith, Bor}
use Rattle.std.proofs.lemmas.List.{map-append}
use Rattle.std.specs.List.{list_any, position_or_len}
use Rattle.std.specs.Str.{bytes_eq}
use Rattle.std.proofs.lemmas.Slice.Eq.{bytes_eq-Decides}
use Rattle.ak_base.proofs.Lists.{all_push, all_between}
use Rattle.ak_syntax.proofs.Lists.{any_mapped}
use Rattle.ak_valid.specs.Valid.{AreDistinct}

pub place_mapped : {A B : Type 0} (p : B → Bool) (f : A → B) (xs : List A) → position_or_len p (map f xs) ≡ position_or_len (λ x. p (f x)) xs
place_mapped p f [] = refl
place_mapped p f (x ∷ xs) = ap (λ n. cond (not (p (f x))) (1 + n) 0) (place_mapped p f xs)

-- the names behind references, after a name is put last where it is new
pub added : (keys new : List (Bor (List ℕ))) (k : Bor (List ℕ)) (old : List (List ℕ)) (fresh : Bool) → map (λ (x : Bor (List ℕ)). x.now) keys ≡ old
    → fresh ≡ not (list_any (λ (x : Bor (List ℕ)). bytes_eq k.now x.now) keys)
    → new ≡ cond (list_any (λ (x : Bor (List ℕ)). bytes_eq k.now x.now) keys) keys (keys ++ k ∷ [])
    → (fresh ≡ not (list_any (bytes_eq k.now) old)) × (map (λ (x : Bor (List ℕ)). x.now) new ≡ cond fresh (old ++ k.now ∷ []) old)
added keys new k old fresh is was then =
    let same : list_any (bytes_eq k.now) old ≡ list_any (λ (x : Bor (List ℕ)). bytes_eq k.now x.now) keys =
    rw (sym is) (any_mapped (bytes_eq k.now) (λ (x : Bor (List ℕ)). x.now) keys) in
    (was ∙ ap not (sym same), of (list_any (λ (x : Bor (List ℕ)). bytes_eq k.now x.now) keys) was then)
  where
    of : (b : Bool) → fresh ≡ not b → new ≡ cond b keys (keys ++ k ∷ []) → map (λ (x : Bor (List ℕ)). x.now) new ≡ cond fresh (old ++ k.now ∷ []) old
    of true f n = rw (f, n) is
    of false f n = rw (f, n, map-append) (ap (λ (names : List (List ℕ)). names ++ k.now ∷ []) is)

head_other : (name x : List ℕ) (names : List (List ℕ)) → list_any (bytes_eq name) (x ∷ names) ≡ false → (x ≢ name) × (list_any (bytes_eq name) names ≡ false)
head_other name x names h = of (bytes_eq name x) refl h
  where
    of : (b : Bool) → bytes_eq name x ≡ b → (b || list_any (bytes_eq name) names) ≡ false → (x ≢ name) × (list_any (bytes_eq name) names ≡ false)
    of true e h = cc
    of false e h = ((λ same. let yes : bytes_eq name x ≡ true = (bytes_eq-Decides name x).1 (sym same) in cc), h)

-- a name that is not among distinct ones
pub distinct_push : (names : List (List ℕ)) (name : List ℕ) → AreDistinct names → list_any (bytes_eq name) names ≡ false → AreDistinct (names ++ name ∷ [])
distinct_push [] name h new = (tt, tt)
distinct_push (x ∷ names) name h new = let other = head_other name x names new in
    (all_push (λ y. x ≢ y) names name h.0 other.0, distinct_push names name h.1 other.1)

-- a name that stands before
pub distinct_refused : (front rest : List (List ℕ)) (name : List ℕ) → list_any (bytes_eq name) front ≡ true → AreDistinct (front ++ name ∷ rest) → ⊥
distinct_refused [] rest name twice h = cc
distinct_refused (x ∷ front) rest name twice h = of (bytes_eq name x) refl twice (λ t. distinct_refused front rest name t h.1)
  where
    of : (b : Bool) → bytes_eq name x ≡ b → (b || list_any (bytes_eq name) front) ≡ true → (list_any (bytes_eq name) front ≡ true → ⊥) → ⊥
    of true e t later = all_between (λ y. x ≢ y) front rest name h.0 (sym ((bytes_eq-Decides name x).0 e))
    of false e t later = later t

-- one item more of a list, and all of it round that item
pub take_next : {A : Type 0} (xs : List A) (i : ℕ) (x : A) → i < length xs → x ≡ get_or xs i x → take (i + 1) xs ≡ take i xs ++ x ∷ []
take_next [] i x below is = absurd (omega arith)
take_next (y ∷ xs) zero x below is = ap (λ z. z ∷ []) (sym is)
take_next (y ∷ xs) (suc i) x below is = let next : suc i + 1 ≡ suc (i + 1) = omega arith in rw next (ap (λ zs. y ∷ zs) (take_next xs i x (omega arith) is))
