-- Names that survive: a fresh number is its own name, and a connection renames.
use Rattle.std.proofs.Common.{ℕ, zero, suc, ◌+◌, ◌<◌, ◌≤◌, ◌≡◌, List, [], ◌∷◌, ◌++◌, length, get_or, map, refl, ap, sym, ◌∙◌, subst, Bool, true, false, cond, arith}
use Rattle.std.specs.Prelude.{◌==◌}
use Rattle.std.proofs.lemmas.Bool.{eqb-true, eq-eqb}
use mathlib.Core.Path.{fun_ext}
use Rattle.ak_cells.specs.Names.{name_in, kept_name, trimmed_from, trimmed, renamed}

last_read : (xs : List ℕ) (n k d : ℕ) → (k ≡ length xs → d ≡ n) → get_or (xs ++ n ∷ []) k d ≡ get_or xs k d
last_read [] n zero d h = sym (h refl)
last_read [] n (suc k) d h = refl
last_read (x ∷ xs) n zero d h = refl
last_read (x ∷ xs) n (suc k) d h = last_read xs n k d (λ e. h (omega (arith, e)))

-- a fresh number changes no name
pub name_in-fresh : (names : List ℕ) → name_in (names ++ length names ∷ []) ≡ name_in names
name_in-fresh names = fun_ext (λ i. last_read names (length names) i i (λ e. e))

-- and it is its own name
pub name_in-own : (names : List ℕ) → name_in names (length names) ≡ length names
name_in-own names = past names (length names) (length names) (omega arith)
  where
    past : (xs : List ℕ) (k d : ℕ) → length xs ≤ k → get_or xs k d ≡ d
    past [] k d h = refl
    past (x ∷ xs) zero d h = absurd (omega arith)
    past (x ∷ xs) (suc k) d h = past xs k d (omega arith)

map_read : (r : ℕ → ℕ) (xs : List ℕ) (k d : ℕ) → (length xs ≤ k → r d ≡ d) → get_or (map r xs) k d ≡ r (get_or xs k d)
map_read r [] k d h = sym (h (omega arith))
map_read r (x ∷ xs) zero d h = refl
map_read r (x ∷ xs) (suc k) d h = map_read r xs k d (λ p. h (omega (arith, p)))

renamed_other : (from to i : ℕ) → from < i → renamed from to i ≡ i
renamed_other from to i h = other (i == from) refl
  where
    other : (b : Bool) → (i == from) ≡ b → cond b to i ≡ i
    other false e = refl
    other true e = absurd (omega (arith, eqb-true i from e, h))

-- a connection's names are the names, renamed
pub name_in-renamed : (names : List ℕ) (from to : ℕ) → from < length names → name_in (map (renamed from to) names) ≡ (λ i. renamed from to (name_in names i))
name_in-renamed names from to h = fun_ext (λ i. map_read (renamed from to) names i i (λ p. renamed_other from to i (omega (arith, p, h))))

drawn_read : (xs : List ℕ) (k d n : ℕ) → (length xs ≤ k → n ≤ d) → get_or xs k d < n → k < length xs
drawn_read [] k d n h p = absurd (omega (arith, h (omega arith), p))
drawn_read (x ∷ xs) zero d n h p = omega arith
drawn_read (x ∷ xs) (suc k) d n h p = let q : k < length xs = drawn_read xs k d n (λ e. h (omega (arith, e))) p in omega (arith, q)

-- a number whose name was drawn was drawn
pub name_in-drawn : (names : List ℕ) (i : ℕ) → name_in names i < length names → i < length names
name_in-drawn names i p = drawn_read names i i (length names) (λ h. h) p

-- names without the last ones that are their own
trimmed_last : (ns : List ℕ) (k : ℕ) → trimmed_from k (ns ++ (k + length ns) ∷ []) ≡ trimmed_from k ns
trimmed_last [] k = let e : k + 0 ≡ k = omega arith in ap (λ n. kept_name (n == k) n []) e ∙ own_kept k (k == k) (eq-eqb k k refl)
  where
    own_kept : (k : ℕ) (b : Bool) → b ≡ true → kept_name b k [] ≡ []
    own_kept k true e = refl
    own_kept k false e = absurd (cc)
trimmed_last (n ∷ ns) k =
    let e : k + length (n ∷ ns) ≡ (k + 1) + length ns = omega arith
    in ap (λ x. kept_name (n == k) n (trimmed_from (k + 1) (ns ++ x ∷ []))) e ∙ ap (kept_name (n == k) n) (trimmed_last ns (k + 1))

kept_read : (b : Bool) (n k : ℕ) (ns ts : List ℕ) → (n == k) ≡ b → ((j : ℕ) → get_or ts j ((k + 1) + j) ≡ get_or ns j ((k + 1) + j)) → (j : ℕ)
    → get_or (kept_name b n ts) j (k + j) ≡ get_or (n ∷ ns) j (k + j)
kept_read true n k ns [] e h zero = let p : n ≡ k = eqb-true n k e in omega (arith, p)
kept_read true n k ns [] e h (suc j) = let p : (k + 1) + j ≡ k + suc j = omega arith in subst (λ x. x ≡ get_or ns j x) p (h j)
kept_read true n k ns (t ∷ ts) e h zero = refl
kept_read true n k ns (t ∷ ts) e h (suc j) = let p : (k + 1) + j ≡ k + suc j = omega arith in subst (λ x. get_or (t ∷ ts) j x ≡ get_or ns j x) p (h j)
kept_read false n k ns ts e h zero = refl
kept_read false n k ns ts e h (suc j) = let p : (k + 1) + j ≡ k + suc j = omega arith in subst (λ x. get_or ts j x ≡ get_or ns j x) p (h j)

trimmed_read : (ns : List ℕ) (k j : ℕ) → get_or (trimmed_from k ns) j (k + j) ≡ get_or ns j (k + j)
trimmed_read [] k j = refl
trimmed_read (n ∷ ns) k j = kept_read (n == k) n k ns (trimmed_from (k + 1) ns) refl (λ i. trimmed_read ns (k + 1) i) j

pub trimmed-fresh : (names : List ℕ) → trimmed (names ++ length names ∷ []) ≡ trimmed names
trimmed-fresh names = let e : 0 + length names ≡ length names = omega arith in ap (λ n. trimmed (names ++ n ∷ [])) (sym e) ∙ trimmed_last names 0

-- they are the same names
pub name_in-trimmed : (names : List ℕ) → name_in (trimmed names) ≡ name_in names
name_in-trimmed names = fun_ext (λ i. let e : 0 + i ≡ i = omega arith in subst (λ x. get_or (trimmed names) i x ≡ get_or names i x) e (trimmed_read names 0 i))
