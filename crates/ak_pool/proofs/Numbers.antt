-- Works under their numbers.
use Rattle.std.proofs.Common.{ℕ, ◌+◌, ◌<◌, ◌≤◌, ◌≡◌, suc, List, [], ◌∷◌, ◌++◌, Bool, true, false, cond, length, refl, ap, ◌∙◌, arith}
use Rattle.std.specs.Prelude.{not, ◌==◌, filter, find, Some}
use Rattle.std.proofs.lemmas.Bool.{eq-eqb, ne_eqb, eqb-true}
use Rattle.ak_labor.specs.Waits.{Handed}
use Rattle.ak_pool.specs.Facts.{work_in}
use Rattle.ak_pool.specs.Stands.{Each, AreNumbered}
use Rattle.ak_pool.proofs.Items.{each_map, each_both, filter_all, each_find, find_passes, some_same}

-- numbers from this one on, that grow
abbrev pub Grow : ℕ → List Handed → Type 0
Grow n [] = Unit {0}
Grow n (w ∷ ws) = (n ≤ w.id) × Grow (w.id + 1) ws

pub grow_from : (m n : ℕ) (ws : List Handed) → m ≤ n → Grow n ws → Grow m ws
grow_from m n [] le h = tt
grow_from m n (w ∷ ws) le h = (omega (arith, h.0), h.1)

pub numbered_grow : (n : ℕ) (ws : List Handed) → AreNumbered n ws → Grow n ws
numbered_grow n [] h = tt
numbered_grow n (w ∷ ws) h =
    (omega (arith, h.0), grow_from (w.id + 1) (suc n) ws (omega (arith, h.0)) (numbered_grow (suc n) ws h.1))

pub grow_each : (n : ℕ) (ws : List Handed) → Grow n ws → Each (λ w. n ≤ w.id) ws
grow_each n [] h = tt
grow_each n (w ∷ ws) h =
    (h.0, each_map (λ x. w.id + 1 ≤ x.id) (λ x. n ≤ x.id) (λ x k. omega (arith, h.0)) ws (grow_each (w.id + 1) ws h.1))

cond_grow : (b : Bool) (n : ℕ) (w : Handed) (ws : List Handed) → n ≤ w.id → Grow (w.id + 1) ws → Grow n (cond b (w ∷ ws) ws)
cond_grow true n w ws le h = (le, h)
cond_grow false n w ws le h = grow_from n (w.id + 1) ws (omega arith) h

pub grow_filter : (p : Handed → Bool) (n : ℕ) (ws : List Handed) → Grow n ws → Grow n (filter p ws)
grow_filter p n [] h = tt
grow_filter p n (w ∷ ws) h =
    cond_grow (p w) n w (filter p ws) h.0 (grow_filter p (w.id + 1) ws h.1)

-- the front work is another than those behind it
pub front_left : (n : ℕ) (w : Handed) (ws : List Handed) → Grow n (w ∷ ws) → filter (λ (x : Handed). not (w.id == x.id)) (w ∷ ws) ≡ ws
front_left n w ws h =
    ap (λ b. cond (not b) (w ∷ filter (λ (x : Handed). not (w.id == x.id)) ws) (filter (λ (x : Handed). not (w.id == x.id)) ws)) (eq-eqb w.id w.id refl)
    ∙ filter_all (λ (x : Handed). not (w.id == x.id)) ws
    (each_map (λ x. w.id + 1 ≤ x.id) (λ x. not (w.id == x.id) ≡ true)
    (λ x k. ap not (ne_eqb w.id x.id (λ e. absurd (omega (arith, e, k))))) ws (grow_each (w.id + 1) ws h.1))

only_at : (b : Bool) (n id : ℕ) (w w0 : Handed) (ws : List Handed) → (w.id == id) ≡ b → Grow (w.id + 1) ws
    → (find (λ (x : Handed). x.id == id) ws ≡ Some w0 → Each (λ x. x.id ≡ id → x ≡ w0) ws)
    → cond b (Some w) (find (λ (x : Handed). x.id == id) ws) ≡ Some w0 → (w.id ≡ id → w ≡ w0) × Each (λ x. x.id ≡ id → x ≡ w0) ws
only_at true n id w w0 ws e h f k = (
  λ _. some_same w w0 k,
  each_map (λ x. w.id + 1 ≤ x.id) (λ x. x.id ≡ id → x ≡ w0)
      (λ x le same. absurd (omega (arith, le, same, eqb-true w.id id e))) ws (grow_each (w.id + 1) ws h),
)
only_at false n id w w0 ws e h f k =
    (λ same. absurd (cc (e, eq-eqb w.id id same)), f k)

-- one work alone has the number
pub only : (n id : ℕ) (w0 : Handed) (ws : List Handed) → Grow n ws → work_in ws id ≡ Some w0 → Each (λ w. w.id ≡ id → w ≡ w0) ws
only n id w0 [] h e = tt
only n id w0 (w ∷ ws) h e =
    only_at (w.id == id) n id w w0 ws refl h.1 (only (w.id + 1) id w0 ws h.1) e

-- each work is found under its number
pub findable : (n : ℕ) (ws : List Handed) → Grow n ws → Each (λ w. work_in ws w.id ≡ Some w) ws
findable n [] h = tt
findable n (w ∷ ws) h = (
  ap (λ b. cond b (Some w) (find (λ (x : Handed). x.id == w.id) ws)) (eq-eqb w.id w.id refl),
  each_map (λ x. (w.id + 1 ≤ x.id) × (work_in ws x.id ≡ Some x)) (λ x. work_in (w ∷ ws) x.id ≡ Some x)
      (λ x k. ap (λ b. cond b (Some w) (find (λ (y : Handed). y.id == x.id) ws))
      (ne_eqb w.id x.id (λ e. absurd (omega (arith, e, k.0)))) ∙ k.1) ws
      (each_both (λ x. w.id + 1 ≤ x.id) (λ x. work_in ws x.id ≡ Some x) ws (grow_each (w.id + 1) ws h.1) (findable (w.id + 1) ws h.1)),
)

pub found_id : (id : ℕ) (w : Handed) (ws : List Handed) → work_in ws id ≡ Some w → w.id ≡ id
found_id id w ws e = eqb-true w.id id (find_passes (λ (x : Handed). x.id == id) ws w e)

pub numbered_last : (n : ℕ) (ws : List Handed) (w : Handed) → AreNumbered n ws → w.id ≡ n + length ws → AreNumbered n (ws ++ w ∷ [])
numbered_last n [] w h e = (omega (arith, e), tt)
numbered_last n (x ∷ xs) w h e = (h.0, numbered_last (suc n) xs w h.1 (omega (arith, e)))

pub numbered_below : (n : ℕ) (ws : List Handed) → AreNumbered n ws → Each (λ w. w.id < n + length ws) ws
numbered_below n [] h = tt
numbered_below n (w ∷ ws) h = (
  omega (arith, h.0),
  each_map (λ x. x.id < suc n + length ws) (λ x. x.id < n + length (w ∷ ws)) (λ x k. omega (arith, k)) ws
      (numbered_below (suc n) ws h.1),
)

pub found_below : (id : ℕ) (w : Handed) (ws : List Handed) → AreNumbered 0 ws → work_in ws id ≡ Some w → id < length ws
found_below id w ws h e =
    let k : w.id < 0 + length ws = each_find (λ x. x.id < 0 + length ws) (λ (x : Handed). x.id == id) ws w (numbered_below 0 ws h) e in
    omega (arith, k, found_id id w ws e)
