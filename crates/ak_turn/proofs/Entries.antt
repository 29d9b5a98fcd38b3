-- Lists of entries: the events of one number, and what a pass knows when the log grows.
use Rattle.std.proofs.Common.{◌≡◌, ◌≢◌, ℕ, zero, suc, ◌≤◌, eqb, cond, Bool, true, false, List, [], ◌∷◌, ◌++◌, length, drop, sym, refl, ap, ◌∙◌, subst, arith, eq-eqb, ne_eqb, append_assoc, append-nil}
use Rattle.std.specs.Prelude.{filter, nat_eq, Contains}
use Rattle.std.specs.List.{IsDistinct}
use mathlib.Core.Logic.{dite}
use native.Mathlib.Decide.{ℕ_discrete}
use Rattle.ak_turn.specs.declared.view.PassState.{PassState}
use Rattle.ak_turn.specs.Entries.{total, times, Each, IsAllowed, events, events_by, entries}
use Rattle.ak_turn.specs.Rule.{KnowsLog, numbers_of}

front_nil : {X : Type 0} (xs ys : List X) → xs ++ ys ≡ [] → xs ≡ []
front_nil [] ys e = refl
front_nil (x ∷ xs) ys e = cc

abbrev bit : Bool → ℕ
bit b = cond b 1 0

hit : (m n : ℕ) → m ≡ n → bit (eqb m n) ≡ 1
hit m n is = ap bit (eq-eqb m n is)

miss : (m n : ℕ) → m ≢ n → bit (eqb m n) ≡ 0
miss m n ne = ap bit (ne_eqb m n ne)

-- the numbers of this list are others than n
pub apart : (n : ℕ) (ms : List ℕ) → times n ms ≡ 0 → Each (λ m. m ≢ n) ms
apart n [] e = tt
apart n (m ∷ ms) e = (
  λ is. omega (arith, hit m n is),
  apart n ms (omega arith),
)

-- a number that stands in a list is one of it
pub times_contains : (n : ℕ) (ms : List ℕ) → 1 ≤ times n ms → Contains ms n
times_contains n [] h = absurd (omega arith)
times_contains n (m ∷ ms) h = dite (ℕ_discrete m n)
    (λ e. (zero, omega arith, e))
    (λ ne. let t = times_contains n ms (omega (arith, miss m n ne)) in (suc t.0, omega (arith, t.1), t.2))

-- a number that differs from each of a list stands nowhere in it
times_none : (n : ℕ) (ms : List ℕ) → Each (λ y. nat_eq n y ≡ false) ms → times n ms ≡ 0
times_none n [] h = refl
times_none n (m ∷ ms) h = let rest : times n ms ≡ 0 = times_none n ms h.1 in
    let here : bit (eqb m n) ≡ 0 = dite (ℕ_discrete m n) (λ e. cc) (miss m n) in omega arith

-- in a list of distinct numbers each stands once at most
pub distinct_times : (ms : List ℕ) → IsDistinct nat_eq ms → (n : ℕ) → times n ms ≤ 1
unfolding IsDistinct
distinct_times [] h n = omega arith
distinct_times (m ∷ ms) h n = dite (ℕ_discrete m n)
    (λ e. let none : times n ms ≡ 0 = subst (λ k. times k ms ≡ 0) e (times_none m ms h.0) in omega (arith, hit m n e))
    (λ ne. let rest : times n ms ≤ 1 = distinct_times ms h.1 n in omega (arith, miss m n ne))

module _ {E : Type 0} where
  pub length_events : (f : List (ℕ × E)) → length (events f) ≡ length f
  length_events [] = refl
  length_events (x ∷ xs) = ap suc (length_events xs)

  pub drop_events : (f : List (ℕ × E)) (es : List E) → drop (length f) (events f ++ es) ≡ es
  drop_events [] es = refl
  drop_events (x ∷ xs) es = drop_events xs es

  length_entries : (n : ℕ) (es : List E) → length (entries n es) ≡ length es
  length_entries n [] = refl
  length_entries n (e ∷ es) = ap suc (length_entries n es)

  pub length_grown : (n : ℕ) (f : List (ℕ × E)) (es : List E) → length (events f ++ es) ≡ length (f ++ entries n es)
  length_grown n [] es = sym (length_entries n es)
  length_grown n (x ∷ xs) es = ap suc (length_grown n xs es)

  pub events_grown : (n : ℕ) (f : List (ℕ × E)) (es : List E) → events f ++ es ≡ events (f ++ entries n es)
  events_grown n [] [] = refl
  events_grown n [] (e ∷ es) = ap (λ l. e ∷ l) (events_grown n [] es)
  events_grown n (x ∷ xs) es = ap (λ l. x.1 ∷ l) (events_grown n xs es)

  pub allowed_entries : (may : ℕ → E → Type 0) (key : List ℕ) (n : ℕ) (es : List E) → Contains key n → Each (may n) es → Each (IsAllowed may key) (entries n es)
  allowed_entries may key n [] is h = tt
  allowed_entries may key n (e ∷ es) is h = ((is, h.0), allowed_entries may key n es is h.1)

  filter_append : (p : ℕ × E → Bool) (xs ys : List (ℕ × E)) → filter p (xs ++ ys) ≡ filter p xs ++ filter p ys
  filter_append p [] ys = refl
  filter_append p (x ∷ xs) ys = ap (λ l. cond (p x) (x ∷ l) l) (filter_append p xs ys) ∙ joined (p x)
    where
      joined : (b : Bool) → cond b (x ∷ (filter p xs ++ filter p ys)) (filter p xs ++ filter p ys) ≡ cond b (x ∷ filter p xs) (filter p xs) ++ filter p ys
      joined true = refl
      joined false = refl

  events_append : (xs ys : List (ℕ × E)) → events (xs ++ ys) ≡ events xs ++ events ys
  events_append [] ys = refl
  events_append (x ∷ xs) ys = ap (λ l. x.1 ∷ l) (events_append xs ys)

  pub by-append : (n : ℕ) (xs ys : List (ℕ × E)) → events_by n (xs ++ ys) ≡ events_by n xs ++ events_by n ys
  by-append n xs ys = ap events (filter_append (λ x. eqb x.0 n) xs ys) ∙ events_append (filter (λ x. eqb x.0 n) xs) (filter (λ x. eqb x.0 n) ys)

  pub by-entries : (n : ℕ) (es : List E) → events_by n (entries n es) ≡ es
  by-entries n [] = refl
  by-entries n (e ∷ es) = let rest : List (ℕ × E) = filter (λ x. eqb x.0 n) (entries n es) in
      ap (λ b. events (cond b ((n, e) ∷ rest) rest)) (eq-eqb n n refl) ∙ ap (λ l. e ∷ l) (by-entries n es)

  by-entries_other : (m n : ℕ) (es : List E) → m ≢ n → events_by m (entries n es) ≡ []
  by-entries_other m n [] ne = refl
  by-entries_other m n (e ∷ es) ne = let rest : List (ℕ × E) = filter (λ x. eqb x.0 m) (entries n es) in
      ap (λ b. events (cond b ((n, e) ∷ rest) rest)) (ne_eqb n m (λ is. ne (sym is))) ∙ by-entries_other m n es ne

  by_grown : (m n : ℕ) (f : List (ℕ × E)) (es : List E) → m ≢ n → events_by m (f ++ entries n es) ≡ events_by m f
  by_grown m n f es ne = by-append m f (entries n es) ∙ (ap (λ l. events_by m f ++ l) (by-entries_other m n es ne) ∙ append-nil (events_by m f))

  spares_stay : (f : List (ℕ × E)) (n : ℕ) (es : List E) (ms : List ℕ) → Each (λ m. m ≢ n) ms → Each (λ m. events_by m f ≡ []) ms
      → Each (λ m. events_by m (f ++ entries n es) ≡ []) ms
  spares_stay f n es [] a b = tt
  spares_stay f n es (m ∷ ms) a b = (by_grown m n f es a.0 ∙ b.0, spares_stay f n es ms a.1 b.1)

  -- the pass that adds the events
  pub own_knows : (f : List (ℕ × E)) (k : PassState E) (es : List E) → KnowsLog f k → times k.number k.spare ≡ 0 → (g : List (ℕ × E))
      → g ≡ f ++ entries k.number es
      → KnowsLog (f ++ entries k.number es) record { number = k.number; spare = k.spare; seen = g; mine = k.mine ++ es }
  own_knows f k es h free g is = let n : ℕ = k.number in
      let grows : events_by n (f ++ entries n es) ≡ k.mine ++ es = by-append n f (entries n es) ∙ (λ i. h.own i ++ by-entries n es i) in
      record {
        rest = [];
        begins = sym is ∙ sym (append-nil g);
        own = grows;
        own_seen = ap (events_by n) is ∙ grows;
        spares = spares_stay f n es k.spare (apart n k.spare free) h.spares;
      }

  -- a pass of other numbers
  other_knows : (f : List (ℕ × E)) (n : ℕ) (es : List E) (k : PassState E) → KnowsLog f k → Each (λ m. m ≢ n) (numbers_of k) → KnowsLog (f ++ entries n es) k
  other_knows f n es k h ne = record {
    rest = h.rest ++ entries n es;
    begins = ap (λ l. l ++ entries n es) h.begins ∙ append_assoc k.seen h.rest (entries n es);
    own = by_grown k.number n f es ne.0 ∙ h.own;
    own_seen = h.own_seen;
    spares = spares_stay f n es k.spare ne.1 h.spares;
  }

  pub others_know : (f : List (ℕ × E)) (n : ℕ) (es : List E) (ks : List (PassState E)) → Each (KnowsLog f) ks
      → total (λ k. times n (numbers_of k)) ks ≡ 0 → Each (KnowsLog (f ++ entries n es)) ks
  others_know f n es [] h free = tt
  others_know f n es (k ∷ ks) h free = (other_knows f n es k h.0 (apart n (numbers_of k) (omega arith)), others_know f n es ks h.1 (omega arith))

  -- the pass that is split, and the new one
  pub keeper_knows : (f : List (ℕ × E)) (k : PassState E) (n : ℕ) (ns : List ℕ) → k.spare ≡ n ∷ ns → KnowsLog f k
      → KnowsLog f record { number = k.number; spare = ns; seen = k.seen; mine = k.mine }
  keeper_knows f k n ns is h = record {
    rest = h.rest;
    begins = h.begins;
    own = h.own;
    own_seen = h.own_seen;
    spares =
        (subst (Each (λ m. events_by m f ≡ [])) is h.spares).1;
  }

  pub taker_knows : (f : List (ℕ × E)) (k : PassState E) (n : ℕ) (ns : List ℕ) → k.spare ≡ n ∷ ns → KnowsLog f k
      → KnowsLog f record { number = n; spare = []; seen = k.seen; mine = [] }
  taker_knows f k n ns is h = let free : events_by n f ≡ [] = (subst (Each (λ m. events_by m f ≡ [])) is h.spares).0 in record {
    rest = h.rest;
    begins = h.begins;
    own = free;
    own_seen = front_nil (events_by n k.seen) (events_by n h.rest) (sym (by-append n k.seen h.rest) ∙ (sym (ap (events_by n) h.begins) ∙ free));
    spares = tt;
  }
