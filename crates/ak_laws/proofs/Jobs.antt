-- A trace whose jobs are in order obeys both laws of jobs: numbers and order, priorities and limits.
use Rattle.std.proofs.Common.{ℕ, ◌+◌, ◌<◌, ◌≤◌, ◌⊎◌, ◌≡◌, List, [], ◌∷◌, ◌++◌, length, take, Bool, true, false, ◌||◌, ◌&&◌, ◌==◌, Option, Some, None}
use Rattle.std.proofs.Common.{refl, sym, subst, ◌∙◌, ap, cond, inl, inr, arith, append_assoc, length-append}
use Rattle.std.specs.Prelude.{filter, fold}
use Rattle.std.specs.List.{AllByRecursion, list_all, filter_map, cons_option}
use Rattle.std.proofs.lemmas.List.{append-nil}
use Rattle.std.proofs.lemmas.List.Elements.{filter-append, filter_map-append}
use Rattle.std.proofs.lemmas.Bool.{cases_lt}
use Rattle.ak_trace.specs.declared.entry.Entry.{Entry}
use Rattle.ak_trace.specs.declared.entry.Entry.TheVariants as entry
use Rattle.ak_holders.proofs.Carry.{all_append, all_by, all_filter}
use Rattle.ak_laws.specs.Places.{EachAfter}
use Rattle.ak_laws.specs.Order.{Waiting, nothing_waits, with_waiting, new_cycle, RunsNormal, RunsLow, Follows, Leads, IsInOrder}
use Rattle.ak_laws.specs.Jobs.{is_among, enqueued_by, normal_by, low_by, run_by, enqueued, normal, low, ran, IsFront, IsNumbered, JobsInOrder}
use Rattle.ak_laws.specs.Jobs.{cycles_from, in_cycle, this_cycle, IsWithin, Yields, LowYields, CyclesAreLimited}

-- ---- lists of numbers
pub filter_same : (p q : ℕ → Bool) (xs : List ℕ) → AllByRecursion (λ m. p m ≡ q m) xs → filter p xs ≡ filter q xs
filter_same p q [] h = refl
filter_same p q (x ∷ xs) h =
    subst (λ b. filter p (x ∷ xs) ≡ cond b (x ∷ filter q xs) (filter q xs)) h.0
    (ap (λ (rest : List ℕ). cond (p x) (x ∷ rest) rest) (filter_same p q xs h.1))

filter_more : (p : ℕ → Bool) (xs : List ℕ) (n : ℕ) → p n ≡ true → filter p (xs ++ n ∷ []) ≡ filter p xs ++ n ∷ []
filter_more p xs n h = filter-append p xs (n ∷ []) ∙ ap (λ b. filter p xs ++ cond b (n ∷ []) []) h

filter_as : (p : ℕ → Bool) (xs : List ℕ) (n : ℕ) → p n ≡ false → filter p (xs ++ n ∷ []) ≡ filter p xs
filter_as p xs n h = filter-append p xs (n ∷ []) ∙ ap (λ b. filter p xs ++ cond b (n ∷ []) []) h ∙ append-nil (filter p xs)

front : (xs ys zs : List ℕ) → xs ++ ys ≡ zs → IsFront xs zs
front xs ys zs e = subst (IsFront xs) e (taken xs)
  where
    taken : (xs : List ℕ) → take (length xs) (xs ++ ys) ≡ xs
    taken [] = refl
    taken (x ∷ xs) = ap (λ (rest : List ℕ). x ∷ rest) (taken xs)

-- ---- numbers among others
pub less_other : (x n : ℕ) → x < n → (x == n) ≡ false
less_other x n h = grind (arith, h)

more_other : (x n : ℕ) → n < x → (x == n) ≡ false
more_other x n h = grind (arith, h)

or_false : (b : Bool) → (b || false) ≡ b
or_false true = refl
or_false false = refl

pub among_append : (xs ys : List ℕ) (n : ℕ) → is_among (xs ++ ys) n ≡ (is_among xs n || is_among ys n)
among_append [] ys n = refl
among_append (x ∷ xs) ys n = by (x == n) (among_append xs ys n)
  where
    by : (b : Bool) → is_among (xs ++ ys) n ≡ (is_among xs n || is_among ys n) → (b || is_among (xs ++ ys) n) ≡ ((b || is_among xs n) || is_among ys n)
    by true h = refl
    by false h = h

pub among_here : (xs ys : List ℕ) (n : ℕ) → is_among (xs ++ n ∷ ys) n ≡ true
among_here [] ys n = let same : (n == n) ≡ true = grind arith in ap (λ b. b || is_among ys n) same
among_here (x ∷ xs) ys n = by (x == n) (among_here xs ys n)
  where
    by : (b : Bool) → is_among (xs ++ n ∷ ys) n ≡ true → (b || is_among (xs ++ n ∷ ys) n) ≡ true
    by true h = refl
    by false h = h

pub among_less : (n : ℕ) (xs : List ℕ) → AllByRecursion (λ m. m < n) xs → is_among xs n ≡ false
among_less n [] h = refl
among_less n (x ∷ xs) h = ap (λ b. b || is_among xs n) (less_other x n h.0) ∙ among_less n xs h.1

pub among_more : (n : ℕ) (xs : List ℕ) → AllByRecursion (λ m. n < m) xs → is_among xs n ≡ false
among_more n [] h = refl
among_more n (x ∷ xs) h = ap (λ b. b || is_among xs n) (more_other x n h.0) ∙ among_more n xs h.1

-- what a filter keeps is among all
all_kept : (p : ℕ → Bool) (before xs : List ℕ) → list_all (is_among (before ++ xs)) (filter p xs) ≡ true
all_kept p before [] = refl
all_kept p before (x ∷ xs) =
    by (p x) (subst (λ all. list_all (is_among all) (filter p xs) ≡ true) (append_assoc before (x ∷ []) xs) (all_kept p (before ++ x ∷ []) xs))
  where
    by : (b : Bool) → list_all (is_among (before ++ x ∷ xs)) (filter p xs) ≡ true
        → list_all (is_among (before ++ x ∷ xs)) (cond b (x ∷ filter p xs) (filter p xs)) ≡ true
    by true h = ap (λ b. b && list_all (is_among (before ++ x ∷ xs)) (filter p xs)) (among_here before xs x) ∙ h
    by false h = h

-- ---- what is known between two entries
-- a job of this number was enqueued before the next, at normal priority: N tells the normal ones, and L the low ones
abbrev pub IsNormal : (ℕ → Bool) → (ℕ → Bool) → ℕ → ℕ → Type 0
IsNormal N L next m = (m < next) × (N m ≡ true) × (L m ≡ false)

-- by the jobs that were enqueued, the normal and the low ones of them, those that ran and those that ran in this cycle
pub record Numbers (N L : ℕ → Bool) (limit : ℕ) (all normals lows runs now : List ℕ) (w : Waiting) : Type 0 where
  pub count : length all ≡ w.next
  pub has : (m : ℕ) → m < w.next → is_among all m ≡ true
  pub normal_agrees : (m : ℕ) → m < w.next → is_among normals m ≡ N m
  pub low_agrees : (m : ℕ) → m < w.next → is_among lows m ≡ L m
  pub ran_below : AllByRecursion (λ m. m < w.next) runs
  pub now_below : AllByRecursion (λ m. m < w.next) now
  pub normal_is : filter N runs ++ w.normal ≡ normals
  pub low_is : filter L runs ++ w.low ≡ lows
  pub normal_waits : AllByRecursion (IsNormal N L w.next) w.normal
  pub low_waits : AllByRecursion (IsNormal L N w.next) w.low
  pub normal_now : length (filter N now) ≡ w.normal_ran
  pub low_now : length (filter L now) ≡ w.low_ran
  pub normal_few : w.normal_ran ≤ limit
  pub low_few : w.low_ran ≤ limit

-- the priorities exchanged
abbrev pub turned : Waiting → Waiting
turned w = record { normal = w.low; low = w.normal; normal_ran = w.low_ran; low_ran = w.normal_ran; next = w.next }

pub turn : (N L : ℕ → Bool) (limit : ℕ) (all normals lows runs now : List ℕ) (w : Waiting) → Numbers N L limit all normals lows runs now w
    → Numbers L N limit all lows normals runs now (turned w)
turn N L limit all normals lows runs now w k =
    record {
      count = k.count;
      has = k.has;
      normal_agrees = k.low_agrees;
      low_agrees = k.normal_agrees;
      ran_below = k.ran_below;
      now_below = k.now_below;
      normal_is = k.low_is;
      low_is = k.normal_is;
      normal_waits = k.low_waits;
      low_waits = k.normal_waits;
      normal_now = k.low_now;
      low_now = k.normal_now;
      normal_few = k.low_few;
      low_few = k.normal_few;
    }

-- the low jobs so far have lesser numbers than the next
lows_below : (N L : ℕ → Bool) (limit : ℕ) (all normals lows runs now : List ℕ) (w : Waiting) → Numbers N L limit all normals lows runs now w
    → AllByRecursion (λ m. m < w.next) lows
lows_below N L limit all normals lows runs now w k =
    subst (AllByRecursion (λ m. m < w.next)) k.low_is
    (all_append (λ m. m < w.next) (filter L runs) w.low (all_filter (λ m. m < w.next) L runs k.ran_below)
    (all_by (IsNormal L N w.next) (λ m. m < w.next) (λ m h. h.0) w.low k.low_waits))

enqueue_normal : (N L : ℕ → Bool) (limit : ℕ) (all normals lows runs now : List ℕ) (w : Waiting) → N w.next ≡ true → L w.next ≡ false
    → Numbers N L limit all normals lows runs now w
    → Numbers N L limit (all ++ w.next ∷ []) (normals ++ w.next ∷ []) lows runs now (with_waiting false w.next w)
enqueue_normal N L limit all normals lows runs now w is_n is_l k =
    record {
      count = omega (arith, length-append all (w.next ∷ []), k.count);
      has = has;
      normal_agrees = normal_agrees;
      low_agrees = low_agrees;
      ran_below = all_by (λ m. m < w.next) (λ m. m < w.next + 1) (λ m h. omega (arith, h)) runs k.ran_below;
      now_below = all_by (λ m. m < w.next) (λ m. m < w.next + 1) (λ m h. omega (arith, h)) now k.now_below;
      normal_is = sym (append_assoc (filter N runs) w.normal (w.next ∷ [])) ∙ ap (λ (xs : List ℕ). xs ++ w.next ∷ []) k.normal_is;
      low_is = k.low_is;
      normal_waits =
          all_append (IsNormal N L (w.next + 1)) w.normal (w.next ∷ [])
          (all_by (IsNormal N L w.next) (IsNormal N L (w.next + 1)) (λ m h. (omega (arith, h.0), h.1, h.2)) w.normal k.normal_waits)
          ((omega arith, is_n, is_l), tt);
      low_waits = all_by (IsNormal L N w.next) (IsNormal L N (w.next + 1)) (λ m h. (omega (arith, h.0), h.1, h.2)) w.low k.low_waits;
      normal_now = k.normal_now;
      low_now = k.low_now;
      normal_few = k.normal_few;
      low_few = k.low_few;
    }
  where
    has : (m : ℕ) → m < w.next + 1 → is_among (all ++ w.next ∷ []) m ≡ true
    has m l = elim (cases_lt m w.next) [
      | inl lt ↦ among_append all (w.next ∷ []) m ∙ ap (λ b. b || is_among (w.next ∷ []) m) (k.has m lt)
      | inr ge ↦ (let same : w.next ≡ m = omega (arith, l, ge) in subst (λ i. is_among (all ++ w.next ∷ []) i ≡ true) same (among_here all [] w.next))
    ]

    normal_agrees : (m : ℕ) → m < w.next + 1 → is_among (normals ++ w.next ∷ []) m ≡ N m
    normal_agrees m l = elim (cases_lt m w.next) [
      | inl lt ↦ among_append normals (w.next ∷ []) m ∙ ap (λ b. is_among normals m || (b || false)) (more_other w.next m lt)
          ∙ or_false (is_among normals m) ∙ k.normal_agrees m lt
      | inr ge ↦ (let same : w.next ≡ m = omega (arith, l, ge) in subst (λ i. is_among (normals ++ w.next ∷ []) i ≡ N i) same
          (among_here normals [] w.next ∙ sym is_n))
    ]

    low_agrees : (m : ℕ) → m < w.next + 1 → is_among lows m ≡ L m
    low_agrees m l = elim (cases_lt m w.next) [
      | inl lt ↦ k.low_agrees m lt
      | inr ge ↦ (let same : w.next ≡ m = omega (arith, l, ge) in
          subst (λ i. is_among lows i ≡ L i) same (among_less w.next lows (lows_below N L limit all normals lows runs now w k) ∙ sym is_l))
    ]

enqueue_low : (N L : ℕ → Bool) (limit : ℕ) (all normals lows runs now : List ℕ) (w : Waiting) → L w.next ≡ true → N w.next ≡ false
    → Numbers N L limit all normals lows runs now w
    → Numbers N L limit (all ++ w.next ∷ []) normals (lows ++ w.next ∷ []) runs now (with_waiting true w.next w)
enqueue_low N L limit all normals lows runs now w is_l is_n k =
    turn L N limit (all ++ w.next ∷ []) (lows ++ w.next ∷ []) normals runs now (with_waiting false w.next (turned w))
    (enqueue_normal L N limit all lows normals runs now (turned w) is_l is_n (turn N L limit all normals lows runs now w k))

pub run_normal : (N L : ℕ → Bool) (limit : ℕ) (all normals lows runs now : List ℕ) (w v : Waiting) (n : ℕ) → RunsNormal limit n w v
    → Numbers N L limit all normals lows runs now w
    → Numbers N L limit all normals lows (runs ++ n ∷ []) (now ++ n ∷ []) v
run_normal N L limit all normals lows runs now w v n r k =
    let waits : AllByRecursion (IsNormal N L w.next) (n ∷ v.normal) = subst (AllByRecursion (IsNormal N L w.next)) r.front k.normal_waits
    in subst (λ u. Numbers N L limit all normals lows (runs ++ n ∷ []) (now ++ n ∷ []) u) (sym r.then)
    (record {
      count = k.count;
      has = k.has;
      normal_agrees = k.normal_agrees;
      low_agrees = k.low_agrees;
      ran_below = all_append (λ m. m < w.next) runs (n ∷ []) k.ran_below (waits.0.0, tt);
      now_below = all_append (λ m. m < w.next) now (n ∷ []) k.now_below (waits.0.0, tt);
      normal_is =
          ap (λ (xs : List ℕ). xs ++ v.normal) (filter_more N runs n waits.0.1) ∙ append_assoc (filter N runs) (n ∷ []) v.normal
          ∙ ap (λ (xs : List ℕ). filter N runs ++ xs) (sym r.front) ∙ k.normal_is;
      low_is = ap (λ (xs : List ℕ). xs ++ w.low) (filter_as L runs n waits.0.2) ∙ k.low_is;
      normal_waits = waits.1;
      low_waits = k.low_waits;
      normal_now = ap length (filter_more N now n waits.0.1) ∙ omega (arith, length-append (filter N now) (n ∷ []), k.normal_now);
      low_now = ap length (filter_as L now n waits.0.2) ∙ k.low_now;
      normal_few = omega (arith, r.under);
      low_few = k.low_few;
    })

-- a low job is a normal one where the priorities are exchanged
pub run_low : (N L : ℕ → Bool) (limit : ℕ) (all normals lows runs now : List ℕ) (w v : Waiting) (n : ℕ) → RunsLow limit n w v
    → Numbers N L limit all normals lows runs now w
    → Numbers N L limit all normals lows (runs ++ n ∷ []) (now ++ n ∷ []) v
run_low N L limit all normals lows runs now w v n r k =
    turn L N limit all lows normals (runs ++ n ∷ []) (now ++ n ∷ []) (turned v)
    (run_normal L N limit all lows normals runs now (turned w) (turned v) n (record { front = r.front; under = r.under; then = ap turned r.then })
    (turn N L limit all normals lows runs now w k))

cycle_again : (N L : ℕ → Bool) (limit : ℕ) (all normals lows runs now : List ℕ) (w : Waiting) → Numbers N L limit all normals lows runs now w
    → Numbers N L limit all normals lows runs [] (new_cycle w)
cycle_again N L limit all normals lows runs now w k =
    record {
      count = k.count;
      has = k.has;
      normal_agrees = k.normal_agrees;
      low_agrees = k.low_agrees;
      ran_below = k.ran_below;
      now_below = tt;
      normal_is = k.normal_is;
      low_is = k.low_is;
      normal_waits = k.normal_waits;
      low_waits = k.low_waits;
      normal_now = refl;
      low_now = refl;
      normal_few = omega arith;
      low_few = omega arith;
    }

-- ---- entries
-- N and L tell the priority of what an entry enqueues
abbrev pub IsTold : (ℕ → Bool) → (ℕ → Bool) → Entry → Type 0
IsTold N L (entry.Enq n false) = (N n ≡ true) × (L n ≡ false)
IsTold N L (entry.Enq n true) = (L n ≡ true) × (N n ≡ false)
IsTold N L e = Unit {0}

-- an entry that enqueues nothing, runs nothing and begins no cycle
abbrev pub Plain : Entry → Type 0
Plain e =
    (enqueued_by e ≡ None) × (normal_by e ≡ None) × (low_by e ≡ None) × (run_by e ≡ None)
    × ((before after : List Entry) → IsNumbered before e after) × ((limit : ℕ) (before after : List Entry) → LowYields limit before e after)
    × ((now : List Entry) → in_cycle now e ≡ now ++ e ∷ []) × ((now after : List Entry) → cycles_from now (e ∷ after) ≡ cycles_from (now ++ e ∷ []) after)
    × ((limit : ℕ) (w u : Waiting) → Follows limit e w u → u ≡ w) × ((N L : ℕ → Bool) → IsTold N L e)
    × ((limit : ℕ) (w : Waiting) → Follows limit e w w)

pub data Role (e : Entry) : Type 0 where
  is_plain : Plain e → Role e
  is_enqueue : (n : ℕ) (low : Bool) → e ≡ entry.Enq n low → Role e
  is_run : (n : ℕ) → e ≡ entry.Job n → Role e
  is_new : e ≡ entry.Cycle → Role e

pub role : (e : Entry) → Role e
role (entry.Enq n is_low) = is_enqueue n is_low refl
role (entry.Job n) = is_run n refl
role entry.Cycle = is_new refl
role e = is_plain (refl, refl, refl, refl, λ b a. tt, λ l b a. tt, λ now. refl, λ now a. refl, λ l w u f. f, λ N L. tt, λ l w. refl)

pub none_more : (f : Entry → Option ℕ) (es : List Entry) (e : Entry) → f e ≡ None → filter_map f (es ++ e ∷ []) ≡ filter_map f es
none_more f es e h = filter_map-append f es (e ∷ []) ∙ ap (λ (o : Option ℕ). filter_map f es ++ cons_option o []) h ∙ append-nil (filter_map f es)

pub some_more : (f : Entry → Option ℕ) (es : List Entry) (e : Entry) (n : ℕ) → f e ≡ Some n → filter_map f (es ++ e ∷ []) ≡ filter_map f es ++ n ∷ []
some_more f es e n h = filter_map-append f es (e ∷ []) ∙ ap (λ (o : Option ℕ). filter_map f es ++ cons_option o []) h

cycle_more : (es now : List Entry) (e : Entry) → this_cycle es ≡ now → this_cycle (es ++ e ∷ []) ≡ in_cycle now e
cycle_more es now e h = by es [] ∙ ap (λ (xs : List Entry). in_cycle xs e) h
  where
    by : (xs at : List Entry) → fold in_cycle at (xs ++ e ∷ []) ≡ in_cycle (fold in_cycle at xs) e
    by [] at = refl
    by (x ∷ xs) at = by xs (in_cycle at x)

pub record Known (N L : ℕ → Bool) (limit : ℕ) (before now : List Entry) (w : Waiting) : Type 0 where
  pub numbers : Numbers N L limit (enqueued before) (normal before) (low before) (ran before) (ran now) w
  pub this : this_cycle before ≡ now

abbrev pub Few : (ℕ → Bool) → (ℕ → Bool) → ℕ → List Entry → Type 0
Few N L limit es = (length (filter N (ran es)) ≤ limit) × (length (filter L (ran es)) ≤ limit)

-- the laws of the entries that are left, by those before
pub record Lawful (N L : ℕ → Bool) (limit : ℕ) (before now es : List Entry) : Type 0 where
  pub numbered : EachAfter IsNumbered before es
  pub yields : EachAfter (LowYields limit) before es
  pub within : AllByRecursion (Few N L limit) (cycles_from now es)
  pub normals : IsFront (filter N (ran (before ++ es))) (normal (before ++ es))
  pub lows : IsFront (filter L (ran (before ++ es))) (low (before ++ es))

-- the laws of one more entry
added : (N L : ℕ → Bool) (limit : ℕ) (before now next : List Entry) (e : Entry) (es : List Entry) → IsNumbered before e es → LowYields limit before e es
    → AllByRecursion (Few N L limit) (cycles_from now (e ∷ es)) → Lawful N L limit (before ++ e ∷ []) next es → Lawful N L limit before now (e ∷ es)
added N L limit before now next e es num yield within r =
    let joined : (before ++ e ∷ []) ++ es ≡ before ++ e ∷ es = append_assoc before (e ∷ []) es
    in record {
      numbered = (num, r.numbered);
      yields = (yield, r.yields);
      within = within;
      normals = subst (λ (all : List Entry). IsFront (filter N (ran all)) (normal all)) joined r.normals;
      lows = subst (λ (all : List Entry). IsFront (filter L (ran all)) (low all)) joined r.lows;
    }

-- a low job yields, where a normal one does not wait or as many ran as may
yields_so : (N L : ℕ → Bool) (limit : ℕ) (before now : List Entry) (w : Waiting) (b : Bool) → Known N L limit before now w
    → (w.normal ≡ []) ⊎ (limit ≤ w.normal_ran) → Yields limit b before
yields_so N L limit before now w false k h = tt
yields_so N L limit before now w true k (inl none) =
    let whole : filter N (ran before) ≡ normal before = sym (append-nil (filter N (ran before)))
    ∙ ap (λ (xs : List ℕ). filter N (ran before) ++ xs) (sym none) ∙ k.numbers.normal_is
    in inl (subst (λ (xs : List ℕ). list_all (is_among (ran before)) xs ≡ true) whole (all_kept N [] (ran before)))
yields_so N L limit before now w true k (inr full) =
    let agree : AllByRecursion (λ m. is_among (normal before) m ≡ N m) (ran now) =
    all_by (λ m. m < w.next) (λ m. is_among (normal before) m ≡ N m) k.numbers.normal_agrees (ran now) k.numbers.now_below
    in let same : length (filter (is_among (normal before)) (ran now)) ≡ w.normal_ran =
    ap length (filter_same (is_among (normal before)) N (ran now) agree) ∙ k.numbers.normal_now
    in let all : w.normal_ran ≡ limit = omega (arith, full, k.numbers.normal_few)
    in inr (ap (λ (es : List Entry). length (filter (is_among (normal before)) (ran es))) k.this ∙ same ∙ all)

-- a number that ran as a normal one is not low
yields_normal : (L : ℕ → Bool) (limit n : ℕ) (before : List Entry) → is_among (low before) n ≡ L n → L n ≡ false → Yields limit (is_among (low before) n) before
yields_normal L limit n before agrees other = subst (λ b. Yields limit b before) (sym (agrees ∙ other)) tt

-- ---- all entries
abbrev Continues : (ℕ → Bool) → (ℕ → Bool) → ℕ → List Entry → Type 0
Continues N L limit es = (before now : List Entry) (w v : Waiting) → Known N L limit before now w → Leads limit es w v → Lawful N L limit before now es

pub plain_known : (N L : ℕ → Bool) (limit : ℕ) (before now : List Entry) (e : Entry) (w : Waiting) → Plain e → Known N L limit before now w
    → Known N L limit (before ++ e ∷ []) (now ++ e ∷ []) w
plain_known N L limit before now e w p k =
    record {
      numbers = rw (
        none_more enqueued_by before e p.0,
        none_more normal_by before e p.1,
        none_more low_by before e p.2,
        none_more run_by before e p.3,
        none_more run_by now e p.3,
      ) (k.numbers);
      this = cycle_more before now e k.this ∙ p.6 now;
    }

pub enqueue_known : (N L : ℕ → Bool) (limit : ℕ) (before now : List Entry) (low : Bool) (w : Waiting) → IsTold N L (entry.Enq w.next low)
    → Known N L limit before now w
    → Known N L limit (before ++ entry.Enq w.next low ∷ []) (now ++ entry.Enq w.next low ∷ []) (with_waiting low w.next w)
enqueue_known N L limit before now false w told k =
    let e : Entry = entry.Enq w.next false
    in record {
      numbers = rw (
        some_more enqueued_by before (entry.Enq w.next false) w.next refl,
        some_more normal_by before (entry.Enq w.next false) w.next refl,
        none_more low_by before (entry.Enq w.next false) refl,
        none_more run_by before (entry.Enq w.next false) refl,
        none_more run_by now (entry.Enq w.next false) refl,
      ) (enqueue_normal N L limit (enqueued before) (normal before) (low before) (ran before) (ran now) w told.0 told.1 k.numbers);
      this = cycle_more before now (entry.Enq w.next false) k.this;
    }
enqueue_known N L limit before now true w told k =
    record {
      numbers = rw (
        some_more enqueued_by before (entry.Enq w.next true) w.next refl,
        none_more normal_by before (entry.Enq w.next true) refl,
        some_more low_by before (entry.Enq w.next true) w.next refl,
        none_more run_by before (entry.Enq w.next true) refl,
        none_more run_by now (entry.Enq w.next true) refl,
      ) (enqueue_low N L limit (enqueued before) (normal before) (low before) (ran before) (ran now) w told.0 told.1 k.numbers);
      this = cycle_more before now (entry.Enq w.next true) k.this;
    }

pub run_known : (N L : ℕ → Bool) (limit : ℕ) (before now : List Entry) (n : ℕ) (w v : Waiting) → Known N L limit before now w
    → Numbers N L limit (enqueued before) (normal before) (low before) (ran before ++ n ∷ []) (ran now ++ n ∷ []) v
    → Known N L limit (before ++ entry.Job n ∷ []) (now ++ entry.Job n ∷ []) v
run_known N L limit before now n w v k h =
    record {
      numbers = rw (
        none_more enqueued_by before (entry.Job n) refl,
        none_more normal_by before (entry.Job n) refl,
        none_more low_by before (entry.Job n) refl,
        some_more run_by before (entry.Job n) n refl,
        some_more run_by now (entry.Job n) n refl,
      ) h;
      this = cycle_more before now (entry.Job n) k.this;
    }

pub cycle_known : (N L : ℕ → Bool) (limit : ℕ) (before now : List Entry) (w : Waiting) → Known N L limit before now w
    → Known N L limit (before ++ entry.Cycle ∷ []) [] (new_cycle w)
cycle_known N L limit before now w k =
    record {
      numbers = rw (
        none_more enqueued_by before entry.Cycle refl,
        none_more normal_by before entry.Cycle refl,
        none_more low_by before entry.Cycle refl,
        none_more run_by before entry.Cycle refl,
      ) (cycle_again N L limit (enqueued before) (normal before) (low before) (ran before) (ran now) w k.numbers);
      this = cycle_more before now entry.Cycle k.this;
    }

few_now : (N L : ℕ → Bool) (limit : ℕ) (before now : List Entry) (w : Waiting) → Known N L limit before now w → Few N L limit now
few_now N L limit before now w k = (omega (arith, k.numbers.normal_now, k.numbers.normal_few), omega (arith, k.numbers.low_now, k.numbers.low_few))

run_one : (N L : ℕ → Bool) (limit n : ℕ) (es : List Entry) → Continues N L limit es → (before now : List Entry) (w u v : Waiting)
    → Known N L limit before now w → RunsNormal limit n w u ⊎ RunsLow limit n w u
    → Leads limit es u v → Lawful N L limit before now (entry.Job n ∷ es)
run_one N L limit n es ih before now w u v k (inl r) l =
    let waits : AllByRecursion (IsNormal N L w.next) (n ∷ u.normal) = subst (AllByRecursion (IsNormal N L w.next)) r.front k.numbers.normal_waits
    in let later : Lawful N L limit (before ++ entry.Job n ∷ []) (now ++ entry.Job n ∷ []) es =
    ih (before ++ entry.Job n ∷ []) (now ++ entry.Job n ∷ []) u v
    (run_known N L limit before now n w u k (run_normal N L limit (enqueued before) (normal before) (low before) (ran before) (ran now) w u n r k.numbers)) l
    in added N L limit before now (now ++ entry.Job n ∷ []) (entry.Job n) es (k.numbers.has n waits.0.0)
    (yields_normal L limit n before (k.numbers.low_agrees n waits.0.0) waits.0.2) later.within later
run_one N L limit n es ih before now w u v k (inr r) l =
    let waits : AllByRecursion (IsNormal L N w.next) (n ∷ u.low) = subst (AllByRecursion (IsNormal L N w.next)) r.front k.numbers.low_waits
    in let later : Lawful N L limit (before ++ entry.Job n ∷ []) (now ++ entry.Job n ∷ []) es =
    ih (before ++ entry.Job n ∷ []) (now ++ entry.Job n ∷ []) u v
    (run_known N L limit before now n w u k (run_low N L limit (enqueued before) (normal before) (low before) (ran before) (ran now) w u n r k.numbers)) l
    in added N L limit before now (now ++ entry.Job n ∷ []) (entry.Job n) es (k.numbers.has n waits.0.0)
    (yields_so N L limit before now w (is_among (low before) n) k r.none_before) later.within later

enqueue_one : (N L : ℕ → Bool) (limit n : ℕ) (low : Bool) (es : List Entry) → IsTold N L (entry.Enq n low) → Continues N L limit es
    → (before now : List Entry) (w u v : Waiting) → Known N L limit before now w
    → Follows limit (entry.Enq n low) w u → Leads limit es u v → Lawful N L limit before now (entry.Enq n low ∷ es)
enqueue_one N L limit n low es told ih before now w u v k f l =
    let first : Entry = entry.Enq n low
    in let known : Known N L limit (before ++ entry.Enq w.next low ∷ []) (now ++ entry.Enq w.next low ∷ []) (with_waiting low w.next w) =
    enqueue_known N L limit before now low w (subst (λ m. IsTold N L (entry.Enq m low)) f.0 told) k
    in let later : Lawful N L limit (before ++ entry.Enq n low ∷ []) (now ++ entry.Enq n low ∷ []) es =
    ih (before ++ entry.Enq n low ∷ []) (now ++ entry.Enq n low ∷ []) u v
    (subst (λ m. Known N L limit (before ++ entry.Enq m low ∷ []) (now ++ entry.Enq m low ∷ []) u) (sym f.0)
    (subst (λ x. Known N L limit (before ++ entry.Enq w.next low ∷ []) (now ++ entry.Enq w.next low ∷ []) x)
    (sym (f.1 ∙ ap (λ m. with_waiting low m w) f.0)) known)) l
    in added N L limit before now (now ++ entry.Enq n low ∷ []) (entry.Enq n low) es (f.0 ∙ sym k.numbers.count) tt later.within later

one : (N L : ℕ → Bool) (limit : ℕ) (e : Entry) (es : List Entry) → Role e → IsTold N L e → Continues N L limit es
    → (before now : List Entry) (w u v : Waiting) → Known N L limit before now w → Follows limit e w u
    → Leads limit es u v → Lawful N L limit before now (e ∷ es)
one N L limit e es (is_plain p) told ih before now w u v k f l =
    let later : Lawful N L limit (before ++ e ∷ []) (now ++ e ∷ []) es =
    ih (before ++ e ∷ []) (now ++ e ∷ []) w v (plain_known N L limit before now e w p k) (subst (λ x. Leads limit es x v) (p.8 limit w u f) l)
    in added N L limit before now (now ++ e ∷ []) e es (p.4 before es) (p.5 limit before es)
    (subst (AllByRecursion (Few N L limit)) (sym (p.7 now es)) later.within) later
one N L limit e es (is_enqueue n low eq) told ih before now w u v k f l =
    subst (λ x. Lawful N L limit before now (x ∷ es)) (sym eq)
    (enqueue_one N L limit n low es (subst (IsTold N L) eq told) ih before now w u v k (subst (λ x. Follows limit x w u) eq f) l)
one N L limit e es (is_run n eq) told ih before now w u v k f l =
    subst (λ x. Lawful N L limit before now (x ∷ es)) (sym eq) (run_one N L limit n es ih before now w u v k (subst (λ x. Follows limit x w u) eq f) l)
one N L limit e es (is_new eq) told ih before now w u v k f l =
    let again : u ≡ new_cycle w = subst (λ x. Follows limit x w u) eq f
    in let later : Lawful N L limit (before ++ entry.Cycle ∷ []) [] es =
    ih (before ++ entry.Cycle ∷ []) [] u v (subst (λ x. Known N L limit (before ++ entry.Cycle ∷ []) [] x) (sym again) (cycle_known N L limit before now w k)) l
    in subst (λ x. Lawful N L limit before now (x ∷ es)) (sym eq)
    (added N L limit before now [] entry.Cycle es tt tt (few_now N L limit before now w k, later.within) later)

lawful : (N L : ℕ → Bool) (limit : ℕ) (es : List Entry) → AllByRecursion (IsTold N L) es → Continues N L limit es
lawful N L limit [] told before now w v k l =
    record {
      numbered = tt;
      yields = tt;
      within = (few_now N L limit before now w k, tt);
      normals = subst (λ (all : List Entry). IsFront (filter N (ran all)) (normal all)) (sym (append-nil before))
          (front (filter N (ran before)) w.normal (normal before) k.numbers.normal_is);
      lows = subst (λ (all : List Entry). IsFront (filter L (ran all)) (low all)) (sym (append-nil before))
          (front (filter L (ran before)) w.low (low before) k.numbers.low_is);
    }
lawful N L limit (e ∷ es) told before now w v k l = one N L limit e es (role e) told.0 (lawful N L limit es told.1) before now w l.0 v k l.1 l.2

-- ---- the priorities of a trace's own jobs
-- jobs that are enqueued later have numbers from the next on
record Later (w : Waiting) (es : List Entry) : Type 0 where
  normals : AllByRecursion (λ m. w.next ≤ m) (normal es)
  lows : AllByRecursion (λ m. w.next ≤ m) (low es)

later_one : (limit : ℕ) (e : Entry) (es : List Entry) (w u : Waiting) → Role e → Follows limit e w u → Later u es → Later w (e ∷ es)
later_one limit e es w u (is_plain p) f h =
    record {
      normals = subst (λ (o : Option ℕ). AllByRecursion (λ m. w.next ≤ m) (cons_option o (normal es))) (sym p.1)
          (subst (λ (x : Waiting). AllByRecursion (λ m. x.next ≤ m) (normal es)) (p.8 limit w u f) h.normals);
      lows = subst (λ (o : Option ℕ). AllByRecursion (λ m. w.next ≤ m) (cons_option o (low es))) (sym p.2)
          (subst (λ (x : Waiting). AllByRecursion (λ m. x.next ≤ m) (low es)) (p.8 limit w u f) h.lows);
    }
later_one limit e es w u (is_enqueue n is_low eq) f h =
    subst (λ x. Later w (x ∷ es)) (sym eq) (by is_low (subst (λ x. Follows limit x w u) eq f))
  where
    next_is : (b : Bool) → Follows limit (entry.Enq n b) w u → u.next ≡ w.next + 1
    next_is true f = ap (λ (x : Waiting). x.next) f.1
    next_is false f = ap (λ (x : Waiting). x.next) f.1

    less : (b : Bool) → Follows limit (entry.Enq n b) w u → (xs : List ℕ) → AllByRecursion (λ m. u.next ≤ m) xs → AllByRecursion (λ m. w.next ≤ m) xs
    less b f xs k = all_by (λ m. u.next ≤ m) (λ m. w.next ≤ m) (λ m l. omega (arith, l, next_is b f)) xs k

    by : (b : Bool) → Follows limit (entry.Enq n b) w u → Later w (entry.Enq n b ∷ es)
    by true f = record { normals = less true f (normal es) h.normals; lows = (omega (arith, f.0), less true f (low es) h.lows) }
    by false f = record { normals = (omega (arith, f.0), less false f (normal es) h.normals); lows = less false f (low es) h.lows }
later_one limit e es w u (is_run n eq) f h =
    subst (λ x. Later w (x ∷ es)) (sym eq) (by (subst (λ x. Follows limit x w u) eq f))
  where
    same : w.next ≡ u.next → Later w (entry.Job n ∷ es)
    same e =
        record {
          normals = subst (λ k. AllByRecursion (λ m. k ≤ m) (normal es)) (sym e) h.normals;
          lows = subst (λ k. AllByRecursion (λ m. k ≤ m) (low es)) (sym e) h.lows;
        }

    by : RunsNormal limit n w u ⊎ RunsLow limit n w u → Later w (entry.Job n ∷ es)
    by (inl r) = same (sym (ap (λ (x : Waiting). x.next) r.then))
    by (inr r) = same (sym (ap (λ (x : Waiting). x.next) r.then))
later_one limit e es w u (is_new eq) f h =
    let same : u.next ≡ w.next = ap (λ (x : Waiting). x.next) (subst (λ x. Follows limit x w u) eq f)
    in subst (λ x. Later w (x ∷ es)) (sym eq)
    (record {
      normals = subst (λ k. AllByRecursion (λ m. k ≤ m) (normal es)) same h.normals;
      lows = subst (λ k. AllByRecursion (λ m. k ≤ m) (low es)) same h.lows;
    })

later : (limit : ℕ) (es : List Entry) (w v : Waiting) → Leads limit es w v → Later w es
later limit [] w v l = record { normals = tt; lows = tt }
later limit (e ∷ es) w v l = later_one limit e es w l.0 (role e) l.1 (later limit es l.0 v l.2)

-- N and L tell the jobs from the next on as the entries do
abbrev pub Tells : (ℕ → Bool) → (ℕ → Bool) → ℕ → List Entry → Type 0
Tells N L next es = (m : ℕ) → next ≤ m → (N m ≡ is_among (normal es) m) × (L m ≡ is_among (low es) m)

told_one : (N L : ℕ → Bool) (limit : ℕ) (e : Entry) (es : List Entry) (w u : Waiting) → Role e → Follows limit e w u → Later u es
    → Tells N L w.next (e ∷ es) → IsTold N L e × Tells N L u.next es
told_one N L limit e es w u (is_plain p) f h t = (p.9 N L, λ m l. by m (t m (subst (λ (x : Waiting). x.next ≤ m) (p.8 limit w u f) l)))
  where
    by : (m : ℕ) → (N m ≡ is_among (normal (e ∷ es)) m) × (L m ≡ is_among (low (e ∷ es)) m) → (N m ≡ is_among (normal es) m) × (L m ≡ is_among (low es) m)
    by m k = (
      k.0 ∙ ap (λ (o : Option ℕ). is_among (cons_option o (normal es)) m) p.1,
      k.1 ∙ ap (λ (o : Option ℕ). is_among (cons_option o (low es)) m) p.2,
    )
told_one N L limit e es w u (is_enqueue n is_low eq) f h t =
    subst (λ x. IsTold N L x × Tells N L u.next es) (sym eq) (by is_low (subst (λ x. Follows limit x w u) eq f) (subst (λ x. Tells N L w.next (x ∷ es)) eq t))
  where
    -- a number of a later job is greater
    greater : u.next ≡ n + 1 → (xs : List ℕ) → AllByRecursion (λ m. u.next ≤ m) xs → is_among xs n ≡ false
    greater e xs k = among_more n xs (all_by (λ m. u.next ≤ m) (λ m. n < m) (λ m l. omega (arith, l, e)) xs k)

    -- and the number is among it and others only where it is itself
    past : u.next ≡ n + 1 → (xs : List ℕ) (m : ℕ) → u.next ≤ m → is_among (n ∷ xs) m ≡ is_among xs m
    past e xs m l = let less : n < m = omega (arith, l, e) in ap (λ b. b || is_among xs m) (less_other n m less)

    by : (b : Bool) → Follows limit (entry.Enq n b) w u → Tells N L w.next (entry.Enq n b ∷ es) → IsTold N L (entry.Enq n b) × Tells N L u.next es
    by false f t =
        let next : u.next ≡ n + 1 = ap (λ (x : Waiting). x.next) f.1 ∙ ap (λ m. m + 1) (sym f.0)
        in let here = t n (omega (arith, f.0))
        in (
          (here.0 ∙ among_here [] (normal es) n, here.1 ∙ greater next (low es) h.lows),
          λ m l. let there = t m (omega (arith, l, next, f.0)) in (there.0 ∙ past next (normal es) m l, there.1),
        )
    by true f t =
        let next : u.next ≡ n + 1 = ap (λ (x : Waiting). x.next) f.1 ∙ ap (λ m. m + 1) (sym f.0)
        in let here = t n (omega (arith, f.0))
        in (
          (here.1 ∙ among_here [] (low es) n, here.0 ∙ greater next (normal es) h.normals),
          λ m l. let there = t m (omega (arith, l, next, f.0)) in (there.0, there.1 ∙ past next (low es) m l),
        )
told_one N L limit e es w u (is_run n eq) f h t =
    subst (λ x. IsTold N L x × Tells N L u.next es) (sym eq) (
      tt,
      subst (λ k. Tells N L k es) (by (subst (λ x. Follows limit x w u) eq f))
          (subst (λ x. Tells N L w.next (x ∷ es)) eq t),
    )
  where
    by : RunsNormal limit n w u ⊎ RunsLow limit n w u → w.next ≡ u.next
    by (inl r) = sym (ap (λ (x : Waiting). x.next) r.then)
    by (inr r) = sym (ap (λ (x : Waiting). x.next) r.then)
told_one N L limit e es w u (is_new eq) f h t =
    let same : w.next ≡ u.next = sym (ap (λ (x : Waiting). x.next) (subst (λ x. Follows limit x w u) eq f))
    in subst (λ x. IsTold N L x × Tells N L u.next es) (sym eq) (tt, subst (λ k. Tells N L k es) same (subst (λ x. Tells N L w.next (x ∷ es)) eq t))

told : (N L : ℕ → Bool) (limit : ℕ) (es : List Entry) (w v : Waiting) → Leads limit es w v → Tells N L w.next es → AllByRecursion (IsTold N L) es
told N L limit [] w v l t = tt
told N L limit (e ∷ es) w v l t = let x = told_one N L limit e es w l.0 (role e) l.1 (later limit es l.0 v l.2) t in (x.0, told N L limit es l.0 v l.2 x.1)

pub nothing_known : (N L : ℕ → Bool) (limit : ℕ) → Known N L limit [] [] nothing_waits
nothing_known N L limit =
    record {
      numbers = record {
        count = refl;
        has = λ m l. absurd (omega (arith, l));
        normal_agrees = λ m l. absurd (omega (arith, l));
        low_agrees = λ m l. absurd (omega (arith, l));
        ran_below = tt;
        now_below = tt;
        normal_is = refl;
        low_is = refl;
        normal_waits = tt;
        low_waits = tt;
        normal_now = refl;
        low_now = refl;
        normal_few = omega arith;
        low_few = omega arith;
      };
      this = refl;
    }

pub in_order_obeys : (limit : ℕ) (trace : List Entry) → IsInOrder limit trace → JobsInOrder trace × CyclesAreLimited limit trace
in_order_obeys limit trace h =
    let N : ℕ → Bool = is_among (normal trace)
    in let L : ℕ → Bool = is_among (low trace)
    in let r : Lawful N L limit [] [] trace =
    lawful N L limit trace (told N L limit trace nothing_waits h.0 h.1 (λ m l. (refl, refl))) [] [] nothing_waits h.0 (nothing_known N L limit) h.1
    in (
      record { numbered = r.numbered; normal_in_order = r.normals; low_in_order = r.lows },
      record {
        within = all_by (Few N L limit) (IsWithin limit trace) (λ c few. record { normal_jobs = few.0; low_jobs = few.1 }) (cycles_from [] trace) r.within;
        low_last = r.yields;
      },
    )
