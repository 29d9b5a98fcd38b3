-- A trace that obeys both laws of jobs has its jobs in order.
use Rattle.std.proofs.Common.{ℕ, ◌+◌, ◌<◌, ◌≤◌, ◌⊎◌, ◌≡◌, List, [], ◌∷◌, ◌++◌, length, Bool, true, false, ◌||◌, ◌&&◌, ◌==◌, None, refl, sym, subst}
use Rattle.std.proofs.Common.{◌∙◌, ap, cond, inl, inr, arith, append_assoc, length-append}
use Rattle.std.specs.Prelude.{filter}
use Rattle.std.specs.List.{AllByRecursion, list_all}
use Rattle.std.proofs.lemmas.List.Elements.{filter-append, filter_map-append}
use Rattle.std.proofs.lemmas.Bool.{cases_lt, eqb-true, true≢false}
use Rattle.ak_base.specs.Lists.{rest_of}
use Rattle.ak_trace.specs.declared.entry.Entry.{Entry}
use Rattle.ak_trace.specs.declared.entry.Entry.TheVariants as entry
use Rattle.ak_holders.proofs.Carry.{all_append, all_by}
use Rattle.ak_laws.specs.Places.{EachAfter}
use Rattle.ak_laws.specs.Order.{Waiting, nothing_waits, with_waiting, new_cycle, RunsNormal, RunsLow, Leads, IsInOrder}
use Rattle.ak_laws.specs.Jobs.{is_among, enqueued_by, normal_by, low_by, run_by, enqueued, normal, low, ran, IsFront, IsNumbered, JobsInOrder}
use Rattle.ak_laws.specs.Jobs.{cycles_from, IsWithin, Yields, CyclesAreLimited}
use Rattle.ak_laws.proofs.Jobs.{Plain, Role, is_plain, is_enqueue, is_run, is_new, role, filter_same, less_other}
use Rattle.ak_laws.proofs.Jobs.{among_append, among_here, among_less, among_more, none_more, some_more, IsNormal, Numbers, turned, turn, IsTold}
use Rattle.ak_laws.proofs.Jobs.{Tells, Few, Known, Lawful, plain_known, enqueue_known, run_normal, run_low, run_known, cycle_known, nothing_known}

-- ---- numbers that rise
abbrev Rising : List ℕ → Type 0
Rising [] = Unit {0}
Rising (n ∷ ns) = AllByRecursion (λ m. n < m) ns × Rising ns

rising_push : (xs : List ℕ) (n : ℕ) → Rising xs → AllByRecursion (λ m. m < n) xs → Rising (xs ++ n ∷ [])
rising_push [] n r h = (tt, tt)
rising_push (x ∷ xs) n r h = (all_append (λ m. x < m) xs (n ∷ []) r.0 (h.0, tt), rising_push xs n r.1 h.1)

is_low_then : (b : Bool) → (b ≡ true → ⊥) → b ≡ false
is_low_then true h = absurd (h refl)
is_low_then false h = refl

-- what is known besides: which jobs were enqueued at which priority, and that those that wait did not run and rise
record Besides (N L : ℕ → Bool) (all runs : List ℕ) (w : Waiting) : Type 0 where
  below : AllByRecursion (λ m. m < w.next) all
  either : (m : ℕ) → m < w.next → ((N m ≡ true) × (L m ≡ false)) ⊎ ((L m ≡ true) × (N m ≡ false))
  normal_left : AllByRecursion (λ m. is_among runs m ≡ false) w.normal
  low_left : AllByRecursion (λ m. is_among runs m ≡ false) w.low
  normal_rises : Rising w.normal
  low_rises : Rising w.low

either_turned : {A B : Type 0} → A ⊎ B → B ⊎ A
either_turned (inl a) = inr a
either_turned (inr b) = inl b

turn_besides : (N L : ℕ → Bool) (all runs : List ℕ) (w : Waiting) → Besides N L all runs w → Besides L N all runs (turned w)
turn_besides N L all runs w b = record {
  below = b.below;
  either = λ m l. either_turned (b.either m l);
  normal_left = b.low_left;
  low_left = b.normal_left;
  normal_rises = b.low_rises;
  low_rises = b.normal_rises;
}

enqueue_besides : (N L : ℕ → Bool) (limit : ℕ) (all normals lows runs now : List ℕ) (w : Waiting) → N w.next ≡ true → L w.next ≡ false
    → Numbers N L limit all normals lows runs now w → Besides N L all runs w
    → Besides N L (all ++ w.next ∷ []) runs (with_waiting false w.next w)
enqueue_besides N L limit all normals lows runs now w is_n is_l k b = record {
  below = all_append (λ m. m < w.next + 1) all (w.next ∷ [])
      (all_by (λ m. m < w.next) (λ m. m < w.next + 1) (λ m h. omega (arith, h)) all b.below) (omega arith, tt);
  either = λ m l. elim (cases_lt m w.next) [
    | inl lt ↦ b.either m lt
    | inr ge ↦
        (let same : w.next ≡ m = omega (arith, l, ge)
        in subst (λ i. ((N i ≡ true) × (L i ≡ false)) ⊎ ((L i ≡ true) × (N i ≡ false))) same (inl (is_n, is_l)))
  ];
  normal_left = all_append (λ m. is_among runs m ≡ false) w.normal (w.next ∷ []) b.normal_left (among_less w.next runs k.ran_below, tt);
  low_left = b.low_left;
  normal_rises = rising_push w.normal w.next b.normal_rises (all_by (IsNormal N L w.next) (λ m. m < w.next) (λ m h. h.0) w.normal k.normal_waits);
  low_rises = b.low_rises;
}

enqueue_low_besides : (N L : ℕ → Bool) (limit : ℕ) (all normals lows runs now : List ℕ) (w : Waiting) → L w.next ≡ true → N w.next ≡ false
    → Numbers N L limit all normals lows runs now w → Besides N L all runs w
    → Besides N L (all ++ w.next ∷ []) runs (with_waiting true w.next w)
enqueue_low_besides N L limit all normals lows runs now w is_l is_n k b =
    turn_besides L N (all ++ w.next ∷ []) runs (with_waiting false w.next (turned w))
    (enqueue_besides L N limit all lows normals runs now (turned w) is_l is_n (turn N L limit all normals lows runs now w k)
    (turn_besides N L all runs w b))

not_last : (runs : List ℕ) (n m : ℕ) → is_among runs m ≡ false → (n == m) ≡ false → is_among (runs ++ n ∷ []) m ≡ false
not_last runs n m h e = among_append runs (n ∷ []) m ∙ ap (λ b. b || (n == m || false)) h ∙ ap (λ b. b || false) e

-- a normal job is no low one
no_other : (N L : ℕ → Bool) (n m next : ℕ) → N n ≡ true → IsNormal L N next m → (n == m) ≡ false
no_other N L n m next h w =
    is_low_then (n == m) (λ e. true≢false (sym h ∙ ap N (eqb-true n m e) ∙ w.2))

run_besides : (N L : ℕ → Bool) (limit : ℕ) (all normals lows runs now : List ℕ) (w v : Waiting) (n : ℕ) → RunsNormal limit n w v
    → Numbers N L limit all normals lows runs now w → Besides N L all runs w → Besides N L all (runs ++ n ∷ []) v
run_besides N L limit all normals lows runs now w v n r k b =
    let waits : AllByRecursion (IsNormal N L w.next) (n ∷ v.normal) = subst (AllByRecursion (IsNormal N L w.next)) r.front k.normal_waits
    in let left : AllByRecursion (λ m. is_among runs m ≡ false) (n ∷ v.normal) =
    subst (AllByRecursion (λ m. is_among runs m ≡ false)) r.front b.normal_left
    in let rises : Rising (n ∷ v.normal) = subst Rising r.front b.normal_rises
    in subst (Besides N L all (runs ++ n ∷ [])) (sym r.then)
    (record {
      below = b.below;
      either = b.either;
      normal_left = both v.normal left.1 rises.0;
      low_left = others w.low b.low_left k.low_waits waits.0.1;
      normal_rises = rises.1;
      low_rises = b.low_rises;
    })
  where
    both : (xs : List ℕ) → AllByRecursion (λ m. is_among runs m ≡ false) xs → AllByRecursion (λ m. n < m) xs
        → AllByRecursion (λ m. is_among (runs ++ n ∷ []) m ≡ false) xs
    both [] h l = tt
    both (x ∷ xs) h l = (not_last runs n x h.0 (less_other n x l.0), both xs h.1 l.1)

    others : (xs : List ℕ) → AllByRecursion (λ m. is_among runs m ≡ false) xs → AllByRecursion (IsNormal L N w.next) xs → N n ≡ true
        → AllByRecursion (λ m. is_among (runs ++ n ∷ []) m ≡ false) xs
    others [] h l e = tt
    others (x ∷ xs) h l e = (not_last runs n x h.0 (no_other N L n x w.next e l.0), others xs h.1 l.1 e)

run_low_besides : (N L : ℕ → Bool) (limit : ℕ) (all normals lows runs now : List ℕ) (w v : Waiting) (n : ℕ) → RunsLow limit n w v
    → Numbers N L limit all normals lows runs now w → Besides N L all runs w → Besides N L all (runs ++ n ∷ []) v
run_low_besides N L limit all normals lows runs now w v n r k b =
    turn_besides L N all (runs ++ n ∷ []) (turned v)
    (run_besides L N limit all lows normals runs now (turned w) (turned v) n
    (record { front = r.front; under = r.under; then = ap turned r.then })
    (turn N L limit all normals lows runs now w k) (turn_besides N L all runs w b))

-- ---- numbers that are enqueued later
one_more : (before : List Entry) (n : ℕ) (b : Bool) → length (enqueued (before ++ entry.Enq n b ∷ [])) ≡ length (enqueued before) + 1
one_more before n b =
    ap length (some_more enqueued_by before (entry.Enq n b) n refl) ∙ length-append (enqueued before) (n ∷ [])

record Later (c : ℕ) (es : List Entry) : Type 0 where
  normals : AllByRecursion (λ m. c ≤ m) (normal es)
  lows : AllByRecursion (λ m. c ≤ m) (low es)

less : (c d : ℕ) → d ≡ c + 1 → (xs : List ℕ) → AllByRecursion (λ m. d ≤ m) xs → AllByRecursion (λ m. c ≤ m) xs
less c d e xs h = all_by (λ m. d ≤ m) (λ m. c ≤ m) (λ m l. omega (arith, l, e)) xs h

later : (before es : List Entry) → EachAfter IsNumbered before es → Later (length (enqueued before)) es
later before [] h = record { normals = tt; lows = tt }
later before (entry.Enq n false ∷ es) h =
    let r : Later (length (enqueued (before ++ entry.Enq n false ∷ []))) es = later (before ++ entry.Enq n false ∷ []) es h.1
    in record {
      normals = (omega (arith, h.0), less (length (enqueued before)) _ (one_more before n false) (normal es) r.normals);
      lows = less (length (enqueued before)) _ (one_more before n false) (low es) r.lows;
    }
later before (entry.Enq n true ∷ es) h =
    let r : Later (length (enqueued (before ++ entry.Enq n true ∷ []))) es = later (before ++ entry.Enq n true ∷ []) es h.1
    in record {
      normals = less (length (enqueued before)) _ (one_more before n true) (normal es) r.normals;
      lows = (omega (arith, h.0), less (length (enqueued before)) _ (one_more before n true) (low es) r.lows);
    }
later before (e ∷ es) h =
    let r : Later (length (enqueued (before ++ e ∷ []))) es = later (before ++ e ∷ []) es h.1
    in let same : length (enqueued (before ++ e ∷ [])) ≡ length (enqueued before) = ap length (none_more enqueued_by before e refl)
    in record {
      normals = subst (λ c. AllByRecursion (λ m. c ≤ m) (normal es)) same r.normals;
      lows = subst (λ c. AllByRecursion (λ m. c ≤ m) (low es)) same r.lows;
    }

-- a number of a later job is greater, and it is among one and others only where it is among the others
greater : (n d : ℕ) (xs : List ℕ) → d ≡ n + 1 → AllByRecursion (λ m. d ≤ m) xs → is_among xs n ≡ false
greater n d xs e h = among_more n xs (all_by (λ m. d ≤ m) (λ m. n < m) (λ m l. omega (arith, l, e)) xs h)

past : (n d : ℕ) (xs : List ℕ) (m : ℕ) → d ≡ n + 1 → d ≤ m → is_among (n ∷ xs) m ≡ is_among xs m
past n d xs m e l = let more : n < m = omega (arith, l, e) in ap (λ b. b || is_among xs m) (less_other n m more)

told : (N L : ℕ → Bool) (before es : List Entry) → EachAfter IsNumbered before es → Tells N L (length (enqueued before)) es
    → AllByRecursion (IsTold N L) es
told N L before [] h t = tt
told N L before (entry.Enq n false ∷ es) h t =
    let c : ℕ = length (enqueued before)
    in let d : ℕ = length (enqueued (before ++ entry.Enq n false ∷ []))
    in let first : n ≡ c = h.0
    in let next : d ≡ n + 1 = omega (arith, one_more before n false, first)
    in let r : Later d es = later (before ++ entry.Enq n false ∷ []) es h.1
    in let here : (N n ≡ is_among (n ∷ normal es) n) × (L n ≡ is_among (low es) n) = t n (omega (arith, first))
    in (
      (here.0 ∙ among_here [] (normal es) n, here.1 ∙ greater n d (low es) next r.lows),
      told N L (before ++ entry.Enq n false ∷ []) es h.1
          (λ m l. (
            (t m (omega (arith, l, next, first))).0 ∙ past n d (normal es) m next l,
            (t m (omega (arith, l, next, first))).1,
          )),
    )
told N L before (entry.Enq n true ∷ es) h t =
    let c : ℕ = length (enqueued before)
    in let d : ℕ = length (enqueued (before ++ entry.Enq n true ∷ []))
    in let first : n ≡ c = h.0
    in let next : d ≡ n + 1 = omega (arith, one_more before n true, first)
    in let r : Later d es = later (before ++ entry.Enq n true ∷ []) es h.1
    in let here : (N n ≡ is_among (normal es) n) × (L n ≡ is_among (n ∷ low es) n) = t n (omega (arith, first))
    in (
      (here.1 ∙ among_here [] (low es) n, here.0 ∙ greater n d (normal es) next r.normals),
      told N L (before ++ entry.Enq n true ∷ []) es h.1
          (λ m l. (
            (t m (omega (arith, l, next, first))).0,
            (t m (omega (arith, l, next, first))).1 ∙ past n d (low es) m next l,
          )),
    )
told N L before (e ∷ es) h t =
    let same : length (enqueued (before ++ e ∷ [])) ≡ length (enqueued before) = ap length (none_more enqueued_by before e refl)
    in (tt, told N L (before ++ e ∷ []) es h.1 (λ m l. t m (subst (λ c. c ≤ m) same l)))

-- ---- the job that runs is the front one
taken_front : (A B Q : List ℕ) (n : ℕ) → IsFront (A ++ n ∷ B) (A ++ Q) → Q ≡ n ∷ rest_of Q
taken_front [] B [] n e = absurd (cc)
taken_front [] B (x ∷ Q) n e = let same : x ≡ n = cc in ap (λ y. y ∷ Q) same
taken_front (a ∷ A) B Q n e = taken_front A B Q n (ap rest_of e)

queue_front : (queue later : List ℕ) (n c : ℕ) → queue ++ later ≡ n ∷ rest_of (queue ++ later) → AllByRecursion (λ m. c ≤ m) later → n < c
    → queue ≡ n ∷ rest_of queue
queue_front [] [] n c e h l = absurd (cc)
queue_front [] (x ∷ later) n c e h l = let same : x ≡ n = cc in absurd (omega (arith, same, h.0, l))
queue_front (x ∷ queue) later n c e h l = let same : x ≡ n = cc in ap (λ y. y ∷ queue) same

-- of the jobs that a test tells, those that ran are the front of those that were enqueued
waits_front : (P : ℕ → Bool) (runs more queue later : List ℕ) (n c : ℕ) → P n ≡ true
    → IsFront (filter P (runs ++ n ∷ more)) ((filter P runs ++ queue) ++ later) → AllByRecursion (λ m. c ≤ m) later → n < c
    → queue ≡ n ∷ rest_of queue
waits_front P runs more queue later n c p h all l =
    let split : filter P (runs ++ n ∷ more) ≡ filter P runs ++ n ∷ filter P more =
    filter-append P runs (n ∷ more) ∙ ap (λ b. filter P runs ++ cond b (n ∷ filter P more) (filter P more)) p
    in let joined : (filter P runs ++ queue) ++ later ≡ filter P runs ++ (queue ++ later) = append_assoc (filter P runs) queue later
    in queue_front queue later n c
    (taken_front (filter P runs) (filter P more) (queue ++ later) n
    (subst (λ xs. IsFront xs (filter P runs ++ (queue ++ later))) split (subst (IsFront (filter P (runs ++ n ∷ more))) joined h))) all l

-- fewer ran before one more in the same cycle
filter_less : (P : ℕ → Bool) (xs ys : List ℕ) → length (filter P xs) ≤ length (filter P (xs ++ ys))
filter_less P xs ys = omega (arith, ap length (filter-append P xs ys), length-append (filter P xs) (filter P ys))

few_less : (N L : ℕ → Bool) (limit : ℕ) (now : List Entry) (e : Entry) → Few N L limit (now ++ e ∷ []) → Few N L limit now
few_less N L limit now e f =
    let more : ran (now ++ e ∷ []) ≡ ran now ++ ran (e ∷ []) = filter_map-append run_by now (e ∷ [])
    in (
      omega (arith, f.0, ap (λ xs. length (filter N xs)) more, filter_less N (ran now) (ran (e ∷ []))),
      omega (arith, f.1, ap (λ xs. length (filter L xs)) more, filter_less L (ran now) (ran (e ∷ []))),
    )

few_first : (N L : ℕ → Bool) (limit : ℕ) (now es : List Entry) → AllByRecursion (Few N L limit) (cycles_from now es) → Few N L limit now
few_first N L limit now [] h = h.0
few_first N L limit now (entry.Cycle ∷ es) h = h.0
few_first N L limit now (e ∷ es) h = few_less N L limit now e (few_first N L limit (now ++ e ∷ []) es h)

-- ---- no normal job waits where all ran, or as many ran as may
none_wait : (runs queue : List ℕ) → list_all (is_among runs) queue ≡ true → AllByRecursion (λ m. is_among runs m ≡ false) queue → queue ≡ []
none_wait runs [] h l = refl
none_wait runs (x ∷ queue) h l = absurd (true≢false (sym h ∙ ap (λ b. b && list_all (is_among runs) queue) l.0))

all_back : (p : ℕ → Bool) (xs ys : List ℕ) → list_all p (xs ++ ys) ≡ true → list_all p ys ≡ true
all_back p [] ys h = h
all_back p (x ∷ xs) ys h = by (p x) h (all_back p xs ys)
  where
    by : (b : Bool) → (b && list_all p (xs ++ ys)) ≡ true → (list_all p (xs ++ ys) ≡ true → list_all p ys ≡ true) → list_all p ys ≡ true
    by true g r = r g
    by false g r = absurd (true≢false (sym g))

none_before : (N L : ℕ → Bool) (limit : ℕ) (before now : List Entry) (w : Waiting) → Known N L limit before now w
    → Besides N L (enqueued before) (ran before) w → Yields limit true before → (w.normal ≡ []) ⊎ (limit ≤ w.normal_ran)
none_before N L limit before now w k b (inl all) =
    let whole : list_all (is_among (ran before)) (filter N (ran before) ++ w.normal) ≡ true =
    ap (list_all (is_among (ran before))) k.numbers.normal_is ∙ all
    in inl (none_wait (ran before) w.normal (all_back (is_among (ran before)) (filter N (ran before)) w.normal whole) b.normal_left)
none_before N L limit before now w k b (inr full) =
    let agree : AllByRecursion (λ m. is_among (normal before) m ≡ N m) (ran now) =
    all_by (λ m. m < w.next) (λ m. is_among (normal before) m ≡ N m) k.numbers.normal_agrees (ran now) k.numbers.now_below
    in let same : length (filter (is_among (normal before)) (ran now)) ≡ w.normal_ran =
    ap length (filter_same (is_among (normal before)) N (ran now) agree) ∙ k.numbers.normal_now
    in let there : length (filter (is_among (normal before)) (ran now)) ≡ limit =
    subst (λ es. length (filter (is_among (normal before)) (ran es)) ≡ limit) k.this full
    in inr (omega (arith, same, there))

-- ---- all entries
abbrev IsLed : ℕ → List Entry → Waiting → Type 0
IsLed limit es w = (v : Waiting) × Leads limit es w v

abbrev Back : (ℕ → Bool) → (ℕ → Bool) → ℕ → List Entry → Type 0
Back N L limit es =
    (before now : List Entry) (w : Waiting) → Known N L limit before now w → Besides N L (enqueued before) (ran before) w
    → Lawful N L limit before now es → IsLed limit es w

-- the laws of the entries behind one
rest_lawful : (N L : ℕ → Bool) (limit : ℕ) (before now next : List Entry) (e : Entry) (es : List Entry)
    → AllByRecursion (Few N L limit) (cycles_from next es) → Lawful N L limit before now (e ∷ es) → Lawful N L limit (before ++ e ∷ []) next es
rest_lawful N L limit before now next e es within r =
    let joined : (before ++ e ∷ []) ++ es ≡ before ++ e ∷ es = append_assoc before (e ∷ []) es
    in record {
      numbered = r.numbered.1;
      yields = r.yields.1;
      within = within;
      normals = subst (λ (all : List Entry). IsFront (filter N (ran all)) (normal all)) (sym joined) r.normals;
      lows = subst (λ (all : List Entry). IsFront (filter L (ran all)) (low all)) (sym joined) r.lows;
    }

-- it was enqueued, so its number is less than the next
was_below : (all : List ℕ) (n next : ℕ) → is_among all n ≡ true → AllByRecursion (λ m. m < next) all → n < next
was_below [] n next h b = absurd (true≢false (sym h))
was_below (x ∷ all) n next h b = by (x == n) refl (λ g. was_below all n next g b.1)
  where
    by : (c : Bool) → (x == n) ≡ c → (is_among all n ≡ true → n < next) → n < next
    by true e g = let same : x ≡ n = eqb-true x n e in omega (arith, same, b.0)
    by false e g = g (sym (ap (λ c. c || is_among all n) e) ∙ h)

runs_normal : (N L : ℕ → Bool) (limit n : ℕ) (es before now : List Entry) (w : Waiting) → Known N L limit before now w
    → n < w.next → N n ≡ true → Lawful N L limit before now (entry.Job n ∷ es)
    → RunsNormal limit n w (record w { normal = rest_of w.normal; normal_ran = w.normal_ran + 1 })
runs_normal N L limit n es before now w k l is_n r =
    let jobs : ran (before ++ entry.Job n ∷ es) ≡ ran before ++ n ∷ ran es = filter_map-append run_by before (entry.Job n ∷ es)
    in let told : normal (before ++ entry.Job n ∷ es) ≡ normal before ++ normal es = filter_map-append normal_by before (entry.Job n ∷ es)
    in let fore : IsFront (filter N (ran before ++ n ∷ ran es)) ((filter N (ran before) ++ w.normal) ++ normal es) =
    subst (λ xs. IsFront (filter N (ran before ++ n ∷ ran es)) (xs ++ normal es)) (sym k.numbers.normal_is)
    (subst (λ xs. IsFront (filter N xs) (normal before ++ normal es)) jobs (subst (IsFront (filter N (ran (before ++ entry.Job n ∷ es)))) told r.normals))
    in let behind : Later (length (enqueued before)) (entry.Job n ∷ es) = later before (entry.Job n ∷ es) r.numbered
    in let few : Few N L limit (now ++ entry.Job n ∷ []) = few_first N L limit (now ++ entry.Job n ∷ []) es r.within
    in let one : filter N (ran (now ++ entry.Job n ∷ [])) ≡ filter N (ran now) ++ n ∷ [] =
    ap (filter N) (some_more run_by now (entry.Job n) n refl) ∙ filter-append N (ran now) (n ∷ [])
    ∙ ap (λ b. filter N (ran now) ++ cond b (n ∷ []) []) is_n
    in record {
      front = waits_front N (ran before) (ran es) w.normal (normal es) n (length (enqueued before)) is_n fore behind.normals
          (omega (arith, l, k.numbers.count));
      under = omega (arith, few.0, ap length one, length-append (filter N (ran now)) (n ∷ []), k.numbers.normal_now);
      then = refl;
    }

runs_low : (N L : ℕ → Bool) (limit n : ℕ) (es before now : List Entry) (w : Waiting) → Known N L limit before now w
    → Besides N L (enqueued before) (ran before) w → n < w.next → L n ≡ true → Lawful N L limit before now (entry.Job n ∷ es)
    → RunsLow limit n w (record w { low = rest_of w.low; low_ran = w.low_ran + 1 })
runs_low N L limit n es before now w k b l is_l r =
    let jobs : ran (before ++ entry.Job n ∷ es) ≡ ran before ++ n ∷ ran es = filter_map-append run_by before (entry.Job n ∷ es)
    in let told : low (before ++ entry.Job n ∷ es) ≡ low before ++ low es = filter_map-append low_by before (entry.Job n ∷ es)
    in let fore : IsFront (filter L (ran before ++ n ∷ ran es)) ((filter L (ran before) ++ w.low) ++ low es) =
    subst (λ xs. IsFront (filter L (ran before ++ n ∷ ran es)) (xs ++ low es)) (sym k.numbers.low_is)
    (subst (λ xs. IsFront (filter L xs) (low before ++ low es)) jobs (subst (IsFront (filter L (ran (before ++ entry.Job n ∷ es)))) told r.lows))
    in let behind : Later (length (enqueued before)) (entry.Job n ∷ es) = later before (entry.Job n ∷ es) r.numbered
    in let few : Few N L limit (now ++ entry.Job n ∷ []) = few_first N L limit (now ++ entry.Job n ∷ []) es r.within
    in let one : filter L (ran (now ++ entry.Job n ∷ [])) ≡ filter L (ran now) ++ n ∷ [] =
    ap (filter L) (some_more run_by now (entry.Job n) n refl) ∙ filter-append L (ran now) (n ∷ [])
    ∙ ap (λ c. filter L (ran now) ++ cond c (n ∷ []) []) is_l
    in record {
      front = waits_front L (ran before) (ran es) w.low (low es) n (length (enqueued before)) is_l fore behind.lows
          (omega (arith, l, k.numbers.count));
      under = omega (arith, few.1, ap length one, length-append (filter L (ran now)) (n ∷ []), k.numbers.low_now);
      none_before = none_before N L limit before now w k b
          (subst (λ c. Yields limit c before) (k.numbers.low_agrees n l ∙ is_l) r.yields.0);
      then = refl;
    }

-- what is known behind a job that runs
besides_job : (N L : ℕ → Bool) (before : List Entry) (n : ℕ) (u : Waiting) → Besides N L (enqueued before) (ran before ++ n ∷ []) u
    → Besides N L (enqueued (before ++ entry.Job n ∷ [])) (ran (before ++ entry.Job n ∷ [])) u
besides_job N L before n u b =
    subst (λ xs. Besides N L xs (ran (before ++ entry.Job n ∷ [])) u) (sym (none_more enqueued_by before (entry.Job n) refl))
    (subst (λ xs. Besides N L (enqueued before) xs u) (sym (some_more run_by before (entry.Job n) n refl)) b)

run_back : (N L : ℕ → Bool) (limit n : ℕ) (es : List Entry) → Back N L limit es → (before now : List Entry) (w : Waiting)
    → Known N L limit before now w → Besides N L (enqueued before) (ran before) w → Lawful N L limit before now (entry.Job n ∷ es)
    → n < w.next → ((N n ≡ true) × (L n ≡ false)) ⊎ ((L n ≡ true) × (N n ≡ false)) → IsLed limit (entry.Job n ∷ es) w
run_back N L limit n es back before now w k b r l (inl is_n) =
    let u : Waiting = record w { normal = rest_of w.normal; normal_ran = w.normal_ran + 1 }
    in let runs : RunsNormal limit n w u = runs_normal N L limit n es before now w k l is_n.0 r
    in let all : List ℕ = enqueued before
    in let rest : IsLed limit es u =
    back (before ++ entry.Job n ∷ []) (now ++ entry.Job n ∷ []) u
    (run_known N L limit before now n w u k (run_normal N L limit all (normal before) (low before) (ran before) (ran now) w u n runs k.numbers))
    (besides_job N L before n u (run_besides N L limit all (normal before) (low before) (ran before) (ran now) w u n runs k.numbers b))
    (rest_lawful N L limit before now (now ++ entry.Job n ∷ []) (entry.Job n) es r.within r)
    in (rest.0, (u, inl runs, rest.1))
run_back N L limit n es back before now w k b r l (inr is_l) =
    let u : Waiting = record w { low = rest_of w.low; low_ran = w.low_ran + 1 }
    in let runs : RunsLow limit n w u = runs_low N L limit n es before now w k b l is_l.0 r
    in let all : List ℕ = enqueued before
    in let rest : IsLed limit es u =
    back (before ++ entry.Job n ∷ []) (now ++ entry.Job n ∷ []) u
    (run_known N L limit before now n w u k (run_low N L limit all (normal before) (low before) (ran before) (ran now) w u n runs k.numbers))
    (besides_job N L before n u (run_low_besides N L limit all (normal before) (low before) (ran before) (ran now) w u n runs k.numbers b))
    (rest_lawful N L limit before now (now ++ entry.Job n ∷ []) (entry.Job n) es r.within r)
    in (rest.0, (u, inr runs, rest.1))

enqueued_besides : (N L : ℕ → Bool) (before : List Entry) (n : ℕ) (b : Bool) (u : Waiting) → Besides N L (enqueued before ++ n ∷ []) (ran before) u
    → Besides N L (enqueued (before ++ entry.Enq n b ∷ [])) (ran (before ++ entry.Enq n b ∷ [])) u
enqueued_besides N L before n b u h =
    subst (λ xs. Besides N L xs (ran (before ++ entry.Enq n b ∷ [])) u) (sym (some_more enqueued_by before (entry.Enq n b) n refl))
    (subst (λ xs. Besides N L (enqueued before ++ n ∷ []) xs u) (sym (none_more run_by before (entry.Enq n b) refl)) h)

enqueue_back : (N L : ℕ → Bool) (limit : ℕ) (is_low : Bool) (es : List Entry) → Back N L limit es → (before now : List Entry) (w : Waiting)
    → IsTold N L (entry.Enq w.next is_low) → Known N L limit before now w → Besides N L (enqueued before) (ran before) w
    → Lawful N L limit before now (entry.Enq w.next is_low ∷ es) → IsLed limit (entry.Enq w.next is_low ∷ es) w
enqueue_back N L limit false es back before now w told k b r =
    let e : Entry = entry.Enq w.next false
    in let u : Waiting = with_waiting false w.next w
    in let rest : IsLed limit es u =
    back (before ++ e ∷ []) (now ++ e ∷ []) u (enqueue_known N L limit before now false w told k)
    (enqueued_besides N L before w.next false u
    (enqueue_besides N L limit (enqueued before) (normal before) (low before) (ran before) (ran now) w told.0 told.1 k.numbers b))
    (rest_lawful N L limit before now (now ++ e ∷ []) e es r.within r)
    in (rest.0, (u, (refl, refl), rest.1))
enqueue_back N L limit true es back before now w told k b r =
    let e : Entry = entry.Enq w.next true
    in let u : Waiting = with_waiting true w.next w
    in let rest : IsLed limit es u =
    back (before ++ e ∷ []) (now ++ e ∷ []) u (enqueue_known N L limit before now true w told k)
    (enqueued_besides N L before w.next true u
    (enqueue_low_besides N L limit (enqueued before) (normal before) (low before) (ran before) (ran now) w told.0 told.1 k.numbers b))
    (rest_lawful N L limit before now (now ++ e ∷ []) e es r.within r)
    in (rest.0, (u, (refl, refl), rest.1))

-- an entry that enqueues nothing and runs nothing
same_besides : (N L : ℕ → Bool) (before : List Entry) (e : Entry) (w : Waiting) → enqueued_by e ≡ None → run_by e ≡ None
    → Besides N L (enqueued before) (ran before) w → Besides N L (enqueued (before ++ e ∷ [])) (ran (before ++ e ∷ [])) w
same_besides N L before e w enq run b =
    subst (λ xs. Besides N L xs (ran (before ++ e ∷ [])) w) (sym (none_more enqueued_by before e enq))
    (subst (λ xs. Besides N L (enqueued before) xs w) (sym (none_more run_by before e run)) b)

cycle_back : (N L : ℕ → Bool) (limit : ℕ) (es : List Entry) → Back N L limit es → (before now : List Entry) (w : Waiting)
    → Known N L limit before now w → Besides N L (enqueued before) (ran before) w → Lawful N L limit before now (entry.Cycle ∷ es)
    → IsLed limit (entry.Cycle ∷ es) w
cycle_back N L limit es back before now w k b r =
    let u : Waiting = new_cycle w
    in let again : Besides N L (enqueued before) (ran before) u = record {
      below = b.below;
      either = b.either;
      normal_left = b.normal_left;
      low_left = b.low_left;
      normal_rises = b.normal_rises;
      low_rises = b.low_rises;
    }
    in let rest : IsLed limit es u =
    back (before ++ entry.Cycle ∷ []) [] u (cycle_known N L limit before now w k) (same_besides N L before entry.Cycle u refl refl again)
    (rest_lawful N L limit before now [] entry.Cycle es r.within.1 r)
    in (rest.0, (u, refl, rest.1))

plain_back : (N L : ℕ → Bool) (limit : ℕ) (e : Entry) (es : List Entry) → Plain e → Back N L limit es → (before now : List Entry) (w : Waiting)
    → Known N L limit before now w → Besides N L (enqueued before) (ran before) w → Lawful N L limit before now (e ∷ es)
    → ((v : Waiting) → Leads limit es w v → Leads limit (e ∷ es) w v) → IsLed limit (e ∷ es) w
plain_back N L limit e es p back before now w k b r on =
    let rest : IsLed limit es w =
    back (before ++ e ∷ []) (now ++ e ∷ []) w (plain_known N L limit before now e w p k) (same_besides N L before e w p.0 p.3 b)
    (rest_lawful N L limit before now (now ++ e ∷ []) e es (subst (AllByRecursion (Few N L limit)) (p.7 now es) r.within) r)
    in (rest.0, on rest.0 rest.1)

back_one : (N L : ℕ → Bool) (limit : ℕ) (e : Entry) (es : List Entry) → Role e → IsTold N L e → Back N L limit es → Back N L limit (e ∷ es)
back_one N L limit e es (is_plain p) told back before now w k b r =
    plain_back N L limit e es p back before now w k b r (λ v l. (w, p.10 limit w, l))
back_one N L limit e es (is_enqueue n is_low eq) told back before now w k b r =
    let r' : Lawful N L limit before now (entry.Enq n is_low ∷ es) = subst (λ x. Lawful N L limit before now (x ∷ es)) eq r
    in let first : n ≡ w.next = r'.numbered.0 ∙ k.numbers.count
    in subst (λ x. IsLed limit (x ∷ es) w) (sym (eq ∙ ap (λ m. entry.Enq m is_low) first))
    (enqueue_back N L limit is_low es back before now w (subst (IsTold N L) (eq ∙ ap (λ m. entry.Enq m is_low) first) told) k b
    (subst (λ x. Lawful N L limit before now (x ∷ es)) (eq ∙ ap (λ m. entry.Enq m is_low) first) r))
back_one N L limit e es (is_run n eq) told back before now w k b r =
    let r' : Lawful N L limit before now (entry.Job n ∷ es) = subst (λ x. Lawful N L limit before now (x ∷ es)) eq r
    in let l : n < w.next = was_below (enqueued before) n w.next r'.numbered.0 b.below
    in subst (λ x. IsLed limit (x ∷ es) w) (sym eq) (run_back N L limit n es back before now w k b r' l (b.either n l))
back_one N L limit e es (is_new eq) told back before now w k b r =
    subst (λ x. IsLed limit (x ∷ es) w) (sym eq)
    (cycle_back N L limit es back before now w k b (subst (λ x. Lawful N L limit before now (x ∷ es)) eq r))

back_all : (N L : ℕ → Bool) (limit : ℕ) (es : List Entry) → AllByRecursion (IsTold N L) es → Back N L limit es
back_all N L limit [] told = λ before now w k b r. (w, refl)
back_all N L limit (e ∷ es) told = back_one N L limit e es (role e) told.0 (back_all N L limit es told.1)

-- both laws together give the order
pub obeys_in_order : (limit : ℕ) (trace : List Entry) → JobsInOrder trace → CyclesAreLimited limit trace → IsInOrder limit trace
obeys_in_order limit trace jobs cycles =
    let N : ℕ → Bool = is_among (normal trace)
    in let L : ℕ → Bool = is_among (low trace)
    in back_all N L limit trace (told N L [] trace jobs.numbered (λ m l. (refl, refl))) [] [] nothing_waits (nothing_known N L limit)
    (record {
      below = tt;
      either = λ m l. absurd (omega (arith, l));
      normal_left = tt;
      low_left = tt;
      normal_rises = tt;
      low_rises = tt;
    })
    (record {
      numbered = jobs.numbered;
      yields = cycles.low_last;
      within = all_by (IsWithin limit trace) (Few N L limit) (λ c few. (few.normal_jobs, few.low_jobs)) (cycles_from [] trace) cycles.within;
      normals = jobs.normal_in_order;
      lows = jobs.low_in_order;
    })
