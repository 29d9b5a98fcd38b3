-- What a drain brings leaves a state in step: each work that arrives was out, and is out no longer.
use Rattle.std.proofs.Common.{◌≡◌, ℕ, ℤ, zero, suc, ◌<◌, ◌≤◌, ◌||◌, ◌&&◌, List, [], ◌∷◌, ◌++◌, length, map, filter, get_or, Bool, true, false, cond, Option, Some, None, refl, sym, subst, ap, ◌∙◌, arith, append-nil, fold}
use Rattle.std.specs.Prelude.{not, ◌==◌, find, IsSome, Contains}
use Rattle.std.specs.List.{AllByRecursion, list_any, filter_map, flat_map}
use Rattle.std.proofs.lemmas.Bool.{eqb-true, eq-eqb, true≢false}
use Rattle.std.proofs.lemmas.List.{length-map}
use Rattle.std.proofs.lemmas.Grind.{flat_map-append}
use Rattle.std.proofs.lemmas.List.Folds.{list_any-append}
use Rattle.std.proofs.lemmas.List.Sums.{fold-append}
use Rattle.ak_base.proofs.Lists.{all_append}
use Rattle.ak_labor.specs.declared.work.Outcome.{Outcome}
use Rattle.ak_labor.specs.declared.ask.Ask.{Ask}
use Rattle.ak_labor.specs.declared.ask.Ask.TheVariants as ask
use Rattle.ak_labor.specs.Arrived.{Arrived}
use Rattle.ak_labor.specs.Calls.{Reply, Drained}
use Rattle.ak_labor.specs.Waits.{Handed, handed_by, pairs_in, is_pair_of, is_out, outstanding, is_other, Arrive, helper_in, answered_by, left_by, came}
use Rattle.ak_cells.specs.declared.registration.Registration.{Registration}
use Rattle.ak_cells.specs.Cells.{waiting_on, filled}
use Rattle.ak_cells.specs.Names.{renamed}
use Rattle.ak_frames.specs.declared.frame.Frame.{Frame}
use Rattle.ak_trace.specs.declared.entry.Entry.TheVariants as entry
use Rattle.ak_machine.specs.declared.flow.Flow.{Flow}
use Rattle.ak_machine.specs.declared.flow.Flow.TheVariants as flow
use Rattle.ak_machine.specs.declared.held.Outstanding.{Outstanding}
use Rattle.ak_machine.specs.State.{State}
use Rattle.ak_machine.specs.Deferred.{noting, woken_by}
use Rattle.ak_machine.specs.Errors.{After}
use Rattle.ak_machine.specs.Mapped.{requested_mapped}
use Rattle.ak_machine.specs.Cycle.{is_work, is_other_work, outcome_given, arrival_of, arrive, arrive_all, with_left}
use Rattle.ak_ledger.specs.Outside.{work_kept, work_handed, request_kept, has_number, has_other_number, AreOut, Outside, outside_of, IsSaid, IsInStep}
use Rattle.ak_ledger.proofs.Still.{Still, AfterHas}
use Rattle.ak_ledger.proofs.Lines.{outcome_keeps}
use Rattle.ak_ledger.proofs.Calls.{none_more, none_longer, active_next, unanswered_same, came_same}
use Rattle.ak_ledger.proofs.InStep.{outside_by, works_renamed, requests_renamed}

-- ---- works by their numbers
others_handed : (n : ℕ) (handed : List Handed) → map work_handed (filter (is_other n) handed) ≡ filter (has_other_number n) (map work_handed handed)
others_handed n [] = refl
others_handed n (h ∷ handed) = by (not (h.id == n)) (others_handed n handed)
  where
    by : (b : Bool) → map work_handed (filter (is_other n) handed) ≡ filter (has_other_number n) (map work_handed handed)
        → map work_handed (cond b (h ∷ filter (is_other n) handed) (filter (is_other n) handed))
        ≡ cond b (work_handed h ∷ filter (has_other_number n) (map work_handed handed)) (filter (has_other_number n) (map work_handed handed))
    by true e = ap (λ l. work_handed h ∷ l) e
    by false e = e

others_kept : (n : ℕ) (works : List Outstanding) → map work_kept (filter (is_other_work n) works) ≡ filter (has_other_number n) (map work_kept works)
others_kept n [] = refl
others_kept n (work ∷ works) = by (not (work.number == n)) (others_kept n works)
  where
    by : (b : Bool) → map work_kept (filter (is_other_work n) works) ≡ filter (has_other_number n) (map work_kept works)
        → map work_kept (cond b (work ∷ filter (is_other_work n) works) (filter (is_other_work n) works))
        ≡ cond b (work_kept work ∷ filter (has_other_number n) (map work_kept works)) (filter (has_other_number n) (map work_kept works))
    by true e = ap (λ l. work_kept work ∷ l) e
    by false e = e

or_true : (b : Bool) → (b || true) ≡ true
or_true true = refl
or_true false = refl

contained_by : (handed : List Handed) (x : Handed) (k : ℕ) → k < length handed → get_or handed k x ≡ x
    → list_any (has_number x.id) (map work_handed handed) ≡ true
contained_by [] x k l e = absurd (omega (arith, l))
contained_by (h ∷ handed) x zero l e =
    ap (λ b. b || list_any (has_number x.id) (map work_handed handed)) (eq-eqb h.id x.id (ap (λ (y : Handed). y.id) e))
contained_by (h ∷ handed) x (suc k) l e =
    ap (λ b. (h.id == x.id) || b) (contained_by handed x k (omega (arith, l)) e) ∙ or_true (h.id == x.id)

contained : (handed : List Handed) (x : Handed) → Contains handed x → list_any (has_number x.id) (map work_handed handed) ≡ true
contained handed x c = contained_by handed x c.0 c.1 c.2

-- what may come for these works is out
pub may_arrive : (handed : List Handed) (pairs : List (ℕ × Outcome)) → Arrive handed pairs → AreOut (map work_handed handed) pairs
may_arrive handed [] a = tt
may_arrive handed (pair ∷ pairs) a = (
  contained handed (record { id = pair.0; work = a.0.0; helper = a.0.1 }) a.0.2,
  subst (λ ws. AreOut ws pairs) (others_handed pair.0 handed) (may_arrive (filter (is_other pair.0) handed) pairs a.1),
)

-- a work that is out is found
pub is_found : (w : ℕ) (works : List Outstanding) → list_any (has_number w) (map work_kept works) ≡ true → IsSome (find (is_work w) works)
is_found w [] e = absurd (cc)
is_found w (work ∷ works) e = by (work.number == w) e (is_found w works)
  where
    by : (b : Bool) → (b || list_any (has_number w) (map work_kept works)) ≡ true
        → (list_any (has_number w) (map work_kept works) ≡ true → IsSome (find (is_work w) works)) → IsSome (cond b (Some work) (find (is_work w) works))
    by true h r = refl
    by false h r = r h

-- ---- one work arrives
module _ (o : Outside) where
  woken_outside : (v : ℤ) (gs : List (Registration Frame)) (s : State) → outside_of s ≡ o → outside_of (fold (woken_by v) s gs) ≡ o
  woken_outside v [] s h = h
  woken_outside v (g ∷ gs) s h = woken_outside v gs (woken_by v s g) h

  pub outside_still : Still (λ (s : State). outside_of s ≡ o)
  outside_still = record {
    note = λ e s q h. h;
    enq = λ ctx task s n h. h;
    wait = λ i ctx frame s n h. h;
    forget = λ notes s h. h;
    fill = λ i v s h. woken_outside v (waiting_on i s.cells) (noting (entry.Fill i v) (record s { cells = filled i v s.cells })) h;
    join = λ result right s e h.
        let f : ℕ → ℕ = renamed right result
        in ap (λ ws. record (outside_of s) { works = ws; requests = map request_kept (map (requested_mapped f) s.requests) }) (works_renamed f s.works)
        ∙ ap (λ rs. record (outside_of s) { requests = rs }) (requests_renamed f s.requests) ∙ h;
    change = λ s u e t h. ap outside_by e ∙ h;
  }

  outcome_outside : (outcome : Outcome) (work : Outstanding) (s : State) → outside_of s ≡ o → (outcome_given outcome work s).flow ≡ flow.On
      → outside_of (outcome_given outcome work s).state ≡ o
  outcome_outside outcome work s h e =
      subst (λ (f : Flow). AfterHas (λ (t : State). outside_of t ≡ o) f (outcome_given outcome work s).state) e
      (outcome_keeps (λ (t : State). outside_of t ≡ o) (λ (a : Ask) (t : State). Unit {0}) outside_still outcome work s h)

-- the works that are left
abbrev one_less : ℕ → Outside → Outside
one_less w o = record o { works = filter (has_other_number w) o.works }

arrived_by : (found : Option Outstanding) (w : ℕ) (outcome : Outcome) (s : State) (after : After)
    → arrival_of found w outcome s ≡ Some after → after.flow ≡ flow.On → outside_of after.state ≡ one_less w (outside_of s)
arrived_by None w outcome s after e f = absurd (cc)
arrived_by (Some work) w outcome s after e f =
    let t : State = noting (entry.Arrive w outcome) (record s { works = filter (is_other_work w) s.works })
    in let same : outcome_given outcome work t ≡ after = cc
    in subst (λ (a : After). outside_of a.state ≡ one_less w (outside_of s)) same
    (outcome_outside (one_less w (outside_of s)) outcome work t
    (ap (λ ws. record (outside_of s) { works = ws }) (others_kept w s.works)) (ap (λ (a : After). a.flow) same ∙ f))

pub arrived_outside : (w : ℕ) (outcome : Outcome) (s : State) (after : After) → arrive w outcome s ≡ Some after → after.flow ≡ flow.On
    → outside_of after.state ≡ one_less w (outside_of s)
arrived_outside w outcome s after e f = arrived_by (find (is_work w) s.works) w outcome s after e f

-- ---- all of a drain
abbrev pub left_out : List (ℕ × Outcome) → List (ℕ × Option ℕ) → List (ℕ × Option ℕ)
left_out [] works = works
left_out (pair ∷ pairs) works = left_out pairs (filter (has_other_number pair.0) works)

abbrev pub without_all : List (ℕ × Outcome) → Outside → Outside
without_all pairs o = record o { works = left_out pairs o.works }

some_is : (a b : After) → Some a ≡ Some b → a ≡ b
some_is a b e = cc

pub all_arrived : (pairs : List (ℕ × Outcome)) (s : State) (after : After) → arrive_all pairs s ≡ Some after → after.flow ≡ flow.On
    → outside_of after.state ≡ without_all pairs (outside_of s)
all_arrived [] s after e f = ap (λ (a : After). outside_of a.state) (sym (some_is (record { state = s; flow = flow.On }) after e))
all_arrived (pair ∷ pairs) s after e f =
    by (arrive pair.0 pair.1 s) refl e (λ t g. all_arrived pairs t after g f)
  where
    on : (a : After) → arrive pair.0 pair.1 s ≡ Some a → (g : Flow) → a.flow ≡ g → (elim g [
      | flow.On ↦ arrive_all pairs a.state
      | flow.Stopped ↦ Some a
      | flow.Unhandled z ↦ Some a
    ]) ≡ Some after → ((t : State) → arrive_all pairs t ≡ Some after → outside_of after.state ≡ without_all pairs (outside_of t))
        → outside_of after.state ≡ without_all (pair ∷ pairs) (outside_of s)
    on a h flow.On g k r = r a.state k ∙ ap (without_all pairs) (arrived_outside pair.0 pair.1 s a h g)
    on a h flow.Stopped g k r =
        let same : a ≡ after = some_is a after k
        in let stopped : flow.Stopped ≡ flow.On = sym g ∙ ap (λ (x : After). x.flow) same ∙ f
        in absurd (cc)
    on a h (flow.Unhandled z) g k r =
        let same : a ≡ after = some_is a after k
        in let unhandled : flow.Unhandled z ≡ flow.On = sym g ∙ ap (λ (x : After). x.flow) same ∙ f
        in absurd (cc)

    by : (o : Option After) → arrive pair.0 pair.1 s ≡ o → (elim o [
      | None ↦ None
      | Some a ↦ elim a.flow [
        | flow.On ↦ arrive_all pairs a.state
        | flow.Stopped ↦ Some a
        | flow.Unhandled z ↦ Some a
      ]
    ]) ≡ Some after → ((t : State) → arrive_all pairs t ≡ Some after → outside_of after.state ≡ without_all pairs (outside_of t))
        → outside_of after.state ≡ without_all (pair ∷ pairs) (outside_of s)
    by None h k r = absurd (cc)
    by (Some a) h k r = on a h a.flow refl k r

-- ---- the calls and the replies say the same
filter_all : {A : Type 0} (p : A → Bool) → ((x : A) → p x ≡ true) → (xs : List A) → filter p xs ≡ xs
filter_all p h [] = refl
filter_all p h (x ∷ xs) = ap (λ b. cond b (x ∷ filter p xs) (filter p xs)) (h x) ∙ ap (λ l. x ∷ l) (filter_all p h xs)

-- what passes one test and then another
filter_twice : {A : Type 0} (p q r : A → Bool) → ((x : A) → r x ≡ (q x && p x)) → (xs : List A) → filter p (filter q xs) ≡ filter r xs
filter_twice p q r h [] = refl
filter_twice {A} p q r h (x ∷ xs) = by (q x) (p x) (r x) (h x) refl (filter_twice p q r h xs)
  where
    by : (a b c : Bool) → c ≡ (a && b) → p x ≡ b → filter p (filter q xs) ≡ filter r xs
        → filter p (cond a (x ∷ filter q xs) (filter q xs)) ≡ cond c (x ∷ filter r xs) (filter r xs)
    by true true c e g i =
        ap (λ b. cond b (x ∷ filter p (filter q xs)) (filter p (filter q xs))) g ∙ ap (λ l. x ∷ l) i ∙ ap (λ b. cond b (x ∷ filter r xs) (filter r xs)) (sym e)
    by true false c e g i =
        ap (λ b. cond b (x ∷ filter p (filter q xs)) (filter p (filter q xs))) g ∙ i ∙ ap (λ b. cond b (x ∷ filter r xs) (filter r xs)) (sym e)
    by false b c e g i = i ∙ ap (λ b. cond b (x ∷ filter r xs) (filter r xs)) (sym e)

abbrev is_left : List (ℕ × Outcome) → Handed → Bool
is_left pairs h = not (list_any (is_pair_of h.id) pairs)

eq_turned : (m n : ℕ) → (m == n) ≡ (n == m)
eq_turned m n = by (m == n) refl
  where
    other : (b : Bool) → (n == m) ≡ b → (m == n) ≡ false → false ≡ b
    other true e f = absurd (true≢false (sym (eq-eqb m n (sym (eqb-true n m e))) ∙ f))
    other false e f = refl

    by : (b : Bool) → (m == n) ≡ b → b ≡ (n == m)
    by true e = sym (eq-eqb n m (sym (eqb-true m n e)))
    by false e = other (n == m) refl e

not_or : (a b : Bool) → not (a || b) ≡ (not a && not b)
not_or true b = refl
not_or false b = refl

pub left_out_is : (pairs : List (ℕ × Outcome)) (handed : List Handed) → left_out pairs (map work_handed handed) ≡ map work_handed (filter (is_left pairs) handed)
left_out_is [] handed = ap (map work_handed) (sym (filter_all (is_left []) (λ h. refl) handed))
left_out_is (pair ∷ pairs) handed =
    ap (left_out pairs) (sym (others_handed pair.0 handed))
    ∙ left_out_is pairs (filter (is_other pair.0) handed)
    ∙ ap (map work_handed)
    (filter_twice (is_left pairs) (is_other pair.0) (is_left (pair ∷ pairs))
    (λ h. not_or (pair.0 == h.id) (list_any (is_pair_of h.id) pairs) ∙ ap (λ b. not b && is_left pairs h) (eq_turned pair.0 h.id)) handed)

pub drained_out : (asked : List Ask) (replies : List Reply) (arrived : Arrived)
    → outstanding (asked ++ ask.Drain ∷ []) (replies ++ Drained arrived ∷ []) ≡ filter (is_left arrived.works) (outstanding asked replies)
drained_out asked replies arrived =
    ap (filter (is_out (replies ++ Drained arrived ∷ []))) (none_more handed_by asked ask.Drain refl)
    ∙ sym (filter_twice (is_left arrived.works) (is_out replies) (is_out (replies ++ Drained arrived ∷ [])) out_by (filter_map handed_by asked))
  where
    pairs : flat_map pairs_in (replies ++ Drained arrived ∷ []) ≡ flat_map pairs_in replies ++ arrived.works
    pairs = flat_map-append pairs_in replies (Drained arrived ∷ []) ∙ ap (λ l. flat_map pairs_in replies ++ l) (append-nil arrived.works)

    out_by : (h : Handed) → is_out (replies ++ Drained arrived ∷ []) h ≡ (is_out replies h && is_left arrived.works h)
    out_by h =
        ap (λ l. not (list_any (is_pair_of h.id) l)) pairs
        ∙ ap not (list_any-append (is_pair_of h.id) (flat_map pairs_in replies) arrived.works)
        ∙ not_or (list_any (is_pair_of h.id) (flat_map pairs_in replies)) (list_any (is_pair_of h.id) arrived.works)

-- ---- numbers below the next
some_below : (w n : ℕ) (works : List (ℕ × Option ℕ)) → list_any (has_number w) works ≡ true → AllByRecursion (λ (x : ℕ × Option ℕ). x.0 < n) works → w < n
some_below w n [] e h = absurd (cc)
some_below w n (x ∷ works) e h = by (x.0 == w) refl e (λ g. some_below w n works g h.1)
  where
    by : (b : Bool) → (x.0 == w) ≡ b → (b || list_any (has_number w) works) ≡ true → (list_any (has_number w) works ≡ true → w < n) → w < n
    by true f g r = let same : x.0 ≡ w = eqb-true x.0 w f in omega (arith, same, h.0)
    by false f g r = r g

fewer_below : (n w : ℕ) (works : List (ℕ × Option ℕ)) → AllByRecursion (λ (x : ℕ × Option ℕ). x.0 < n) works
    → AllByRecursion (λ (x : ℕ × Option ℕ). x.0 < n) (filter (has_other_number w) works)
fewer_below n w [] h = tt
fewer_below n w (x ∷ works) h = by (has_other_number w x) (fewer_below n w works h.1)
  where
    by : (b : Bool) → AllByRecursion (λ (y : ℕ × Option ℕ). y.0 < n) (filter (has_other_number w) works)
        → AllByRecursion (λ (y : ℕ × Option ℕ). y.0 < n) (cond b (x ∷ filter (has_other_number w) works) (filter (has_other_number w) works))
    by true k = (h.0, k)
    by false k = k

pub left_below : (n : ℕ) (pairs : List (ℕ × Outcome)) (works : List (ℕ × Option ℕ)) → AllByRecursion (λ (x : ℕ × Option ℕ). x.0 < n) works
    → AllByRecursion (λ (x : ℕ × Option ℕ). x.0 < n) (left_out pairs works)
left_below n [] works h = h
left_below n (pair ∷ pairs) works h = left_below n pairs (filter (has_other_number pair.0) works) (fewer_below n pair.0 works h)

pub pairs_below : (n : ℕ) (pairs : List (ℕ × Outcome)) (works : List (ℕ × Option ℕ)) → AreOut works pairs → AllByRecursion (λ (x : ℕ × Option ℕ). x.0 < n) works
    → AllByRecursion (λ (pair : ℕ × Outcome). pair.0 < n) pairs
pairs_below n [] works a h = tt
pairs_below n (pair ∷ pairs) works a h = (
  some_below pair.0 n works a.0 h,
  pairs_below n pairs (filter (has_other_number pair.0) works) a.1 (fewer_below n pair.0 works h),
)

-- ---- the state behind a drain without requests
pub drained_in_step : (askers : ℕ) (asked : List Ask) (replies : List Reply) (s : State) (after : After) (arrived : Arrived)
    → length replies ≡ length asked → IsInStep askers asked replies s → AreOut (map work_kept s.works) arrived.works → arrived.requests ≡ []
    → arrive_all arrived.works s ≡ Some after → after.flow ≡ flow.On
    → IsInStep askers (asked ++ ask.Drain ∷ []) (replies ++ Drained arrived ∷ []) (with_left arrived.left after.state)
drained_in_step askers asked replies s after arrived even p out none e f =
    let o : Outside = outside_of s
    in let a : Ask = ask.Drain
    in let r : Reply = Drained arrived
    in let is : outside_of (with_left arrived.left after.state) ≡ record (without_all arrived.works o) { left = arrived.left } =
    ap (λ (x : Outside). record x { left = arrived.left }) (all_arrived arrived.works s after e f)
    in subst (IsSaid askers (asked ++ a ∷ []) (replies ++ r ∷ [])) (sym is)
    (record {
      works =
          ap (left_out arrived.works) p.works ∙ left_out_is arrived.works (outstanding asked replies)
          ∙ ap (map work_handed) (sym (drained_out asked replies arrived));
      next_work = p.next_work ∙ sym (none_longer handed_by asked a refl);
      below = left_below s.next_work arrived.works (map work_kept s.works) p.below;
      brought =
          subst (AllByRecursion (λ (pair : ℕ × Outcome). pair.0 < s.next_work))
          (sym (flat_map-append pairs_in replies (r ∷ []) ∙ ap (λ l. flat_map pairs_in replies ++ l) (append-nil arrived.works)))
          (all_append (λ (pair : ℕ × Outcome). pair.0 < s.next_work) (flat_map pairs_in replies) arrived.works p.brought
          (pairs_below s.next_work arrived.works (map work_kept s.works) out p.below));
      helpers = p.helpers ∙ sym (none_longer helper_in asked a refl);
      active = p.active ∙ sym (active_next asked replies a r even);
      requests = p.requests ∙ sym (ap length (came_same replies r none));
      unanswered = p.unanswered ∙ sym (ap (map (λ (x : ℕ × ℤ). x.0)) (unanswered_same asked replies a r refl none));
      answered = subst (AllByRecursion (λ q. q < length (map request_kept s.requests))) (sym (none_more answered_by asked a refl)) p.answered;
      left = sym (fold-append left_by askers replies (r ∷ []));
    })

-- nothing was answered where nothing was requested
pub none_answered : (askers : ℕ) (asked : List Ask) (replies : List Reply) (s : State) → IsInStep askers asked replies s → came replies ≡ []
    → filter_map answered_by asked ≡ []
none_answered askers asked replies s p e =
    by (filter_map answered_by asked) (p.requests ∙ ap length e) p.answered
  where
    by : (qs : List ℕ) → length (map request_kept s.requests) ≡ 0 → AllByRecursion (λ q. q < length (map request_kept s.requests)) qs → qs ≡ []
    by [] n h = refl
    by (q ∷ qs) n h = absurd (omega (arith, n, h.0))

-- fewer works are out, where any came
less_or_same : (w : ℕ) (works : List (ℕ × Option ℕ)) → length (filter (has_other_number w) works) ≤ length works
less_or_same w [] = omega arith
less_or_same w (x ∷ works) = by (has_other_number w x) (less_or_same w works)
  where
    by : (b : Bool) → length (filter (has_other_number w) works) ≤ length works
        → length (cond b (x ∷ filter (has_other_number w) works) (filter (has_other_number w) works)) ≤ length (x ∷ works)
    by true l = omega (arith, l)
    by false l = omega (arith, l)

one_fewer : (w : ℕ) (works : List (ℕ × Option ℕ)) → list_any (has_number w) works ≡ true → length (filter (has_other_number w) works) < length works
one_fewer w [] e = absurd (cc)
one_fewer w (x ∷ works) e = by (x.0 == w) e (one_fewer w works)
  where
    by : (b : Bool) → (b || list_any (has_number w) works) ≡ true
        → (list_any (has_number w) works ≡ true → length (filter (has_other_number w) works) < length works)
        → length (cond (not b) (x ∷ filter (has_other_number w) works) (filter (has_other_number w) works)) < length (x ∷ works)
    by true g r = let l = less_or_same w works in omega (arith, l)
    by false g r = let l = r g in omega (arith, l)

left_or_same : (pairs : List (ℕ × Outcome)) (works : List (ℕ × Option ℕ)) → length (left_out pairs works) ≤ length works
left_or_same [] works = omega arith
left_or_same (pair ∷ pairs) works =
    let rest = left_or_same pairs (filter (has_other_number pair.0) works)
    in let one = less_or_same pair.0 works
    in omega (arith, rest, one)

pub fewer_out : (pair : ℕ × Outcome) (pairs : List (ℕ × Outcome)) (s : State) (after : After) → AreOut (map work_kept s.works) (pair ∷ pairs)
    → arrive_all (pair ∷ pairs) s ≡ Some after → after.flow ≡ flow.On → length after.state.works < length s.works
fewer_out pair pairs s after out e f =
    let is : length (map work_kept after.state.works) ≡ length (left_out (pair ∷ pairs) (map work_kept s.works)) =
    ap (λ (o : Outside). length o.works) (all_arrived (pair ∷ pairs) s after e f)
    in let rest = left_or_same pairs (filter (has_other_number pair.0) (map work_kept s.works))
    in let one = one_fewer pair.0 (map work_kept s.works) out.0
    in omega (arith, is, rest, one, length-map after.state.works work_kept, length-map s.works work_kept)
