-- A drain of a run over a port, and the end of a cycle.
use Rattle.std.proofs.Common.{◌≡◌, ◌⊎◌, inl, inr, ℕ, zero, suc, ◌+◌, ◌*◌, ◌<◌, ◌≤◌, List, [], ◌∷◌, ◌++◌, length, map, drop, Bool, true, false, not, cond, refl, ap, sym, subst, ◌∙◌, arith, Option, Some, None}
use Rattle.std.specs.Prelude.{ℤ, ◌-◌, IsSome, find, count_by}
use Rattle.std.specs.List.{list_any, slice_get}
use Rattle.std.proofs.lemmas.Bool.{cases_lt, eqb-true}
use Rattle.std.proofs.lemmas.List.{length-map}
use Rattle.std.proofs.lemmas.List.Sums.{fold-append}
use Rattle.std.proofs.Math.Numerals.{suc-eq-add-one}
use Rattle.std.proofs.Math.Seq.{drop-cons}
use Rattle.std.proofs.lemmas.Option.{get_or_from_slice_get, slice_get_within}
use Rattle.ak_base.specs.Lists.{is_empty_list}
use Rattle.ak_labor.specs.declared.ask.Ask.{Ask}
use Rattle.ak_labor.specs.declared.ask.Ask.TheVariants as ask
use Rattle.ak_labor.specs.declared.work.Outcome.{Outcome}
use Rattle.ak_labor.specs.declared.config.Config.{Config}
use Rattle.ak_labor.specs.Arrived.{Arrived}
use Rattle.ak_labor.specs.Calls.{Reply, Drained}
use Rattle.ak_labor.specs.Waits.{outstanding, unanswered, left_by, left_after, is_drain, last_wait, HasWaited, Arrive, Serves, HasCome, CanWork, CanAsk, CanWait}
use Rattle.ak_rings.specs.Queues.{has_pick}
use Rattle.ak_trace.specs.declared.entry.Entry.TheVariants as entry
use Rattle.ak_trace.specs.declared.entry.Ending.{Ending}
use Rattle.ak_trace.specs.declared.entry.Ending.TheVariants as ending
use Rattle.ak_program.specs.Programs.{NumProgram}
use Rattle.ak_machine.specs.declared.flow.Flow.{Flow}
use Rattle.ak_machine.specs.declared.flow.Flow.TheVariants as flow
use Rattle.ak_machine.specs.State.{State}
use Rattle.ak_machine.specs.Deferred.{noting}
use Rattle.ak_machine.specs.Errors.{After, going_on}
use Rattle.ak_machine.specs.declared.held.Outstanding.{Outstanding}
use Rattle.ak_machine.specs.Run.{machine_after, run_of}
use Rattle.ak_machine.specs.Cycle.{cycle_begun, has_more, is_quiet, is_stuck, arrive, arrival_of, arrive_all, is_work, with_left, served_by, requests_served}
use Rattle.ak_machine.specs.Works.{is_unanswered}
use Rattle.ak_machine.specs.Status.{status_of}
use Rattle.ak_state.specs.Errors.{after_is, Ends}
use Rattle.ak_ledger.specs.Outside.{AreOut, work_kept, request_kept, has_number, Outside, outside_of, IsInStep}
use Rattle.ak_ledger.proofs.Requests.{served_came, all_drained, unanswered_drained}
use Rattle.ak_ledger.proofs.Answering.{numbers_of}
use Rattle.ak_ledger.proofs.Quiet.{many_wait, as_many_wait, can_ask}
use Rattle.ak_ledger.proofs.Drains.{may_arrive, is_found, arrived_outside, all_arrived, fewer_out}
use Rattle.ak_ledger.proofs.Waiting.{cycle_outside, cycle_works, cycle_in_step, can_work, none_out}
use Rattle.ak_exec.specs.Worlds.{Worldly, with_state}
use Rattle.ak_exec.proofs.Asking.{open_same}
use Rattle.ak_cycle.specs.Runs.{EndsIdle, WantsNext}
use Rattle.ak_cycle.specs.Turns.{at_drain, at_close, served_with, IsAt, IsServed, IsOver, IsFinished, has_waited, undrained_from, drains_left, may_come, rounds_left, HasGained, MayBeServed, AreNext, ending_of, arrived_to}
use Rattle.ak_cycle.proofs.Asked.{served_as, all_come, waits_more, none_come, may_be_served, are_next}
use Rattle.ak_cycle.proofs.Turns.{cycle_goes, end_closes, wait_goes, ends_well, ends_quiet, goes_well, idle_finished, stuck_finished, flow_finished, flow_not_idle, not_idle, served_asks, at_drain_asks}
use Rattle.ak_cycle.proofs.Under.{wants_next, under_way, drain_serves, drain_ends, drain_stops, drained_now}

-- ---- the works of a drain, one after another
pub drop_there : {A : Type 0} (xs : List A) (k : ℕ) (x : A) → slice_get xs k ≡ Some x → drop k xs ≡ x ∷ drop (k + 1) xs
drop_there xs k x e =
    drop-cons xs k x (slice_get_within xs k x e) ∙ ap (λ y. y ∷ drop (suc k) xs) (get_or_from_slice_get xs k x x e)
    ∙ ap (λ n. x ∷ drop n xs) (suc-eq-add-one k)

pub slice_is_there : {A : Type 0} (xs : List A) (k : ℕ) → k < length xs → slice_get xs k ≡ None → ⊥
slice_is_there [] k l e = absurd (omega (arith, l))
slice_is_there (x ∷ xs) zero l e = absurd (cc)
slice_is_there (x ∷ xs) (suc k) l e = slice_is_there xs k (omega (arith, l)) e

-- one work with its flow, and the others
abbrev with_rest : List (ℕ × Outcome) → Option After → Option After
with_rest pairs None = None
with_rest pairs (Some after) = elim after.flow [
  | flow.On ↦ arrive_all pairs after.state
  | flow.Stopped ↦ Some after
  | flow.Unhandled z ↦ Some after
]

goes_to_rest : (pair : ℕ × Outcome) (pairs : List (ℕ × Outcome)) (s t : State) (f : Flow) → arrive pair.0 pair.1 s ≡ Some (after_is f t)
    → arrive_all (pair ∷ pairs) s ≡ arrived_to f pairs t
goes_to_rest pair pairs s t flow.On e = ap (with_rest pairs) e
goes_to_rest pair pairs s t flow.Stopped e = ap (with_rest pairs) e
goes_to_rest pair pairs s t (flow.Unhandled z) e = ap (with_rest pairs) e

pub one_arrives : (all : List (ℕ × Outcome)) (k : ℕ) (pair : ℕ × Outcome) (s t : State) (f : Flow) → slice_get all k ≡ Some pair
    → arrive pair.0 pair.1 s ≡ Some (after_is f t) → arrive_all (drop k all) s ≡ arrived_to f (drop (k + 1) all) t
one_arrives all k pair s t f e h = ap (λ ps. arrive_all ps s) (drop_there all k pair e) ∙ goes_to_rest pair (drop (k + 1) all) s t f h

pub one_is_out : (all : List (ℕ × Outcome)) (k : ℕ) (pair : ℕ × Outcome) (s : State) → slice_get all k ≡ Some pair
    → AreOut (map work_kept s.works) (drop k all) → IsSome (find (is_work pair.0) s.works)
one_is_out all k pair s e out = is_found pair.0 s.works (subst (AreOut (map work_kept s.works)) (drop_there all k pair e) out).0

rest_is_out : (pair : ℕ × Outcome) (pairs : List (ℕ × Outcome)) (s t : State) (f : Flow) → AreOut (map work_kept s.works) (pair ∷ pairs)
    → arrive pair.0 pair.1 s ≡ Some (after_is f t) → f ≡ flow.On → AreOut (map work_kept t.works) pairs
rest_is_out pair pairs s t f out h on =
    subst (λ ws. AreOut ws pairs) (sym (ap (λ (o : Outside). o.works) (arrived_outside pair.0 pair.1 s (after_is f t) h on))) out.1

pub others_are_out : (all : List (ℕ × Outcome)) (k : ℕ) (pair : ℕ × Outcome) (s t : State) (f : Flow) → slice_get all k ≡ Some pair
    → AreOut (map work_kept s.works) (drop k all) → arrive pair.0 pair.1 s ≡ Some (after_is f t) → f ≡ flow.On
    → AreOut (map work_kept t.works) (drop (k + 1) all)
others_are_out all k pair s t f e out h on =
    rest_is_out pair (drop (k + 1) all) s t f (subst (AreOut (map work_kept s.works)) (drop_there all k pair e) out) h on

-- works that are out all arrive
out_arrives : (w : ℕ) (outcome : Outcome) (s : State) → list_any (has_number w) (map work_kept s.works) ≡ true
    → (after : After) × (arrive w outcome s ≡ Some after)
out_arrives w outcome s h = by (find (is_work w) s.works) (is_found w s.works h)
  where
    by : (o : Option Outstanding) → IsSome o → (after : After) × (arrival_of o w outcome s ≡ Some after)
    by (Some work) k = (_, refl)
    by None k = absurd (cc)

pub all_arrive : (pairs : List (ℕ × Outcome)) (s : State) → AreOut (map work_kept s.works) pairs → (after : After) × (arrive_all pairs s ≡ Some after)
all_arrive [] s out = (going_on s, refl)
all_arrive (pair ∷ pairs) s out =
    let one = out_arrives pair.0 pair.1 s out.0
    in by one.0.flow one.0.state one.1 (λ t o. all_arrive pairs t o)
  where
    by : (f : Flow) (t : State) → arrive pair.0 pair.1 s ≡ Some (after_is f t)
        → ((u : State) → AreOut (map work_kept u.works) pairs → (after : After) × (arrive_all pairs u ≡ Some after))
        → (after : After) × (arrive_all (pair ∷ pairs) s ≡ Some after)
    by flow.On t e others =
        let rest = others t (rest_is_out pair pairs s t flow.On out e refl)
        in (rest.0, goes_to_rest pair pairs s t flow.On e ∙ rest.1)
    by flow.Stopped t e others = (after_is flow.Stopped t, goes_to_rest pair pairs s t flow.Stopped e)
    by (flow.Unhandled num) t e others = (after_is (flow.Unhandled num) t, goes_to_rest pair pairs s t (flow.Unhandled num) e)

nothing_arrives : (s t : State) → arrive_all [] s ≡ Some (after_is flow.On t) → t ≡ s
nothing_arrives s t e =
    let same : going_on s ≡ after_is flow.On t = cc
    in sym (ap (λ (after : After). after.state) same)

-- none is served
nothing_served : (o : Option ℕ) (s t : State) → requests_served o [] s ≡ Some t → t ≡ s
nothing_served None s t e = cc
nothing_served (Some n) s t e = cc

-- less may come, where a work or a request has come or an asker has ended
less_comes : (works works' waits waits' left left' more : ℕ) → works' ≤ works → waits' ≡ waits + more → left' ≤ left → waits' ≤ left'
    → (works' < works) ⊎ (1 ≤ more) ⊎ (left' < left) → works' + (left' + (left' - waits')) < works + (left + (left - waits))
less_comes works works' waits waits' left left' more a b c d (inl h) = omega (arith, a, b, c, d, h)
less_comes works works' waits waits' left left' more a b c d (inr (inl h)) = omega (arith, a, b, c, d, h)
less_comes works works' waits waits' left left' more a b c d (inr (inr h)) = omega (arith, a, b, c, d, h)

-- ---- a drain
pub works_out : (program : NumProgram) (config : Config) (w : Worldly) (asked : List Ask) (replies : List Reply) (waits : List ℕ) (arrived : Arrived)
    → IsAt program config w asked replies waits → Arrive (outstanding asked replies) arrived.works → AreOut (map work_kept w.plain.works) arrived.works
works_out program config w asked replies waits arrived at came =
    subst (λ ws. AreOut ws arrived.works) (sym at.in_step.works) (may_arrive (outstanding asked replies) arrived.works came)

module _ (program : NumProgram) (config : Config) (w w' : Worldly) (asked asked' : List Ask) (replies replies' : List Reply) (waits waits' : List ℕ)
    (arrived : Arrived) (at : IsAt program config w asked replies waits) (ea : asked' ≡ asked ++ ask.Drain ∷ [])
    (er : replies' ≡ replies ++ Drained arrived ∷ []) (ew : waits' ≡ waits) (brought : Arrive (outstanding asked replies) arrived.works)
    (askers : ℕ) (ek : w.config.askers ≡ askers) (serves : Serves askers asked replies arrived) where
  here : Serves config.askers asked replies arrived
  here =
      subst (λ n. Serves n asked replies arrived) (sym ek ∙ ap (λ (k : Config). k.askers) at.run.config_is) serves

  out : AreOut (map work_kept w.plain.works) arrived.works
  out = works_out program config w asked replies waits arrived at brought

  -- its requests may be served, and are next behind its works
  pub drain_may : MayBeServed w.program.ask arrived.requests
  drain_may =
      subst (λ (p : NumProgram). MayBeServed p.ask arrived.requests) (sym at.run.program_is)
      (may_be_served config.askers asked replies arrived w.plain at.in_step here program at.run.served at.run.no_more)

  pub next_behind : (after : After) → arrive_all arrived.works w.plain ≡ Some after → after.flow ≡ flow.On → AreNext arrived.requests after.state
  next_behind after e on =
      are_next config.askers asked replies arrived w.plain at.in_step here after.state
      (sym (length-map after.state.requests request_kept)
      ∙ ap (λ (o : Outside). length o.requests) (all_arrived arrived.works w.plain after e on) ∙ length-map w.plain.requests request_kept)

  by_machine : (s : State) → requests_served (served_by w.program.ask w.config.askers) arrived.requests s ≡ requests_served w.program.ask arrived.requests s
  by_machine s =
      served_as w.program.ask w.config.askers arrived.requests s
      (λ z. none_come config.askers asked replies arrived w.plain at.in_step here at.run.no_more
      (sym (ap (λ (k : Config). k.askers) at.run.config_is) ∙ z))

  comes : (after : After) → arrive_all arrived.works w.plain ≡ Some after → after.flow ≡ flow.On
      → (t : State) × (requests_served (served_by w.program.ask w.config.askers) arrived.requests after.state ≡ Some t)
  comes after e on =
      let come = all_come w.program.ask arrived.requests after.state drain_may (next_behind after e on)
      in (come.0, by_machine after.state ∙ come.1)

  step_behind : (s t : State) → arrive_all arrived.works w.plain ≡ Some (after_is flow.On s) → requests_served w.program.ask arrived.requests s ≡ Some t
      → IsInStep config.askers (asked ++ ask.Drain ∷ []) (replies ++ Drained arrived ∷ []) (with_left arrived.left t)
  step_behind s t e come =
      all_drained config.askers asked replies w.plain (after_is flow.On s) t arrived at.run.opened.1 at.in_step out e refl
      (served_came w.program.ask arrived.requests s t come)

  pub fetched_on : (s t : State) → arrive_all arrived.works w.plain ≡ Some (after_is flow.On s) → requests_served w.program.ask arrived.requests s ≡ Some t
      → w' ≡ with_state (with_left arrived.left t) w → IsServed program config w' asked' replies' waits'
  fetched_on s t e come is = record {
    run = drain_serves program config w w' asked asked' replies replies' waits waits' arrived at.run ea er ew here s t e (by_machine s ∙ come) is;
    in_step =
        subst (λ (x : Worldly). IsInStep config.askers asked' replies' x.plain) (sym is)
        (subst (λ (all : List Ask). IsInStep config.askers all replies' (with_left arrived.left t)) (sym ea)
        (subst (λ (rs : List Reply). IsInStep config.askers (asked ++ ask.Drain ∷ []) rs (with_left arrived.left t)) (sym er) (step_behind s t e come)));
    drained = drained_now replies replies' arrived er;
    one_each =
        let left : left_after config.askers replies' ≡ arrived.left =
        ap (left_after config.askers) er ∙ fold-append left_by config.askers replies (Drained arrived ∷ [])
        in let many : length (unanswered asked' replies') ≡ length (unanswered asked (replies ++ Drained arrived ∷ [])) =
        ap (λ (all : List Ask). length (unanswered all replies')) ea
        ∙ ap (λ (rs : List Reply). length (unanswered (asked ++ ask.Drain ∷ []) rs)) er
        ∙ ap length (unanswered_drained asked (replies ++ Drained arrived ∷ []))
        in omega (arith, left, many, here.one_each);
  }

  pub fetched_off : (f : Flow) (s : State) → arrive_all arrived.works w.plain ≡ Some (after_is f s) → (f ≡ flow.On → ⊥) → Ends f s.trace
      → w' ≡ with_state s w → IsOver program config w' asked' replies' waits'
  fetched_off f s e off told is = record {
    run = drain_ends program config w w' asked asked' replies replies' waits waits' arrived at.run ea er ew here f s e off is;
    finished = subst (λ (x : Worldly). IsFinished (status_of x.plain.trace)) (sym is) (flow_finished f s.trace off told);
    idle = λ h. absurd (flow_not_idle f s.trace off told (subst (λ (x : Worldly). EndsIdle x.plain.trace) is h));
    quiet = λ h. absurd (flow_not_idle f s.trace off told (subst (λ (x : Worldly). EndsIdle x.plain.trace) is h));
  }

  -- there was no memory for what the works that arrived did, or for the requests behind them
  pub fetch_stops : WantsNext (run_of program config replies') asked' replies' waits'
  fetch_stops =
      let all = all_arrive arrived.works w.plain out
      in drain_stops program config w w' asked asked' replies replies' waits waits' arrived at.run ea er ew here all.0 all.1
      (λ on. comes all.0 all.1 on)

  -- what the drain gained
  pub gained : (s t : State) (turns turns' : ℕ) → arrive_all arrived.works w.plain ≡ Some (after_is flow.On s)
      → requests_served w.program.ask arrived.requests s ≡ Some t → w' ≡ with_state (with_left arrived.left t) w
      → (HasWaited asked waits → HasCome askers replies arrived ⊎ (turns' < turns)) → HasGained w w' asked waits turns turns'
  gained s t turns turns' e come is woken = by arrived.works refl out e
    where
      before : count_by is_unanswered w.plain.requests ≡ length (unanswered asked replies)
      before = as_many_wait config.askers asked replies w.plain at.in_step

      behind : count_by is_unanswered t.requests ≡ count_by is_unanswered w.plain.requests + length arrived.requests
      behind =
          as_many_wait config.askers (asked ++ ask.Drain ∷ []) (replies ++ Drained arrived ∷ []) (with_left arrived.left t) (step_behind s t e come)
          ∙ ap length (unanswered_drained asked (replies ++ Drained arrived ∷ []))
          ∙ waits_more config.askers asked replies arrived w.plain at.in_step here
          ∙ ap (λ n. n + length arrived.requests) (sym before)

      each : count_by is_unanswered t.requests ≤ arrived.left
      each =
          let few = here.one_each
          in let many = waits_more config.askers asked replies arrived w.plain at.in_step here
          in omega (arith, few, many, behind, before)

      fewer_left : arrived.left ≤ w.plain.left
      fewer_left = let left = at.in_step.left in let fewer = here.fewer in omega (arith, left, fewer)

      works_same : length t.works ≡ length s.works
      works_same =
          sym (length-map t.works work_kept)
          ∙ ap (λ (o : Outside). length o.works) (served_came w.program.ask arrived.requests s t come).outside ∙ length-map s.works work_kept

      less : length s.works ≤ length w.plain.works
          → (length s.works < length w.plain.works) ⊎ (1 ≤ length arrived.requests) ⊎ (arrived.left < w.plain.left)
          → HasGained w w' asked waits turns turns'
      less l some =
          inl (subst (λ (x : Worldly). may_come x.plain < may_come w.plain) (sym is)
          (subst (λ n. n + (arrived.left + (arrived.left - count_by is_unanswered t.requests)) < may_come w.plain) (sym works_same)
          (less_comes (length w.plain.works) (length s.works) (count_by is_unanswered w.plain.requests) (count_by is_unanswered t.requests)
          w.plain.left arrived.left (length arrived.requests) l behind fewer_left each some)))

      nothing_new : arrived.works ≡ [] → s ≡ w.plain → (rs : List (ℕ × ℤ)) → arrived.requests ≡ rs → HasGained w w' asked waits turns turns'
      nothing_new none same (r ∷ rs) k =
          let works : length s.works ≡ length w.plain.works = ap (λ (x : State). length x.works) same
          in let many : length arrived.requests ≡ length (r ∷ rs) = ap length k
          in less (omega (arith, works)) (inr (inl (omega (arith, many))))
      nothing_new none same [] k =
          let works : length s.works ≡ length w.plain.works = ap (λ (x : State). length x.works) same
          in elim (cases_lt arrived.left w.plain.left) [
            | inl lt ↦ less (omega (arith, works)) (inr (inr lt))
            | inr ge ↦
                (let equal : arrived.left ≡ w.plain.left = omega (arith, ge, fewer_left)
                in let alike : t ≡ w.plain =
                nothing_served w.program.ask s t (subst (λ rs. requests_served w.program.ask rs s ≡ Some t) k come) ∙ same
                in inr (
                  is ∙ ap (λ (x : State). with_state (with_left arrived.left x) w) alike ∙ ap (λ n. with_state (with_left n w.plain) w) equal,
                  λ waited. none_came none k equal (woken waited),
                ))
          ]
        where
          none_came : arrived.works ≡ [] → arrived.requests ≡ [] → arrived.left ≡ w.plain.left → HasCome askers replies arrived ⊎ (turns' < turns)
              → turns' < turns
          none_came x y z (inl (inl some)) = absurd (some x)
          none_came x y z (inl (inr (inl some))) = absurd (some y)
          none_came x y z (inl (inr (inr fewer))) =
              let kept : left_after askers replies ≡ left_after config.askers replies =
              ap (λ n. left_after n replies) (sym ek ∙ ap (λ (c : Config). c.askers) at.run.config_is)
              in let left = at.in_step.left
              in absurd (omega (arith, fewer, z, kept, left))
          none_came x y z (inr l) = l

      by : (pairs : List (ℕ × Outcome)) → arrived.works ≡ pairs → AreOut (map work_kept w.plain.works) pairs
          → arrive_all pairs w.plain ≡ Some (after_is flow.On s) → HasGained w w' asked waits turns turns'
      by (pair ∷ pairs) h o k =
          let fewer : length s.works < length w.plain.works = fewer_out pair pairs w.plain (after_is flow.On s) o k refl
          in less (omega (arith, fewer)) (inl fewer)
      by [] h o k = nothing_new h (nothing_arrives w.plain s k) arrived.requests refl

-- ---- the end of a cycle
-- as much may come when a cycle has begun
pub cycle_comes : (s : State) → may_come (cycle_begun s) ≡ may_come s
cycle_comes s =
    let same : outside_of (cycle_begun s) ≡ outside_of s = cycle_outside s
    in let works : length (cycle_begun s).works ≡ length s.works = cycle_works s
    in let left : (cycle_begun s).left ≡ s.left = ap (λ (o : Outside). o.left) same
    in let waits : count_by is_unanswered (cycle_begun s).requests ≡ count_by is_unanswered s.requests =
    many_wait (cycle_begun s).requests ∙ ap (λ (o : Outside). length (numbers_of o.requests)) same ∙ sym (many_wait s.requests)
    in ap (λ n. n + ((cycle_begun s).left + ((cycle_begun s).left - count_by is_unanswered (cycle_begun s).requests))) works
    ∙ ap (λ n. length s.works + (n + (n - count_by is_unanswered (cycle_begun s).requests))) left
    ∙ ap (λ n. length s.works + (s.left + (s.left - n))) waits

-- a run that goes on may wait
pub may_wait : (program : NumProgram) (config : Config) (w : Worldly) (asked : List Ask) (replies : List Reply) (waits : List ℕ) (threads askers : ℕ)
    → IsServed program config w asked replies waits → w.config.threads ≡ threads → w.config.askers ≡ askers
    → ending_of w.config.threads w.plain ≡ None → CanWait threads askers asked replies
may_wait program config w asked replies waits threads askers s e k goes = by (goes_well w.config.threads w.plain goes)
  where
    same : config.askers ≡ askers
    same = sym (ap (λ (c : Config). c.askers) s.run.config_is) ∙ k

    by : (is_quiet w.plain ≡ false) ⊎ ((is_empty_list w.plain.works ≡ false) × (is_stuck w.config.threads w.plain ≡ false))
        → CanWait threads askers asked replies
    by (inl loud) = inr (subst (λ n. CanAsk n asked replies) same (can_ask config.askers asked replies w.plain s.in_step s.one_each loud))
    by (inr out) = inl (subst (λ m. CanWork m asked replies) e (can_work config.askers w.config.threads asked replies w.plain s.in_step out.0 out.1))

-- there was no memory for the end of the cycle, or for the wait
pub end_stops : (program : NumProgram) (config : Config) (w : Worldly) (asked asked' : List Ask) (replies replies' : List Reply) (waits waits' : List ℕ)
    → IsServed program config w asked replies waits → asked' ≡ asked → replies' ≡ replies → waits' ≡ waits
    → WantsNext (run_of program config replies') asked' replies' waits'
end_stops program config w asked asked' replies replies' waits waits' s ea er ew =
    wants_next program config (served_with w asked waits) asked asked' replies replies' waits waits' s.run.machine s.run.opened
    (served_asks w asked waits) ea er ew

module _ (program : NumProgram) (config : Config) (w w' : Worldly) (asked : List Ask) (replies : List Reply) (waits : List ℕ)
    (s : IsServed program config w asked replies waits) (e : has_pick w.plain.queues ≡ false) where
  pub cycle_at : has_more w.plain ≡ true → w' ≡ with_state (cycle_begun w.plain) w → IsAt program config w' asked replies waits
  cycle_at more is = record {
    run =
        under_way program config w w' asked asked replies replies (served_with w asked waits) (at_drain w' asked waits) s.run
        (ap (λ (x : Worldly). x.program) is) (ap (λ (x : Worldly). x.config) is) (ap (λ (x : Worldly). x.picked) is ∙ s.run.free)
        (s.run.machine ∙ cycle_goes w asked waits e more ∙ ap (λ (x : Worldly). at_drain x asked waits) (sym is)) s.run.opened (omega arith);
    in_step =
        subst (λ (x : Worldly). IsInStep config.askers asked replies x.plain) (sym is) (cycle_in_step config.askers asked replies w.plain s.in_step);
  }

  pub end_over : (why : Ending) → has_more w.plain ≡ false → ending_of w.config.threads w.plain ≡ Some why
      → w' ≡ with_state (noting (entry.End why) w.plain) w → IsOver program config w' asked replies waits
  end_over why more ends is = record {
    run =
        under_way program config w w' asked asked replies replies (served_with w asked waits) (at_close w' asked waits) s.run
        (ap (λ (x : Worldly). x.program) is) (ap (λ (x : Worldly). x.config) is) (ap (λ (x : Worldly). x.picked) is ∙ s.run.free)
        (s.run.machine ∙ end_closes w why asked waits e more ends ∙ ap (λ (x : Worldly). at_close x asked waits) (sym is)) s.run.opened (omega arith);
    finished = subst (λ (x : Worldly). IsFinished (status_of x.plain.trace)) (sym is) (end_finished (ends_well w.config.threads w.plain why ends));
    idle = λ h. none_is_out (ends_well w.config.threads w.plain why ends) (subst (λ (x : Worldly). EndsIdle x.plain.trace) is h);
    quiet =
        λ h. sym (as_many_wait config.askers asked replies w.plain s.in_step)
        ∙ (eqb-true (count_by is_unanswered w.plain.requests) w.plain.left (ends_quiet w.config.threads w.plain why ends) ∙ s.in_step.left);
  }
    where
      end_finished : ((why ≡ ending.Idle) × (is_empty_list w.plain.works ≡ true)) ⊎ (why ≡ ending.Stuck)
          → IsFinished (status_of (w.plain.trace ++ entry.End why ∷ []))
      end_finished (inl idle) = subst (λ (x : Ending). IsFinished (status_of (w.plain.trace ++ entry.End x ∷ []))) (sym idle.0) (idle_finished w.plain.trace)
      end_finished (inr stuck) = subst (λ (x : Ending). IsFinished (status_of (w.plain.trace ++ entry.End x ∷ []))) (sym stuck) (stuck_finished w.plain.trace)

      none_is_out : ((why ≡ ending.Idle) × (is_empty_list w.plain.works ≡ true)) ⊎ (why ≡ ending.Stuck)
          → EndsIdle (w.plain.trace ++ entry.End why ∷ []) → outstanding asked replies ≡ []
      none_is_out (inl idle) h = none_out config.askers asked replies w.plain s.in_step idle.1
      none_is_out (inr stuck) h =
          absurd (not_idle ending.Stuck w.plain.trace (λ k. absurd (cc))
          (subst (λ (x : Ending). EndsIdle (w.plain.trace ++ entry.End x ∷ [])) stuck h))

  -- the scheduler has waited
  module _ (asked' : List Ask) (replies' : List Reply) (waits' : List ℕ) (more : has_more w.plain ≡ false)
      (on : ending_of w.config.threads w.plain ≡ None) (ea : asked' ≡ asked) (er : replies' ≡ replies) (ew : waits' ≡ waits ++ length asked ∷ []) where
    goes : machine_after program config replies ≡ at_drain (with_state (cycle_begun w.plain) w) asked (waits ++ length asked ∷ [])
    goes = s.run.machine ∙ wait_goes w asked waits e more on

    pub wait_at : w' ≡ with_state (cycle_begun w.plain) w → IsAt program config w' asked' replies' waits'
    wait_at is = record {
      run =
          under_way program config w w' asked asked' replies replies' (served_with w asked waits) (at_drain w' asked' waits') s.run
          (ap (λ (x : Worldly). x.program) is) (ap (λ (x : Worldly). x.config) is) (ap (λ (x : Worldly). x.picked) is ∙ s.run.free)
          (ap (machine_after program config) er ∙ goes
          ∙ ap (λ (x : Worldly). at_drain x asked (waits ++ length asked ∷ [])) (sym is)
          ∙ ap (λ (all : List Ask). at_drain w' all (waits ++ length asked ∷ [])) (sym ea)
          ∙ ap (λ ws. at_drain w' asked' ws) (sym ew))
          (open_same asked asked' replies replies' s.run.opened ea er)
          (let left : left_after config.askers replies' ≡ left_after config.askers replies = ap (left_after config.askers) er in omega (arith, left));
      in_step =
          subst (λ (x : Worldly). IsInStep config.askers asked' replies' x.plain) (sym is)
          (subst (λ (all : List Ask). IsInStep config.askers all replies' (cycle_begun w.plain)) (sym ea)
          (subst (λ (rs : List Reply). IsInStep config.askers asked rs (cycle_begun w.plain)) (sym er)
          (cycle_in_step config.askers asked replies w.plain s.in_step)));
    }

    -- there was no memory for the cycle behind it
    pub wait_stops : WantsNext (run_of program config replies') asked' replies' waits'
    wait_stops =
        wants_next program config (at_drain (with_state (cycle_begun w.plain) w) asked (waits ++ length asked ∷ [])) asked asked' replies replies'
        (waits ++ length asked ∷ []) waits' goes s.run.opened
        (at_drain_asks (with_state (cycle_begun w.plain) w) asked (waits ++ length asked ∷ [])) ea er ew

-- ---- the rounds that are left
last_is : (waits : List ℕ) (n : ℕ) → last_wait (waits ++ n ∷ []) ≡ Some n
last_is [] n = refl
last_is (m ∷ []) n = refl
last_is (m ∷ k ∷ waits) n = last_is (k ∷ waits) n

drop_all : {A : Type 0} (xs : List A) → drop (length xs) xs ≡ []
drop_all [] = refl
drop_all (x ∷ xs) = drop_all xs

has_waited_now : (asked : List Ask) (waits waits' : List ℕ) → waits' ≡ waits ++ length asked ∷ [] → has_waited asked waits' ≡ true
has_waited_now asked waits waits' e =
    ap (λ ws. undrained_from asked (last_wait ws)) e ∙ ap (undrained_from asked) (last_is waits (length asked))
    ∙ ap (λ (l : List Ask). not (list_any is_drain l)) (drop_all asked)

waited : (asked : List Ask) (waits : List ℕ) → has_waited asked waits ≡ true → HasWaited asked waits
waited asked waits e = by (last_wait waits) e
  where
    false_of : (b : Bool) → not b ≡ true → b ≡ false
    false_of true h = absurd (cc)
    false_of false h = refl

    by : (o : Option ℕ) → undrained_from asked o ≡ true → (elim o as (λ (x : Option ℕ). Type 0) [
      | None ↦ ⊥
      | Some n ↦ list_any is_drain (drop n asked) ≡ false
    ])
    by None h = absurd (cc)
    by (Some n) h = false_of (list_any is_drain (drop n asked)) h

most_by : (pick more waited : Bool) → pick ≡ more → cond pick 0 (cond more 3 (cond waited 1 2)) ≤ 2
most_by true more waited e = omega arith
most_by false true waited e = absurd (cc)
most_by false false true e = omega arith
most_by false false false e = omega arith

drains_most : (w : Worldly) (b : Bool) → has_pick w.plain.queues ≡ has_more w.plain → drains_left w b ≤ 2
drains_most w b e = most_by (has_pick w.plain.queues) (has_more w.plain) b e

least_by : (pick more : Bool) → pick ≡ more → cond pick 0 (cond more 3 1) ≤ 1
least_by true more e = omega arith
least_by false true e = absurd (cc)
least_by false false e = omega arith

drains_least : (w : Worldly) (b : Bool) → b ≡ true → has_pick w.plain.queues ≡ has_more w.plain → drains_left w b ≤ 1
drains_least w b is e = subst (λ c. drains_left w c ≤ 1) (sym is) (least_by (has_pick w.plain.queues) (has_more w.plain) e)

-- after a wait
pub waited_least : (w w' : Worldly) (asked asked' : List Ask) (waits waits' : List ℕ) → asked' ≡ asked → waits' ≡ waits ++ length asked ∷ []
    → has_more w.plain ≡ false → has_pick w'.plain.queues ≡ has_more w'.plain → drains_left w' (has_waited asked' waits') ≤ cond (has_more w.plain) 2 1
waited_least w w' asked asked' waits waits' ea ew more picks =
    subst (λ b. drains_left w' (has_waited asked' waits') ≤ cond b 2 1) (sym more)
    (drains_least w' (has_waited asked' waits') (ap (λ (all : List Ask). has_waited all waits') ea ∙ has_waited_now asked waits waits' ew) picks)

-- after a cycle that begins with something left to do
pub begun_most : (w w' : Worldly) (b : Bool) → has_more w.plain ≡ true → has_pick w'.plain.queues ≡ has_more w'.plain
    → drains_left w' b ≤ cond (has_more w.plain) 2 1
begun_most w w' b more picks = subst (λ x. drains_left w' b ≤ cond x 2 1) (sym more) (drains_most w' b picks)

rounds_by : (more waited : Bool) (works works' turns turns1 turns' d' : ℕ) → works' ≡ works → turns' ≤ turns1 → turns1 ≤ turns
    → (waited ≡ true → turns1 < turns) → d' ≤ cond more 2 1
    → 4 * (works' + turns') + d' < 4 * (works + turns) + cond more 3 (cond waited 1 2)
rounds_by true waited works works' turns turns1 turns' d' e l m r h = omega (arith, e, l, m, h)
rounds_by false true works works' turns turns1 turns' d' e l m r h = let less = r refl in omega (arith, e, l, less, h)
rounds_by false false works works' turns turns1 turns' d' e l m r h = omega (arith, e, l, m, h)

at_most_two : (more : Bool) (d : ℕ) → d ≤ cond more 2 1 → d ≤ 2
at_most_two true d h = h
at_most_two false d h = omega (arith, h)

-- a drain, and the end of the cycle behind it, leave fewer
pub rounds_fewer : (w w1 w2 : Worldly) (asked : List Ask) (waits : List ℕ) (b : Bool) (turns turns1 turns2 : ℕ) → HasGained w w1 asked waits turns turns1
    → turns1 ≤ turns → turns2 ≤ turns1 → has_pick w1.plain.queues ≡ false → may_come w2.plain ≡ may_come w1.plain
    → drains_left w2 b ≤ cond (has_more w1.plain) 2 1 → rounds_left w2 b turns2 < rounds_left w (has_waited asked waits) turns
rounds_fewer w w1 w2 asked waits b turns turns1 turns2 (inl fewer) m l e n d =
    let two = at_most_two (has_more w1.plain) (drains_left w2 b) d
    in omega (arith, fewer, m, l, n, two)
rounds_fewer w w1 w2 asked waits b turns turns1 turns2 (inr same) m l e n d =
    let more : has_more w1.plain ≡ has_more w.plain = ap (λ (x : Worldly). has_more x.plain) same.0
    in let none : has_pick w.plain.queues ≡ false = ap (λ (x : Worldly). has_pick x.plain.queues) (sym same.0) ∙ e
    in let come : may_come w2.plain ≡ may_come w.plain = n ∙ ap (λ (x : Worldly). may_come x.plain) same.0
    in subst (λ p. rounds_left w2 b turns2 < 4 * (may_come w.plain + turns) + cond p 0 (cond (has_more w.plain) 3 (cond (has_waited asked waits) 1 2)))
    (sym none)
    (rounds_by (has_more w.plain) (has_waited asked waits) (may_come w.plain) (may_come w2.plain) turns turns1 turns2 (drains_left w2 b) come l m
    (λ h. same.1 (waited asked waits h)) (subst (λ x. drains_left w2 b ≤ cond x 2 1) more d))
