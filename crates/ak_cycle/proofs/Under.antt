-- A run under way over a port: after each call, after each error, and at its end.
use Rattle.std.proofs.Common.{◌≡◌, ℕ, ◌+◌, ◌≤◌, List, [], ◌∷◌, ◌++◌, length, Bool, true, false, refl, ap, sym, subst, ◌∙◌, arith, Some, None}
use Rattle.std.specs.Prelude.{◌||◌}
use Rattle.std.specs.List.{list_any}
use Rattle.std.proofs.lemmas.List.{length-append}
use Rattle.std.proofs.lemmas.List.Folds.{list_any-append}
use Rattle.std.proofs.lemmas.List.Sums.{fold-append}
use Rattle.ak_labor.specs.declared.ask.Ask.{Ask}
use Rattle.ak_labor.specs.declared.ask.Ask.TheVariants as ask
use Rattle.ak_labor.specs.declared.config.Config.{Config}
use Rattle.ak_labor.specs.Calls.{Reply, Drained, Done, IsOpen}
use Rattle.ak_labor.specs.Arrived.{Arrived}
use Rattle.ak_labor.specs.Waits.{left_by, left_after, is_drained, Serves}
use Rattle.ak_trace.specs.declared.entry.Entry.{Entry}
use Rattle.ak_program.specs.Programs.{NumProgram}
use Rattle.ak_rings.specs.Queues.{pick_of}
use Rattle.ak_machine.specs.declared.flow.Flow.{Flow}
use Rattle.ak_machine.specs.declared.flow.Flow.TheVariants as flow
use Rattle.ak_machine.specs.State.{State}
use Rattle.ak_machine.specs.Errors.{After}
use Rattle.ak_machine.specs.Cycle.{arrive_all, served_by, requests_served, with_left}
use Rattle.ak_machine.specs.Run.{Machine, Ended, Wants, ran_to, drained, served, stepped, machine_after, run_of, begun}
use Rattle.ak_state.specs.Errors.{after_is}
use Rattle.ak_ledger.specs.Outside.{IsInStep}
use Rattle.ak_exec.specs.Worlds.{Worldly, ServesAskers, with_state}
use Rattle.ak_exec.proofs.Asking.{open_more, open_same}
use Rattle.ak_cycle.specs.Runs.{HasEndedWith, WantsLast, WantsNext, WaitsAre}
use Rattle.ak_cycle.specs.Turns.{at_drain, at_close, served_with, first_world, IsUnderWay, IsAt, IsOver}
use Rattle.ak_cycle.proofs.Turns.{AsksNext, picked_alike, served_asks, at_close_asks}

-- ---- errors
one_more : (asked asked' : List Ask) (replies replies' : List Reply) (a : Ask) → IsOpen asked replies → asked' ≡ asked ++ a ∷ [] → replies' ≡ replies
    → length asked' ≡ length replies' + 1
one_more asked asked' replies replies' a o ea er =
    ap length ea ∙ length-append asked (a ∷ []) ∙ ap (λ n. n + 1) (sym o.1) ∙ ap (λ (rs : List Reply). length rs + 1) (sym er)

-- the last call has no reply
pub wants_last : (program : NumProgram) (config : Config) (m : Machine) (a : Ask) (asked asked' : List Ask) (replies replies' : List Reply)
    (waits waits' : List ℕ)
    → machine_after program config replies ≡ m → IsOpen asked replies → ran_to m.place ≡ Wants a → m.asks ≡ asked ++ a ∷ [] → m.waits ≡ waits
    → asked' ≡ asked ++ a ∷ [] → replies' ≡ replies → waits' ≡ waits → WantsLast (run_of program config replies') asked' replies' waits'
wants_last program config m a asked asked' replies replies' waits waits' e o p s ws ea er ew =
    let is : machine_after program config replies' ≡ m = ap (machine_after program config) er ∙ e
    in record {
      last = a;
      before = asked;
      wants = ap (λ (x : Machine). ran_to x.place) is ∙ p;
      asked_is = ea;
      one_more = one_more asked asked' replies replies' a o ea er;
      asks_are = ap (λ (x : Machine). x.asks) is ∙ s ∙ sym ea;
      waits_are = ap (λ (x : Machine). x.waits) is ∙ ws ∙ sym ew;
    }

-- a call that comes next was not made
pub wants_next : (program : NumProgram) (config : Config) (m : Machine) (asked asked' : List Ask) (replies replies' : List Reply) (waits waits' : List ℕ)
    → machine_after program config replies ≡ m → IsOpen asked replies → AsksNext m asked waits → asked' ≡ asked → replies' ≡ replies → waits' ≡ waits
    → WantsNext (run_of program config replies') asked' replies' waits'
wants_next program config m asked asked' replies replies' waits waits' e o a ea er ew =
    let is : machine_after program config replies' ≡ m = ap (machine_after program config) er ∙ e
    in record {
      next = a.next;
      wants = ap (λ (x : Machine). ran_to x.place) is ∙ a.wants;
      opened = open_same asked asked' replies replies' o ea er;
      asks_are = ap (λ (x : Machine). x.asks) is ∙ a.asks_are ∙ ap (λ (all : List Ask). all ++ a.next ∷ []) (sym ea);
      waits_are =
          subst (λ (all : List Ask). WaitsAre (run_of program config replies').waits waits' (length all)) (sym ea)
          (subst (λ ws. WaitsAre (run_of program config replies').waits ws (length asked)) (sym ew)
          (subst (λ ws. WaitsAre ws waits (length asked)) (sym (ap (λ (x : Machine). x.waits) is)) a.waits_are));
    }

-- ---- a drain
-- what the machine does with what it brings
drained_machine : (program : NumProgram) (config : Config) (w : Worldly) (asked asked' : List Ask) (replies replies' : List Reply) (waits : List ℕ)
    (arrived : Arrived)
    → IsUnderWay program config w asked replies (at_drain w asked waits) → asked' ≡ asked ++ ask.Drain ∷ [] → replies' ≡ replies ++ Drained arrived ∷ []
    → machine_after program config replies' ≡ drained w.program w.config arrived (arrive_all arrived.works w.plain) (at_drain w asked waits)
drained_machine program config w asked asked' replies replies' waits arrived u ea er =
    ap (machine_after program config) er
    ∙ fold-append (stepped program config) (begun program.main config) replies (Drained arrived ∷ [])
    ∙ ap (λ (m : Machine). stepped program config m (Drained arrived)) u.machine
    ∙ ap (λ (q : NumProgram). stepped q config (at_drain w asked waits) (Drained arrived)) (sym u.program_is)
    ∙ ap (λ (k : Config). stepped w.program k (at_drain w asked waits) (Drained arrived)) (sym u.config_is)

drained_on : (w : Worldly) (s t : State) (asked : List Ask) (waits : List ℕ) (arrived : Arrived)
    → requests_served (served_by w.program.ask w.config.askers) arrived.requests s ≡ Some t
    → drained w.program w.config arrived (Some (after_is flow.On s)) (at_drain w asked waits)
    ≡ served_with (with_state (with_left arrived.left t) w) (asked ++ ask.Drain ∷ []) waits
drained_on w s t asked waits arrived e =
    ap (λ o. served w.program w.config o arrived.left (at_drain w asked waits)) e
    ∙ picked_alike w (pick_of t.queues) w.plain (with_left arrived.left t) (with_left arrived.left t) (asked ++ ask.Drain ∷ []) waits

drained_off : (f : Flow) (w : Worldly) (s : State) (asked : List Ask) (waits : List ℕ) (arrived : Arrived) → (f ≡ flow.On → ⊥)
    → drained w.program w.config arrived (Some (after_is f s)) (at_drain w asked waits) ≡ at_close (with_state s w) (asked ++ ask.Drain ∷ []) waits
drained_off flow.On w s asked waits arrived n = absurd (n refl)
drained_off flow.Stopped w s asked waits arrived n = refl
drained_off (flow.Unhandled num) w s asked waits arrived n = refl

-- a call comes next, whatever became of the works
pub drained_asks : (w : Worldly) (asked : List Ask) (waits : List ℕ) (arrived : Arrived) (after : After)
    → (after.flow ≡ flow.On → (t : State) × (requests_served (served_by w.program.ask w.config.askers) arrived.requests after.state ≡ Some t))
    → AsksNext (drained w.program w.config arrived (Some after) (at_drain w asked waits)) (asked ++ ask.Drain ∷ []) waits
drained_asks w asked waits arrived after comes = by after.flow comes
  where
    all : List Ask
    all = asked ++ ask.Drain ∷ []

    by : (f : Flow) → (f ≡ flow.On → (t : State) × (requests_served (served_by w.program.ask w.config.askers) arrived.requests after.state ≡ Some t))
        → AsksNext (drained w.program w.config arrived (Some (after_is f after.state)) (at_drain w asked waits)) all waits
    by flow.On h =
        let come = h refl
        in subst (λ (m : Machine). AsksNext m all waits) (sym (drained_on w after.state come.0 asked waits arrived come.1))
        (served_asks (with_state (with_left arrived.left come.0) w) all waits)
    by flow.Stopped h = at_close_asks (with_state after.state w) all waits
    by (flow.Unhandled num) h = at_close_asks (with_state after.state w) all waits

-- the run goes on under way with another machine
pub under_way : (program : NumProgram) (config : Config) (w w' : Worldly) (asked asked' : List Ask) (replies replies' : List Reply) (m m' : Machine)
    → IsUnderWay program config w asked replies m → w'.program ≡ w.program → w'.config ≡ w.config → w'.picked ≡ None
    → machine_after program config replies' ≡ m' → IsOpen asked' replies' → left_after config.askers replies' ≤ left_after config.askers replies
    → IsUnderWay program config w' asked' replies' m'
under_way program config w w' asked asked' replies replies' m m' u p c f e o l = record {
  free = f;
  program_is = p ∙ u.program_is;
  config_is = c ∙ u.config_is;
  machine = e;
  opened = o;
  served = u.served;
  no_more = omega (arith, l, u.no_more);
}

module _ (program : NumProgram) (config : Config) (w w' : Worldly) (asked asked' : List Ask) (replies replies' : List Reply) (waits waits' : List ℕ)
    (arrived : Arrived) (u : IsUnderWay program config w asked replies (at_drain w asked waits)) (ea : asked' ≡ asked ++ ask.Drain ∷ [])
    (er : replies' ≡ replies ++ Drained arrived ∷ []) (ew : waits' ≡ waits) (serves : Serves config.askers asked replies arrived) where
  left : left_after config.askers replies' ≡ arrived.left
  left = ap (left_after config.askers) er ∙ fold-append left_by config.askers replies (Drained arrived ∷ [])

  drained_under : (m : Machine) → w' ≡ with_state w'.plain w → machine_after program config replies' ≡ m → IsUnderWay program config w' asked' replies' m
  drained_under m is e =
      under_way program config w w' asked asked' replies replies' (at_drain w asked waits) m u
      (ap (λ (x : Worldly). x.program) is) (ap (λ (x : Worldly). x.config) is) (ap (λ (x : Worldly). x.picked) is ∙ u.free) e
      (open_more asked asked' replies replies' ask.Drain (Drained arrived) refl u.opened ea er)
      (omega (arith, left, serves.fewer))

  pub drain_serves : (s t : State) → arrive_all arrived.works w.plain ≡ Some (after_is flow.On s)
      → requests_served (served_by w.program.ask w.config.askers) arrived.requests s ≡ Some t → w' ≡ with_state (with_left arrived.left t) w
      → IsUnderWay program config w' asked' replies' (served_with w' asked' waits')
  drain_serves s t e come is =
      drained_under (served_with w' asked' waits') (is ∙ ap (λ (x : Worldly). with_state x.plain w) (sym is))
      (drained_machine program config w asked asked' replies replies' waits arrived u ea er
      ∙ ap (λ o. drained w.program w.config arrived o (at_drain w asked waits)) e
      ∙ drained_on w s t asked waits arrived come
      ∙ ap (λ (all : List Ask). served_with (with_state (with_left arrived.left t) w) all waits) (sym ea)
      ∙ ap (λ ws. served_with (with_state (with_left arrived.left t) w) asked' ws) (sym ew)
      ∙ ap (λ (x : Worldly). served_with x asked' waits') (sym is))

  pub drain_ends : (f : Flow) (s : State) → arrive_all arrived.works w.plain ≡ Some (after_is f s) → (f ≡ flow.On → ⊥) → w' ≡ with_state s w
      → IsUnderWay program config w' asked' replies' (at_close w' asked' waits')
  drain_ends f s e n is =
      drained_under (at_close w' asked' waits') (is ∙ ap (λ (x : Worldly). with_state x.plain w) (sym is))
      (drained_machine program config w asked asked' replies replies' waits arrived u ea er
      ∙ ap (λ o. drained w.program w.config arrived o (at_drain w asked waits)) e
      ∙ drained_off f w s asked waits arrived n
      ∙ ap (λ (all : List Ask). at_close (with_state s w) all waits) (sym ea)
      ∙ ap (λ ws. at_close (with_state s w) asked' ws) (sym ew)
      ∙ ap (λ (x : Worldly). at_close x asked' waits') (sym is))

  -- there was no memory for what the works that arrived did, or for the requests behind them
  pub drain_stops : (after : After) → arrive_all arrived.works w.plain ≡ Some after
      → (after.flow ≡ flow.On → (t : State) × (requests_served (served_by w.program.ask w.config.askers) arrived.requests after.state ≡ Some t))
      → WantsNext (run_of program config replies') asked' replies' waits'
  drain_stops after e comes =
      let m : Machine = drained w.program w.config arrived (Some after) (at_drain w asked waits)
      in wants_next program config m asked' asked' replies' replies' waits waits'
      (drained_machine program config w asked asked' replies replies' waits arrived u ea er
      ∙ ap (λ o. drained w.program w.config arrived o (at_drain w asked waits)) e)
      (open_more asked asked' replies replies' ask.Drain (Drained arrived) refl u.opened ea er)
      (subst (λ (all : List Ask). AsksNext m all waits) (sym ea)
      (drained_asks w asked waits arrived after comes)) refl refl ew

-- a drain was replied
pub drained_now : (replies replies' : List Reply) (arrived : Arrived) → replies' ≡ replies ++ Drained arrived ∷ [] → list_any is_drained replies' ≡ true
drained_now replies replies' arrived er =
    ap (list_any is_drained) er ∙ list_any-append is_drained replies (Drained arrived ∷ []) ∙ or_true (list_any is_drained replies)
  where
    or_true : (b : Bool) → (b || true) ≡ true
    or_true true = refl
    or_true false = refl

-- ---- the close
ended_by : (program : NumProgram) (config : Config) (m : Machine) (trace : List Entry) (asked : List Ask) (replies : List Reply) (waits : List ℕ)
    → machine_after program config replies ≡ m → m.place ≡ Ended → m.state.trace ≡ trace → m.asks ≡ asked → m.waits ≡ waits
    → HasEndedWith (run_of program config replies) trace asked waits
ended_by program config m trace asked replies waits e p t a w = record {
  ended = ap (λ (x : Machine). ran_to x.place) e ∙ ap ran_to p;
  trace_is = ap (λ (x : Machine). x.state.trace) e ∙ t;
  asks_are = ap (λ (x : Machine). x.asks) e ∙ a;
  waits_are = ap (λ (x : Machine). x.waits) e ∙ w;
}

pub closed : (program : NumProgram) (config : Config) (w : Worldly) (asked asked' : List Ask) (replies replies' : List Reply)
    (waits waits' : List ℕ) → IsOver program config w asked replies waits
    → asked' ≡ asked ++ ask.Close ∷ [] → replies' ≡ replies ++ Done ∷ [] → waits' ≡ waits
    → HasEndedWith (run_of program config replies') w.plain.trace asked' waits'
closed program config w asked asked' replies replies' waits waits' o ea er ew =
    ended_by program config (record (at_close w asked waits) { place = Ended }) w.plain.trace asked' replies' waits'
    (ap (machine_after program config) er
    ∙ fold-append (stepped program config) (begun program.main config) replies (Done ∷ [])
    ∙ ap (λ (m : Machine). stepped program config m Done) o.run.machine)
    refl refl (sym ea) (sym ew)

-- ---- the first drain
pub begun_at : (program : NumProgram) (config : Config) (w : Worldly) (asked : List Ask) (replies : List Reply) (waits : List ℕ) → ServesAskers program config.askers
    → w ≡ first_world program config → asked ≡ [] → replies ≡ [] → waits ≡ [] → IsInStep config.askers [] [] w.plain
    → IsAt program config w asked replies waits
begun_at program config w asked replies waits served is ea er ew h = record {
  run = record {
    free = ap (λ (x : Worldly). x.picked) is;
    program_is = ap (λ (x : Worldly). x.program) is;
    config_is = ap (λ (x : Worldly). x.config) is;
    machine =
        ap (machine_after program config) er
        ∙ ap (λ (x : Worldly). at_drain x [] []) (sym is)
        ∙ ap (λ (all : List Ask). at_drain w all []) (sym ea)
        ∙ ap (λ ws. at_drain w asked ws) (sym ew);
    opened = open_same [] asked [] replies (refl, refl) ea er;
    served = served;
    no_more =
        let all : left_after config.askers replies ≡ config.askers = ap (left_after config.askers) er
        in omega (arith, all);
  };
  in_step =
      subst (λ (all : List Ask). IsInStep config.askers all replies w.plain) (sym ea)
      (subst (λ (rs : List Reply). IsInStep config.askers [] rs w.plain) (sym er) h);
}
