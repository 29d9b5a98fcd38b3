-- What the machine does once all of a drain has arrived: the next job, the end of a cycle, or the end of the run.
use Rattle.std.proofs.Common.{◌≡◌, ◌⊎◌, ℕ, ◌+◌, inl, inr, List, [], ◌∷◌, ◌++◌, length, Bool, true, false, not, cond, refl, ap, sym, subst, ◌∙◌}
use Rattle.std.specs.Prelude.{Option, Some, None, nat_le}
use Rattle.std.proofs.lemmas.List.{reverse-append}
use Rattle.ak_base.specs.Lists.{is_empty_list}
use Rattle.ak_labor.specs.declared.ask.Ask.{Ask}
use Rattle.ak_labor.specs.declared.ask.Ask.TheVariants as ask
use Rattle.ak_labor.specs.declared.config.Config.{Config}
use Rattle.ak_frames.specs.declared.frame.Task.{Task}
use Rattle.ak_rings.specs.declared.job.Job.{Job}
use Rattle.ak_rings.specs.Queues.{pick_of, picked_from, has_pick, is_some_job}
use Rattle.ak_trace.specs.declared.entry.Entry.{Entry}
use Rattle.ak_trace.specs.declared.entry.Entry.TheVariants as entry
use Rattle.ak_trace.specs.declared.entry.Ending.{Ending}
use Rattle.ak_trace.specs.declared.entry.Ending.TheVariants as ending
use Rattle.ak_program.specs.Programs.{NumProgram}
use Rattle.ak_machine.specs.declared.flow.Flow.{Flow}
use Rattle.ak_machine.specs.declared.flow.Flow.TheVariants as flow
use Rattle.ak_machine.specs.State.{State}
use Rattle.ak_machine.specs.Deferred.{noting}
use Rattle.ak_machine.specs.Cycle.{cycle_begun, has_more, is_quiet, is_stuck}
use Rattle.ak_machine.specs.Errors.{After}
use Rattle.ak_machine.specs.Job.{Progress, Over, Asking, run_job}
use Rattle.ak_machine.specs.Run.{Machine, AtDrain, Wants, ran_to, picked, progressed, went, cycle_ended, ending_by, draining, waiting}
use Rattle.ak_machine.specs.Status.{Well, AtJobLimit, Stuck, ByError, status_back, status_of}
use Rattle.ak_state.specs.Seen.{without_pick}
use Rattle.ak_state.specs.Errors.{after_is, Ends}
use Rattle.ak_exec.specs.Worlds.{Worldly, with_state, with_pick, ran_with}
use Rattle.ak_cycle.specs.Runs.{EndsIdle, WaitsAre}
use Rattle.ak_cycle.specs.Turns.{at_drain, at_close, served_with, IsFinished, ending_of}

-- ---- ends
pub idle_ends : (t : List Entry) → status_of (t ++ entry.End ending.Idle ∷ []) ≡ Well
idle_ends t = ap status_back (reverse-append t (entry.End ending.Idle ∷ []))

jobs_end : (t : List Entry) → status_of (t ++ entry.End ending.Jobs ∷ []) ≡ AtJobLimit
jobs_end t = ap status_back (reverse-append t (entry.End ending.Jobs ∷ []))

stuck_ends : (t : List Entry) → status_of (t ++ entry.End ending.Stuck ∷ []) ≡ Stuck
stuck_ends t = ap status_back (reverse-append t (entry.End ending.Stuck ∷ []))

stopped_ends : (t : List Entry) → status_of (t ++ entry.End ending.Stopped ∷ []) ≡ Well
stopped_ends t = ap status_back (reverse-append t (entry.End ending.Stopped ∷ []))

pub idle_finished : (t : List Entry) → IsFinished (status_of (t ++ entry.End ending.Idle ∷ []))
idle_finished t = subst IsFinished (sym (idle_ends t)) tt

pub jobs_finished : (t : List Entry) → IsFinished (status_of (t ++ entry.End ending.Jobs ∷ []))
jobs_finished t = subst IsFinished (sym (jobs_end t)) tt

pub stuck_finished : (t : List Entry) → IsFinished (status_of (t ++ entry.End ending.Stuck ∷ []))
stuck_finished t = subst IsFinished (sym (stuck_ends t)) tt

pub flow_finished : (f : Flow) (t : List Entry) → (f ≡ flow.On → ⊥) → Ends f t → IsFinished (status_of t)
flow_finished flow.On t n e = absurd (n refl)
flow_finished flow.Stopped t n e = subst (λ (u : List Entry). IsFinished (status_of u)) (sym e.1) (subst IsFinished (sym (stopped_ends e.0)) tt)
flow_finished (flow.Unhandled num) t n e = subst IsFinished (sym e) tt

-- only one entry is the last
last_is : (t u : List Entry) (x y : Entry) → t ++ x ∷ [] ≡ u ++ y ∷ [] → x ≡ y
last_is [] [] x y e = cc
last_is [] (z ∷ []) x y e = absurd (cc)
last_is [] (z ∷ w ∷ u) x y e = absurd (cc)
last_is (z ∷ []) [] x y e = absurd (cc)
last_is (z ∷ w ∷ t) [] x y e = absurd (cc)
last_is (z ∷ t) (w ∷ u) x y e = let rest : t ++ x ∷ [] ≡ u ++ y ∷ [] = cc in last_is t u x y rest

pub not_idle : (why : Ending) (t : List Entry) → (why ≡ ending.Idle → ⊥) → EndsIdle (t ++ entry.End why ∷ []) → ⊥
not_idle why t n h =
    let same : entry.End why ≡ entry.End ending.Idle = last_is t h.0 (entry.End why) (entry.End ending.Idle) h.1
    in n (cc)

pub flow_not_idle : (f : Flow) (t : List Entry) → (f ≡ flow.On → ⊥) → Ends f t → EndsIdle t → ⊥
flow_not_idle flow.On t n e h = n refl
flow_not_idle flow.Stopped t n e h =
    not_idle ending.Stopped e.0 (λ k. absurd (cc)) (subst EndsIdle e.1 h)
flow_not_idle (flow.Unhandled num) t n e h =
    let well : status_of t ≡ Well = ap status_of h.1 ∙ idle_ends h.0
    in let both : Well ≡ ByError num = sym well ∙ e
    in absurd (cc)

-- ---- the state before a pick shows nowhere
went_alike : (after : After) (f : Flow) (s t : State) (ran : ℕ) (asked : List Ask) (waits : List ℕ) → after.flow ≡ f
    → went (record after { flow = f }) (record { state = s; ran = ran; asks = asked; waits = waits; place = AtDrain })
    ≡ went (record after { flow = f }) (record { state = t; ran = ran; asks = asked; waits = waits; place = AtDrain })
went_alike after flow.On s t ran asked waits e = refl
went_alike after flow.Stopped s t ran asked waits e = refl
went_alike after (flow.Unhandled num) s t ran asked waits e = refl

progressed_alike : (p : Progress) (s t : State) (ran : ℕ) (asked : List Ask) (waits : List ℕ)
    → progressed p (record { state = s; ran = ran; asks = asked; waits = waits; place = AtDrain })
    ≡ progressed p (record { state = t; ran = ran; asks = asked; waits = waits; place = AtDrain })
progressed_alike (Over after) s t ran asked waits = went_alike after after.flow s t ran asked waits refl
progressed_alike (Asking a u rest) s t ran asked waits = refl

pub picked_alike : (w : Worldly) (o : Option (Job Task)) (s t u : State) (asked : List Ask) (waits : List ℕ)
    → picked w.program w.config o u (record { state = s; ran = w.ran; asks = asked; waits = waits; place = AtDrain })
    ≡ picked w.program w.config o u (record { state = t; ran = w.ran; asks = asked; waits = waits; place = AtDrain })
picked_alike w None s t u asked waits = refl
picked_alike w (Some job) s t u asked waits =
    ap (λ (m : Machine). cond (nat_le w.config.jobs w.ran)
    (ending_by ending.Jobs u (record { state = s; ran = w.ran; asks = asked; waits = waits; place = AtDrain })) m)
    (progressed_alike (run_job w.program.procs job (record u { queues = picked_from u.queues })) s t (w.ran + 1) asked waits)

-- ---- a job runs
pub there_is : (o : Option (Job Task)) → is_some_job o ≡ true → (job : Job Task) × (o ≡ Some job)
there_is (Some job) e = (job, refl)
there_is None e = absurd (cc)

-- the machine with the job that a world picked
abbrev pub with_job_of : Worldly → List ℕ → Machine
with_job_of w waits = record { state = w.plain; ran = w.ran; asks = []; waits = waits; place = AtDrain }

pub job_begins : (w : Worldly) (job : Job Task) (asked : List Ask) (waits : List ℕ) → pick_of w.plain.queues ≡ Some job
    → nat_le w.config.jobs w.ran ≡ false
    → served_with w asked waits ≡ progressed (run_job w.program.procs job (without_pick w.plain)) (record (with_job_of (with_pick w) waits) { asks = asked })
job_begins w job asked waits e unspent =
    let m : Machine = record { state = w.plain; ran = w.ran; asks = asked; waits = waits; place = AtDrain }
    in ap (λ o. picked w.program w.config o w.plain m) e
    ∙ ap (λ b. cond b (ending_by ending.Jobs w.plain m) (progressed (run_job w.program.procs job (without_pick w.plain)) (record m { ran = w.ran + 1 })))
    unspent
    ∙ progressed_alike (run_job w.program.procs job (without_pick w.plain)) w.plain (without_pick w.plain) (w.ran + 1) asked waits
    ∙ ap (λ n. progressed (run_job w.program.procs job (without_pick w.plain))
    (record { state = without_pick w.plain; ran = n; asks = asked; waits = waits; place = AtDrain })) (sym (ap (λ o. ran_with o w.ran) e))

pub went_on : (w : Worldly) (s : State) (asked : List Ask) (waits : List ℕ)
    → went (after_is flow.On s) (record (with_job_of w waits) { asks = asked }) ≡ at_drain (record w { plain = s; picked = None }) asked waits
went_on w s asked waits = refl

pub went_off : (f : Flow) (w : Worldly) (s : State) (asked : List Ask) (waits : List ℕ) → (f ≡ flow.On → ⊥)
    → went (after_is f s) (record (with_job_of w waits) { asks = asked }) ≡ at_close (record w { plain = s; picked = None }) asked waits
went_off flow.On w s asked waits n = absurd (n refl)
went_off flow.Stopped w s asked waits n = refl
went_off (flow.Unhandled num) w s asked waits n = refl

-- ---- the limit of jobs
limit_at : (w : Worldly) (o : Option (Job Task)) (asked : List Ask) (waits : List ℕ) → is_some_job o ≡ true → nat_le w.config.jobs w.ran ≡ true
    → picked w.program w.config o w.plain (record { state = w.plain; ran = w.ran; asks = asked; waits = waits; place = AtDrain }) ≡ at_close
    (with_state (noting (entry.End ending.Jobs) w.plain) w) asked waits
limit_at w (Some job) asked waits e spent =
    let m : Machine = record { state = w.plain; ran = w.ran; asks = asked; waits = waits; place = AtDrain }
    in ap (λ b. cond b (ending_by ending.Jobs w.plain m)
    (progressed (run_job w.program.procs job (without_pick w.plain)) (record m { ran = w.ran + 1 }))) spent
limit_at w None asked waits e spent = absurd (cc)

pub limit_closes : (w : Worldly) (asked : List Ask) (waits : List ℕ) → has_pick w.plain.queues ≡ true → nat_le w.config.jobs w.ran ≡ true
    → served_with w asked waits ≡ at_close (with_state (noting (entry.End ending.Jobs) w.plain) w) asked waits
limit_closes w asked waits e spent = limit_at w (pick_of w.plain.queues) asked waits e spent

-- ---- a cycle ends
ended_at : (w : Worldly) (o : Option (Job Task)) (asked : List Ask) (waits : List ℕ) → is_some_job o ≡ false
    → picked w.program w.config o w.plain (record { state = w.plain; ran = w.ran; asks = asked; waits = waits; place = AtDrain }) ≡ cycle_ended w.config
    w.plain (record { state = w.plain; ran = w.ran; asks = asked; waits = waits; place = AtDrain })
ended_at w None asked waits e = refl
ended_at w (Some job) asked waits e = absurd (cc)

-- what comes of a cycle's end where nothing is left to do
abbrev comes_of : Option Ending → State → Machine → Machine
comes_of None s m = waiting s m
comes_of (Some why) s m = ending_by why s m

ends_by : (s : State) (m : Machine) (quiet none stuck : Bool)
    → cond (not quiet) (waiting s m) (cond none (ending_by ending.Idle s m) (cond stuck (ending_by ending.Stuck s m) (waiting s m)))
    ≡ comes_of (cond (not quiet) None (cond none (Some ending.Idle) (cond stuck (Some ending.Stuck) None))) s m
ends_by s m false none stuck = refl
ends_by s m true true stuck = refl
ends_by s m true false true = refl
ends_by s m true false false = refl

-- by what is left to do, and by why the run ends
ends_at : (config : Config) (s : State) (m : Machine) (more : Bool) (o : Option Ending) → has_more s ≡ more → ending_of config.threads s ≡ o
    → cycle_ended config s m ≡ cond more (draining (cycle_begun s) m) (comes_of o s m)
ends_at config s m more o e f =
    ap (λ b. cond b (draining (cycle_begun s) m)
    (cond (not (is_quiet s)) (waiting s m)
    (cond (is_empty_list s.works) (ending_by ending.Idle s m) (cond (is_stuck config.threads s) (ending_by ending.Stuck s m) (waiting s m))))) e
    ∙ ap (cond more (draining (cycle_begun s) m)) (ends_by s m (is_quiet s) (is_empty_list s.works) (is_stuck config.threads s))
    ∙ ap (λ x. cond more (draining (cycle_begun s) m) (comes_of x s m)) f

-- the machine at the end of the cycle
abbrev at_end : Worldly → List Ask → List ℕ → Machine
at_end w asked waits = record { state = w.plain; ran = w.ran; asks = asked; waits = waits; place = AtDrain }

pub cycle_goes : (w : Worldly) (asked : List Ask) (waits : List ℕ) → has_pick w.plain.queues ≡ false → has_more w.plain ≡ true
    → served_with w asked waits ≡ at_drain (with_state (cycle_begun w.plain) w) asked waits
cycle_goes w asked waits e more =
    ended_at w (pick_of w.plain.queues) asked waits e
    ∙ ends_at w.config w.plain (at_end w asked waits) true (ending_of w.config.threads w.plain) more refl

pub end_closes : (w : Worldly) (why : Ending) (asked : List Ask) (waits : List ℕ) → has_pick w.plain.queues ≡ false → has_more w.plain ≡ false
    → ending_of w.config.threads w.plain ≡ Some why
    → served_with w asked waits ≡ at_close (with_state (noting (entry.End why) w.plain) w) asked waits
end_closes w why asked waits e more ends =
    ended_at w (pick_of w.plain.queues) asked waits e ∙ ends_at w.config w.plain (at_end w asked waits) false (Some why) more ends

pub wait_goes : (w : Worldly) (asked : List Ask) (waits : List ℕ) → has_pick w.plain.queues ≡ false → has_more w.plain ≡ false
    → ending_of w.config.threads w.plain ≡ None
    → served_with w asked waits ≡ at_drain (with_state (cycle_begun w.plain) w) asked (waits ++ length asked ∷ [])
wait_goes w asked waits e more goes =
    ended_at w (pick_of w.plain.queues) asked waits e ∙ ends_at w.config w.plain (at_end w asked waits) false None more goes

-- a run ends idle where no work is out, or stuck
pub ends_well : (threads : ℕ) (s : State) (why : Ending) → ending_of threads s ≡ Some why
    → ((why ≡ ending.Idle) × (is_empty_list s.works ≡ true)) ⊎ (why ≡ ending.Stuck)
ends_well threads s why e = by (is_quiet s) (is_empty_list s.works) (is_stuck threads s) refl e
  where
    by : (quiet none stuck : Bool) → is_empty_list s.works ≡ none
        → cond (not quiet) None (cond none (Some ending.Idle) (cond stuck (Some ending.Stuck) None)) ≡ Some why
        → ((why ≡ ending.Idle) × (is_empty_list s.works ≡ true)) ⊎ (why ≡ ending.Stuck)
    by false none stuck h k = absurd (cc)
    by true true stuck h k = let same : why ≡ ending.Idle = cc in inl (same, h)
    by true false true h k = let same : why ≡ ending.Stuck = cc in inr same
    by true false false h k = absurd (cc)

-- and in either case the outside is quiet
pub ends_quiet : (threads : ℕ) (s : State) (why : Ending) → ending_of threads s ≡ Some why → is_quiet s ≡ true
ends_quiet threads s why e = by (is_quiet s) e
  where
    by : (quiet : Bool) → cond (not quiet) None (cond (is_empty_list s.works) (Some ending.Idle) (cond (is_stuck threads s) (Some ending.Stuck) None)) ≡ Some why
        → quiet ≡ true
    by true k = refl
    by false k = absurd (cc)

-- and goes on where a request or a work may come
pub goes_well : (threads : ℕ) (s : State) → ending_of threads s ≡ None
    → (is_quiet s ≡ false) ⊎ ((is_empty_list s.works ≡ false) × (is_stuck threads s ≡ false))
goes_well threads s e = by (is_quiet s) (is_empty_list s.works) (is_stuck threads s) refl refl refl e
  where
    by : (quiet none stuck : Bool) → is_quiet s ≡ quiet → is_empty_list s.works ≡ none → is_stuck threads s ≡ stuck
        → ◌≡◌ {A = Option Ending} (cond (not quiet) None (cond none (Some ending.Idle) (cond stuck (Some ending.Stuck) None))) None
        → (is_quiet s ≡ false) ⊎ ((is_empty_list s.works ≡ false) × (is_stuck threads s ≡ false))
    by false none stuck q n t k = inl q
    by true true stuck q n t k = absurd (cc)
    by true false true q n t k = absurd (cc)
    by true false false q n t k = inr (n, t)

-- ---- what is asked next
-- the machine made one call more than these and wants its reply; it waited as often, or once more
pub record AsksNext (m : Machine) (asked : List Ask) (waits : List ℕ) : Type 0 where
  pub next : Ask
  pub wants : ran_to m.place ≡ Wants next
  pub asks_are : m.asks ≡ asked ++ next ∷ []
  pub waits_are : WaitsAre m.waits waits (length asked)

either_asks : (b : Bool) (m n : Machine) (asked : List Ask) (waits : List ℕ) → AsksNext m asked waits → AsksNext n asked waits
    → AsksNext (cond b m n) asked waits
either_asks true m n asked waits h k = h
either_asks false m n asked waits h k = k

end_asks : (why : Ending) (s : State) (m : Machine) → AsksNext (ending_by why s m) m.asks m.waits
end_asks why s m = record { next = ask.Close; wants = refl; asks_are = refl; waits_are = inl refl }

drain_asks : (s : State) (m : Machine) → AsksNext (draining s m) m.asks m.waits
drain_asks s m = record { next = ask.Drain; wants = refl; asks_are = refl; waits_are = inl refl }

wait_asks : (s : State) (m : Machine) → AsksNext (waiting s m) m.asks m.waits
wait_asks s m = record { next = ask.Drain; wants = refl; asks_are = refl; waits_are = inr refl }

went_asks : (f : Flow) (s : State) (m : Machine) → AsksNext (went (after_is f s) m) m.asks m.waits
went_asks flow.On s m = record { next = ask.Drain; wants = refl; asks_are = refl; waits_are = inl refl }
went_asks flow.Stopped s m = record { next = ask.Close; wants = refl; asks_are = refl; waits_are = inl refl }
went_asks (flow.Unhandled num) s m = record { next = ask.Close; wants = refl; asks_are = refl; waits_are = inl refl }

pub progress_asks : (p : Progress) (m : Machine) → AsksNext (progressed p m) m.asks m.waits
progress_asks (Over after) m = went_asks after.flow after.state m
progress_asks (Asking a s rest) m = record { next = a; wants = refl; asks_are = refl; waits_are = inl refl }

cycle_asks : (config : Config) (s : State) (m : Machine) → AsksNext (cycle_ended config s m) m.asks m.waits
cycle_asks config s m =
    either_asks (has_more s) _ _ m.asks m.waits (drain_asks (cycle_begun s) m)
    (either_asks (not (is_quiet s)) _ _ m.asks m.waits (wait_asks s m)
    (either_asks (is_empty_list s.works) _ _ m.asks m.waits (end_asks ending.Idle s m)
    (either_asks (is_stuck config.threads s) _ _ m.asks m.waits (end_asks ending.Stuck s m) (wait_asks s m))))

picked_asks : (program : NumProgram) (config : Config) (o : Option (Job Task)) (s : State) (m : Machine) → AsksNext (picked program config o s m) m.asks m.waits
picked_asks program config None s m = cycle_asks config s m
picked_asks program config (Some job) s m =
    either_asks (nat_le config.jobs m.ran) _ _ m.asks m.waits (end_asks ending.Jobs s m)
    (progress_asks (run_job program.procs job (record s { queues = picked_from s.queues })) (record m { ran = m.ran + 1 }))

pub served_asks : (w : Worldly) (asked : List Ask) (waits : List ℕ) → AsksNext (served_with w asked waits) asked waits
served_asks w asked waits =
    picked_asks w.program w.config (pick_of w.plain.queues) w.plain (record { state = w.plain; ran = w.ran; asks = asked; waits = waits; place = AtDrain })

pub at_drain_asks : (w : Worldly) (asked : List Ask) (waits : List ℕ) → AsksNext (at_drain w asked waits) asked waits
at_drain_asks w asked waits = record { next = ask.Drain; wants = refl; asks_are = refl; waits_are = inl refl }

pub at_close_asks : (w : Worldly) (asked : List Ask) (waits : List ℕ) → AsksNext (at_close w asked waits) asked waits
at_close_asks w asked waits = record { next = ask.Close; wants = refl; asks_are = refl; waits_are = inl refl }
