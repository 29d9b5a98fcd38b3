-- A run under way over a port, step by step.
use Rattle.std.specs.Prelude.{ℕ, ℤ, ◌+◌, ◌-◌, ◌*◌, ◌<◌, ◌≤◌, ◌≡◌, ◌⊎◌, List, [], ◌∷◌, ◌++◌, length, drop, map, count_by, Bool, true, false, not, Option, Some, None, IsSome, if◌then◌else◌}
use Rattle.std.specs.List.{list_any, range_with_len}
use Rattle.ak_base.specs.Lists.{is_empty_list}
use Rattle.ak_labor.specs.declared.ask.Ask.{Ask}
use Rattle.ak_labor.specs.declared.ask.Ask.TheVariants as ask
use Rattle.ak_labor.specs.Calls.{Reply, IsOpen}
use Rattle.ak_labor.specs.Waits.{outstanding, unanswered, left_after, is_drain, is_drained, last_wait, HasWaited}
use Rattle.ak_rings.specs.Queues.{pick_of, has_pick}
use Rattle.ak_labor.specs.declared.config.Config.{Config}
use Rattle.ak_labor.specs.declared.work.Outcome.{Outcome}
use Rattle.ak_machine.specs.declared.flow.Flow.{Flow}
use Rattle.ak_machine.specs.declared.flow.Flow.TheVariants as flow
use Rattle.ak_machine.specs.State.{State}
use Rattle.ak_machine.specs.Errors.{After}
use Rattle.ak_machine.specs.Cycle.{cycle_begun, has_more, is_quiet, is_stuck, arrive_all}
use Rattle.ak_machine.specs.Works.{is_unanswered}
use Rattle.ak_trace.specs.declared.entry.Ending.{Ending}
use Rattle.ak_trace.specs.declared.entry.Ending.TheVariants as ending
use Rattle.ak_state.specs.Errors.{after_is}
use Rattle.ak_machine.specs.Run.{Machine, AtDrain, AtClose, picked, machine_after}
use Rattle.ak_machine.specs.Status.{Stat, Well, ByError, AtJobLimit, Stuck, Unfinished, status_of}
use Rattle.ak_program.specs.Programs.{NumProgram}
use Rattle.ak_ledger.specs.Outside.{IsInStep}
use Rattle.ak_exec.specs.Worlds.{Worldly, ServesAskers, first_state}
use Rattle.ak_cycle.specs.Runs.{EndsIdle, IsQuiet}

-- a world whose first cycle has begun
abbrev pub first_world : NumProgram → Config → Worldly
first_world program config =
    record { program = program; config = config; plain = cycle_begun (first_state program config); picked = None; ran = 0 }

-- the machine that waits for the reply to a drain, where these were asked before, with these waits
abbrev pub at_drain : Worldly → List Ask → List ℕ → Machine
at_drain w asked waits = record { state = w.plain; ran = w.ran; asks = asked ++ ask.Drain ∷ []; waits = waits; place = AtDrain }

-- the machine that waits for the reply to the close
abbrev pub at_close : Worldly → List Ask → List ℕ → Machine
at_close w asked waits = record { state = w.plain; ran = w.ran; asks = asked ++ ask.Close ∷ []; waits = waits; place = AtClose }

-- the machine once all of a drain has arrived
abbrev pub served_with : Worldly → List Ask → List ℕ → Machine
served_with w asked waits =
    picked w.program w.config (pick_of w.plain.queues) w.plain
    (record { state = w.plain; ran = w.ran; asks = asked; waits = waits; place = AtDrain })

-- the trace has its end
abbrev pub IsFinished : Stat → Type 0
IsFinished Well = Unit {0}
IsFinished (ByError num) = Unit {0}
IsFinished AtJobLimit = Unit {0}
IsFinished Stuck = Unit {0}
IsFinished Unfinished = ⊥

-- a run under way: the machine on the port's replies is this one; the calls of the port may go on; a procedure serves the askers,
-- and no more of them are left than there were
pub record IsUnderWay (program : NumProgram) (config : Config) (w : Worldly) (asked : List Ask) (replies : List Reply) (m : Machine) : Type 0 where
  pub free : w.picked ≡ None
  pub program_is : w.program ≡ program
  pub config_is : w.config ≡ config
  pub machine : machine_after program config replies ≡ m
  pub opened : IsOpen asked replies
  pub served : ServesAskers program config.askers
  pub no_more : left_after config.askers replies ≤ config.askers

-- the machine drains next, and the state is in step with the calls
pub record IsAt (program : NumProgram) (config : Config) (w : Worldly) (asked : List Ask) (replies : List Reply) (waits : List ℕ) : Type 0 where
  pub run : IsUnderWay program config w asked replies (at_drain w asked waits)
  pub in_step : IsInStep config.askers asked replies w.plain

-- all of a drain has arrived, and a job is picked next; each asker that is left waits for one answer at the most
pub record IsServed (program : NumProgram) (config : Config) (w : Worldly) (asked : List Ask) (replies : List Reply) (waits : List ℕ) : Type 0 where
  pub run : IsUnderWay program config w asked replies (served_with w asked waits)
  pub in_step : IsInStep config.askers asked replies w.plain
  pub drained : list_any is_drained replies ≡ true
  pub one_each : length (unanswered asked replies) ≤ left_after config.askers replies

-- the run has its end, and is to be closed; where it ends idle, a reply has brought each work that was handed in, and the
-- outside is quiet
pub record IsOver (program : NumProgram) (config : Config) (w : Worldly) (asked : List Ask) (replies : List Reply) (waits : List ℕ) : Type 0 where
  pub run : IsUnderWay program config w asked replies (at_close w asked waits)
  pub finished : IsFinished (status_of w.plain.trace)
  pub idle : EndsIdle w.plain.trace → outstanding asked replies ≡ []
  pub quiet : EndsIdle w.plain.trace → IsQuiet config.askers asked replies

-- the next of these, by whether the run goes on
abbrev pub GoesOn : Bool → NumProgram → Config → Worldly → List Ask → List Reply → List ℕ → Type 0
GoesOn true program config w asked replies waits = IsAt program config w asked replies waits
GoesOn false program config w asked replies waits = IsOver program config w asked replies waits

abbrev pub IsBrought : Bool → NumProgram → Config → Worldly → List Ask → List Reply → List ℕ → Type 0
IsBrought true program config w asked replies waits = IsServed program config w asked replies waits
IsBrought false program config w asked replies waits = IsOver program config w asked replies waits

-- ---- how long it may go on
-- the jobs that may still run
abbrev pub jobs_left : Worldly → ℕ
jobs_left w = w.config.jobs - w.ran

abbrev pub left_where : Bool → Worldly → ℕ
left_where on w = if on then 1 + jobs_left w else 0

-- whether the scheduler has waited and has not drained since
abbrev pub undrained_from : List Ask → Option ℕ → Bool
undrained_from asked None = false
undrained_from asked (Some n) = not (list_any is_drain (drop n asked))

abbrev pub has_waited : List Ask → List ℕ → Bool
has_waited asked waits = undrained_from asked (last_wait waits)

-- how many drains may follow without a job, where nothing comes with them
abbrev pub drains_left : Worldly → Bool → ℕ
drains_left w waited =
    let last : ℕ = if waited then 1 else 2
    in let more : ℕ = if has_more w.plain then 3 else last
    in if has_pick w.plain.queues then 0 else more

-- how many askers are left, and how many of them have no request
abbrev pub asks_left : State → ℕ
asks_left s = s.left + (s.left - count_by is_unanswered s.requests)

-- how much may come: works, requests, and the ends of askers
abbrev pub may_come : State → ℕ
may_come s = length s.works + asks_left s

-- the same where these may come, and with so many turns of the port
abbrev pub rounds_left : Worldly → Bool → ℕ → ℕ
rounds_left w waited turns = 4 * (may_come w.plain + turns) + drains_left w waited

-- a drain brought something, or nothing; in the second case a port that was waited for had a turn less
abbrev pub HasGained : Worldly → Worldly → List Ask → List ℕ → ℕ → ℕ → Type 0
HasGained old new asked waits turns turns' =
    (may_come new.plain < may_come old.plain)
    ⊎ ((new ≡ old) × (HasWaited asked waits → turns' < turns))

-- ---- requests
-- where requests come, a procedure serves them
abbrev pub MayBeServed : Option ℕ → List (ℕ × ℤ) → Type 0
MayBeServed ask [] = Unit {0}
MayBeServed ask (request ∷ requests) = IsSome ask

-- they have the numbers from here on
abbrev pub AreNext : List (ℕ × ℤ) → State → Type 0
AreNext requests s = map (λ request. request.0) requests ≡ range_with_len (length s.requests) (length requests)

-- ---- the end of a run, where no job can be picked and nothing is left to do
-- why it ends: none where a request or a work may come
abbrev pub ending_of : ℕ → State → Option Ending
ending_of threads s =
    if not (is_quiet s) then None
    else if is_empty_list s.works then Some ending.Idle
    else if is_stuck threads s then Some ending.Stuck
    else None

-- the rest of a drain, behind a work with this flow
abbrev pub arrived_to : Flow → List (ℕ × Outcome) → State → Option After
arrived_to flow.On pairs s = arrive_all pairs s
arrived_to flow.Stopped pairs s = Some (after_is flow.Stopped s)
arrived_to (flow.Unhandled num) pairs s = Some (after_is (flow.Unhandled num) s)
