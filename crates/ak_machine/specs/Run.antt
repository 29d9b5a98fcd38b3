-- The cycle machine over a list of replies. From Async's scheduler in outline; the rules of a cycle are own.
use Rattle.std.specs.Prelude.{ℕ, ◌+◌, nat_le, List, [], ◌∷◌, ◌++◌, not, Option, Some, None, length, fold, if◌then◌else◌}
use Rattle.ak_base.specs.Lists.{is_empty_list}
use Rattle.ak_labor.specs.declared.ask.Ask.{Ask}
use Rattle.ak_labor.specs.declared.ask.Ask.TheVariants as ask
use Rattle.ak_labor.specs.Arrived.{Arrived}
use Rattle.ak_labor.specs.Calls.{Reply, Drained, Granted, Done}
use Rattle.ak_frames.specs.declared.value.Value.{Value}
use Rattle.ak_frames.specs.declared.value.Value.TheVariants.{Num, Helper}
use Rattle.ak_frames.specs.declared.frame.Ret.TheVariants.{Drop}
use Rattle.ak_frames.specs.declared.frame.Task.{Task}
use Rattle.ak_trace.specs.declared.entry.Entry.{Entry}
use Rattle.ak_trace.specs.declared.entry.Entry.TheVariants as entry
use Rattle.ak_trace.specs.declared.entry.Ending.{Ending}
use Rattle.ak_trace.specs.declared.entry.Ending.TheVariants as ending
use Rattle.ak_program.specs.Programs.{NumProgram}
use Rattle.ak_rings.specs.declared.job.Job.{Job}
use Rattle.ak_rings.specs.Queues.{pick_of, picked_from}
use Rattle.ak_labor.specs.declared.config.Config.{Config}
use Rattle.ak_machine.specs.declared.flow.Flow.TheVariants as flow
use Rattle.ak_machine.specs.State.{State, initial_state}
use Rattle.ak_machine.specs.Number.{truth}
use Rattle.ak_machine.specs.Deferred.{noting, called}
use Rattle.ak_machine.specs.Errors.{After}
use Rattle.ak_machine.specs.Works.{with_helper}
use Rattle.ak_machine.specs.Job.{Rest, Progress, Over, Asking, run_lines, run_job}
use Rattle.ak_machine.specs.Cycle.{cycle_begun, has_more, is_stuck, arrive_all, at_root, served_by, requests_served, with_left, is_quiet}

-- what the machine waits for: the reply to a drain, to what a job asked, or to the close; or nothing any more, since it has
-- ended or was given a reply that does not fit
pub data Place : Type 0 where
  AtDrain : Place
  AtJob : Ask → Rest → Place
  AtClose : Place
  Ended : Place
  Wrong : Place

-- the state, how many jobs ran, the asks so far, the waits, each as the number of asks before it, and the place
pub record Machine : Type 0 where
  pub state : State
  pub ran : ℕ
  pub asks : List Ask
  pub waits : List ℕ
  pub place : Place

-- the machine asks, and waits for the reply at a place
abbrev pub asking : Ask → Place → State → Machine → Machine
asking a place s m = record m { state = s; asks = m.asks ++ a ∷ []; place = place }

-- before each pick the finished works and the new requests are fetched
abbrev pub draining : State → Machine → Machine
draining s m = asking ask.Drain AtDrain s m

-- every end is followed by the close
abbrev pub closing : State → Machine → Machine
closing s m = asking ask.Close AtClose s m

-- a reply does not fit
abbrev pub wrong : Machine → Machine
wrong m = record m { place = Wrong }

-- the run ends for a reason
abbrev pub ending_by : Ending → State → Machine → Machine
ending_by why s m = closing (noting (entry.End why) s) m

-- on with the cycle, or to the close where the run is over
abbrev pub went : After → Machine → Machine
went after m =
    elim after.flow [
      | flow.On ↦ draining after.state m
      | flow.Stopped ↦ closing after.state m
      | flow.Unhandled e ↦ closing after.state m
    ]

-- a job is over, or waits for what it asked
abbrev pub progressed : Progress → Machine → Machine
progressed (Over after) m = went after m
progressed (Asking a s rest) m = asking a (AtJob a rest) s m

-- the machine waits, and then the next cycle begins
abbrev pub waiting : State → Machine → Machine
waiting s m = draining (cycle_begun s) (record m { waits = m.waits ++ length m.asks ∷ [] })

-- no job can be picked: the next cycle begins where something is left; else the machine waits where a request may come; else the
-- run ends idle where no work is outstanding; else it ends stuck where no thread can do one; and else the machine waits
abbrev pub cycle_ended : Config → State → Machine → Machine
cycle_ended config s m =
    if has_more s then draining (cycle_begun s) m
    else if not (is_quiet s) then waiting s m
    else if is_empty_list s.works then ending_by ending.Idle s m
    else if is_stuck config.threads s then ending_by ending.Stuck s m
    else waiting s m

-- the next job runs, where there is one and fewer than the limit ran
abbrev pub picked : NumProgram → Config → Option (Job Task) → State → Machine → Machine
picked program config None s m = cycle_ended config s m
picked program config (Some job) s m =
    if nat_le config.jobs m.ran then ending_by ending.Jobs s m
    else progressed (run_job program.procs job (record s { queues = picked_from s.queues })) (record m { ran = m.ran + 1 })

-- all of a drain has arrived
abbrev pub served : NumProgram → Config → Option State → ℕ → Machine → Machine
served program config None left m = wrong m
served program config (Some s) left m = picked program config (pick_of s.queues) (with_left left s) m

-- the works of a drain have arrived, and its requests follow
abbrev pub drained : NumProgram → Config → Arrived → Option After → Machine → Machine
drained program config arrived None m = wrong m
drained program config arrived (Some after) m =
    elim after.flow [
      | flow.On ↦
          served program config (requests_served (served_by program.ask config.askers) arrived.requests after.state) arrived.left m
      | flow.Stopped ↦ closing after.state m
      | flow.Unhandled e ↦ closing after.state m
    ]

-- a job goes on with these values
abbrev pub gone_on : Rest → State → List Value → Machine → Machine
gone_on rest s vals m = progressed (run_lines rest.ctx rest.ret rest.lines s vals) m

-- the reply to what a job asked; a helper is bound beside whether it was granted
abbrev pub job_answered : Ask → Reply → Rest → Machine → Machine
job_answered (ask.Submit id work helper) Done rest m = gone_on rest m.state rest.vals m
job_answered (ask.HelperEnd h) Done rest m = gone_on rest m.state rest.vals m
job_answered (ask.Answer q v) Done rest m = gone_on rest m.state rest.vals m
job_answered (ask.HelperNew h) (Granted b) rest m =
    gone_on rest (with_helper b m.state) (rest.vals ++ Helper h ∷ Num (truth b) ∷ []) m
job_answered a reply rest m = wrong m

-- one reply at a place
abbrev pub stepped_at : NumProgram → Config → Place → Reply → Machine → Machine
stepped_at program config AtDrain (Drained arrived) m = drained program config arrived (arrive_all arrived.works m.state) m
stepped_at program config AtDrain (Granted b) m = wrong m
stepped_at program config AtDrain Done m = wrong m
stepped_at program config (AtJob a rest) reply m = job_answered a reply rest m
stepped_at program config AtClose Done m = record m { place = Ended }
stepped_at program config AtClose (Drained arrived) m = wrong m
stepped_at program config AtClose (Granted b) m = wrong m
stepped_at program config Ended reply m = wrong m
stepped_at program config Wrong reply m = wrong m

-- one reply makes the machine run to its next ask
abbrev pub stepped : NumProgram → Config → Machine → Reply → Machine
stepped program config m reply = stepped_at program config m.place reply m

-- the call of main is enqueued, the first cycle begins, and the first drain is asked
abbrev pub begun : ℕ → Config → Machine
begun main config =
    draining
    (cycle_begun (called at_root main [] Drop (initial_state config.limit config.askers)))
    (record { state = initial_state config.limit config.askers; ran = 0; asks = []; waits = []; place = AtDrain })

-- the machine after these replies
abbrev pub machine_after : NumProgram → Config → List Reply → Machine
machine_after program config replies = fold (stepped program config) (begun program.main config) replies

-- how far a run came: it has ended, it wants the reply to an ask, or a reply did not fit
pub data Ran : Type 0 where
  HasEnded : Ran
  Wants : Ask → Ran
  IsWrong : Ran

-- how far a machine at a place came
abbrev pub ran_to : Place → Ran
ran_to AtDrain = Wants ask.Drain
ran_to (AtJob a rest) = Wants a
ran_to AtClose = Wants ask.Close
ran_to Ended = HasEnded
ran_to Wrong = IsWrong

-- the trace, the asks, the waits, each as the number of asks before it, and how far it came
pub record Run : Type 0 where
  pub trace : List Entry
  pub asks : List Ask
  pub waits : List ℕ
  pub outcome : Ran

-- the run of a program on a list of replies
abbrev pub run_of : NumProgram → Config → List Reply → Run
run_of program config replies =
    let m : Machine = machine_after program config replies
    in record { trace = m.state.trace; asks = m.asks; waits = m.waits; outcome = ran_to m.place }
