-- The statements that a run executes, in order, each with the states before and after it. They follow the machine's own definitions
-- of a job, of a cycle and of a reply. Own.
use Rattle.std.specs.Prelude.{ℕ, ℤ, List, [], ◌∷◌, ◌++◌, nat_le, Option, Some, None, if◌then◌else◌}
use Rattle.ak_base.specs.declared.number.Ctx.{Ctx}
use Rattle.ak_labor.specs.declared.ask.Ask.{Ask}
use Rattle.ak_labor.specs.declared.ask.Ask.TheVariants as ask
use Rattle.ak_labor.specs.declared.config.Config.{Config}
use Rattle.ak_labor.specs.Arrived.{Arrived}
use Rattle.ak_labor.specs.Calls.{Reply, Drained, Granted, Done}
use Rattle.ak_frames.specs.declared.value.Value.{Value}
use Rattle.ak_frames.specs.declared.value.Value.TheVariants.{Num, Helper}
use Rattle.ak_frames.specs.declared.frame.Frame.{Frame}
use Rattle.ak_frames.specs.declared.frame.Frame.TheVariants.{Call, OnValue, AllPart, ChoicePart}
use Rattle.ak_frames.specs.declared.frame.Task.{Task}
use Rattle.ak_trace.specs.declared.entry.Entry.TheVariants as entry
use Rattle.ak_program.specs.declared.statement.NumStmt.{NumStmt}
use Rattle.ak_program.specs.declared.program.NumProc.{NumProc}
use Rattle.ak_program.specs.declared.program.NumStatement.{NumStatement}
use Rattle.ak_program.specs.Programs.{NumProgram}
use Rattle.ak_rings.specs.declared.job.Job.{Job}
use Rattle.ak_rings.specs.Queues.{pick_of, picked_from}
use Rattle.ak_machine.specs.declared.flow.Flow.TheVariants as flow
use Rattle.ak_machine.specs.declared.held.Callback.{Callback}
use Rattle.ak_machine.specs.declared.held.Purpose.{Purpose}
use Rattle.ak_machine.specs.declared.held.Purpose.TheVariants.{ForAll, ForChoice}
use Rattle.ak_machine.specs.State.{State}
use Rattle.ak_machine.specs.Number.{truth}
use Rattle.ak_machine.specs.Deferred.{noting}
use Rattle.ak_machine.specs.Groups.{group_at, purpose_at, part_at, part_set, all_call, choice_decided, first_call}
use Rattle.ak_machine.specs.Errors.{After}
use Rattle.ak_machine.specs.Works.{with_helper}
use Rattle.ak_machine.specs.Effect.{Effect, Goes, Raises, Returns, Stops, Ends, Asks, holds}
use Rattle.ak_machine.specs.Statement.{effect_of, line_effect}
use Rattle.ak_machine.specs.Job.{Rest, lines_of, value_or_zero}
use Rattle.ak_machine.specs.Cycle.{arrive_all, served_by, requests_served, with_left}
use Rattle.ak_machine.specs.Run.{Place, AtDrain, AtJob, Machine, stepped, begun}

-- a statement that is executed, with the values of its job, the state before it and the state that it leaves
pub record Executed : Type 0 where
  pub stmt : NumStmt
  pub vals : List Value
  pub state : State
  pub after : State

-- the state that an effect leaves
abbrev pub left_by : State → Effect → State
left_by s (Goes s' vals) = s'
left_by s (Raises e) = s
left_by s (Returns v) = s
left_by s Stops = s
left_by s (Ends after) = after.state
left_by s (Asks a s' vals) = s'

-- a statement in a context
abbrev pub statement_executed : Ctx → NumStmt → State → List Value → Executed
statement_executed ctx st s vals =
    record { stmt = st; vals = vals; state = s; after = left_by s (effect_of ctx st s vals) }

-- of a line, where its prefix lets it run
abbrev pub line_executed : Ctx → NumStatement → State → List Value → List Executed
line_executed ctx line s vals = if holds line.prefix vals then statement_executed ctx line.stmt s vals ∷ [] else []

-- of the lines of a procedure from here on, to the first after which the job does not go on at once
abbrev pub lines_executed : Ctx → List NumStatement → State → List Value → List Executed
lines_executed ctx [] s vals = []
lines_executed ctx (line ∷ lines) s vals =
    line_executed ctx line s vals
    ++ elim (line_effect ctx line s vals) [
      | Goes s' vals' ↦ lines_executed ctx lines s' vals'
      | Raises e ↦ []
      | Returns v ↦ []
      | Stops ↦ []
      | Ends after ↦ []
      | Asks ask s' vals' ↦ []
    ]

-- of a call that runs in the job of a group, where there is one
abbrev pub call_executed : List NumProc → Ctx → Option Callback → State → List Executed
call_executed program ctx None s = []
call_executed program ctx (Some c) s = lines_executed ctx (lines_of program c.proc) s c.vals

-- of the call of an `all`
abbrev pub all_executed : List NumProc → Ctx → Purpose → ℕ → State → List Executed
all_executed program ctx (ForAll c) g s = call_executed program ctx (all_call g c s) s
all_executed program ctx purpose g s = []

-- of a part of an `all` that has no number yet
abbrev pub part_executed : List NumProc → Ctx → Option ℤ → ℕ → ℕ → ℤ → State → List Executed
part_executed program ctx (Some w) g k v s = []
part_executed program ctx None g k v s = all_executed program ctx (purpose_at g s) g (part_set g k v s)

-- of a choice that is decided
abbrev pub choice_executed : List NumProc → Ctx → Purpose → State → List Executed
choice_executed program ctx (ForChoice choices vals r) s = call_executed program ctx (first_call choices vals r s) s
choice_executed program ctx purpose s = []

-- of a frame, with the number that woke it
abbrev pub frame_executed : List NumProc → Ctx → Frame → ℤ → State → List Executed
frame_executed program ctx (Call proc vals ret) v s = lines_executed ctx (lines_of program proc) s vals
frame_executed program ctx (OnValue proc vals ret) v s = lines_executed ctx (lines_of program proc) s (Num v ∷ vals)
frame_executed program ctx (AllPart g k) v s = part_executed program ctx (part_at g k s) g k v s
frame_executed program ctx (ChoicePart g) v s =
    if (group_at g s).decided then [] else choice_executed program ctx (purpose_at g s) (choice_decided g s)
frame_executed program ctx frame v s = []

-- of a job
abbrev pub job_executed : List NumProc → Job Task → State → List Executed
job_executed program job s =
    frame_executed program job.ctx job.frame.frame (value_or_zero job.frame.value) (noting (entry.Job job.no) s)

-- of the next job, where there is one and fewer than the limit ran
abbrev pub picked_executed : NumProgram → Config → Option (Job Task) → State → ℕ → List Executed
picked_executed program config None s ran = []
picked_executed program config (Some job) s ran =
    if nat_le config.jobs ran then [] else job_executed program.procs job (record s { queues = picked_from s.queues })

-- after all of a drain has arrived
abbrev pub served_executed : NumProgram → Config → Option State → ℕ → ℕ → List Executed
served_executed program config None left ran = []
served_executed program config (Some s) left ran = picked_executed program config (pick_of s.queues) (with_left left s) ran

-- after the works of a drain have arrived
abbrev pub drained_executed : NumProgram → Config → Arrived → Option After → ℕ → List Executed
drained_executed program config arrived None ran = []
drained_executed program config arrived (Some after) ran =
    elim after.flow [
      | flow.On ↦
          served_executed program config
          (requests_served (served_by program.ask config.askers) arrived.requests after.state) arrived.left ran
      | flow.Stopped ↦ []
      | flow.Unhandled e ↦ []
    ]

-- of a job that goes on with these values
abbrev pub rest_executed : Rest → State → List Value → List Executed
rest_executed rest s vals = lines_executed rest.ctx rest.lines s vals

-- after the reply to what a job asked
abbrev pub answered_executed : Ask → Reply → Rest → State → List Executed
answered_executed (ask.Submit id work helper) Done rest s = rest_executed rest s rest.vals
answered_executed (ask.HelperEnd h) Done rest s = rest_executed rest s rest.vals
answered_executed (ask.Answer q v) Done rest s = rest_executed rest s rest.vals
answered_executed (ask.HelperNew h) (Granted b) rest s =
    rest_executed rest (with_helper b s) (rest.vals ++ Helper h ∷ Num (truth b) ∷ [])
answered_executed a reply rest s = []

-- between a reply and the next ask
abbrev pub reply_executed : NumProgram → Config → Place → Reply → Machine → List Executed
reply_executed program config AtDrain (Drained arrived) m =
    drained_executed program config arrived (arrive_all arrived.works m.state) m.ran
reply_executed program config (AtJob a rest) reply m = answered_executed a reply rest m.state
reply_executed program config place reply m = []

-- from a machine on, by these replies
abbrev pub executed_from : NumProgram → Config → Machine → List Reply → List Executed
executed_from program config m [] = []
executed_from program config m (reply ∷ replies) =
    reply_executed program config m.place reply m
    ++ executed_from program config (stepped program config m reply) replies

-- of a run
abbrev pub executed : NumProgram → Config → List Reply → List Executed
executed program config replies = executed_from program config (begun program.main config) replies
