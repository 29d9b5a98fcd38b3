-- A job that asks the pool, over a port.
use Rattle.std.specs.Prelude.{ℕ, ◌+◌, ◌-◌, ◌^◌, ◌<◌, ◌≡◌, List, [], ◌∷◌, ◌++◌, length, Bool, Some, Ok, Err}
use Rattle.std.specs.declared.result.Result.{Result}
use Rattle.std.specs.List.{filter_map}
use Rattle.ak_labor.specs.declared.ask.Ask.{Ask}
use Rattle.ak_labor.specs.declared.ask.Ask.TheVariants as ask
use Rattle.ak_labor.specs.declared.config.Config.{Config}
use Rattle.ak_labor.specs.declared.port.PortError.{PortError}
use Rattle.ak_labor.specs.declared.port.PortError.TheVariants.{Fault, NoMemory}
use Rattle.ak_labor.specs.Calls.{Reply, Granted, Done, IsOpen}
use Rattle.ak_labor.specs.Waits.{handed_by, helper_in, came as came_with, left_after, IsServedBy, IsAnswerable}
use Rattle.ak_frames.specs.declared.value.Value.{Value}
use Rattle.ak_frames.specs.declared.value.Value.TheVariants.{Num, Helper}
use Rattle.ak_program.specs.declared.program.NumProc.{NumProc}
use Rattle.ak_program.specs.Programs.{NumProgram}
use Rattle.ak_machine.specs.declared.flow.Flow.{Flow}
use Rattle.ak_machine.specs.declared.flow.Flow.TheVariants as flow
use Rattle.ak_machine.specs.State.{State}
use Rattle.ak_machine.specs.Number.{truth}
use Rattle.ak_machine.specs.Works.{with_helper}
use Rattle.ak_machine.specs.Job.{Rest, Progress, Asking, run_lines}
use Rattle.ak_machine.specs.Run.{Machine, progressed, machine_after}
use Rattle.ak_holders.specs.Returns.{LinesReturn}
use Rattle.ak_holders.proofs.Carry.{ProgressIs}
use Rattle.ak_ledger.specs.Answers.{AnswersAreOwed}
use Rattle.ak_ledger.specs.Outside.{IsInStep, IsAskable}
use Rattle.ak_ledger.proofs.Lines.{ProgressHas}
use Rattle.ak_state.specs.Seen.{Seen}
use Rattle.ak_exec.specs.Steps.{ProgressTells, progress_is}
use Rattle.ak_exec.specs.Typed.{IsUnderWay, ProgressFits}
use Rattle.ak_exec.specs.declared.asks.Answer.{Answer}
use Rattle.ak_exec.specs.declared.asks.Answer.TheVariants as answer
use Rattle.ak_exec.specs.declared.job.Progress.{Progress as Came}
use Rattle.ak_exec.specs.declared.job.Progress.TheVariants as came

-- ---- one call
-- the pool takes a call behind these
abbrev pub PoolTakes : List Ask → List Reply → Ask → Type 0
PoolTakes asked replies (ask.Submit id work helper) =
    (id ≡ length (filter_map handed_by asked)) × (id < 2 ^ 32 - 1) × IsServedBy asked replies helper
PoolTakes asked replies (ask.HelperNew h) = (h ≡ length (filter_map helper_in asked)) × (h < 2 ^ 32 - 1)
PoolTakes asked replies (ask.HelperEnd h) = IsServedBy asked replies (Some h)
PoolTakes asked replies (ask.Answer q v) = IsAnswerable asked replies q
PoolTakes asked replies ask.Drain = ⊥
PoolTakes asked replies ask.Close = ⊥

-- an answer is one to the call
abbrev pub Answers : Ask → Answer → Type 0
Answers (ask.Submit id work helper) answer.Done = Unit {0}
Answers (ask.HelperNew h) (answer.Helper which granted) = which ≡ h
Answers (ask.HelperEnd h) answer.Done = Unit {0}
Answers (ask.Answer q v) answer.Done = Unit {0}
Answers a other = ⊥

abbrev pub reply_is : Answer → Reply
reply_is answer.Done = Done
reply_is (answer.Helper which granted) = Granted granted

-- ---- the job goes on with the answer
-- a helper is bound beside whether it was granted
abbrev pub bound_to : ℕ → Bool → List Value → List Value
bound_to which granted vals = vals ++ Helper which ∷ Num (truth granted) ∷ []

abbrev pub resumed : Answer → Rest → State → Progress
resumed answer.Done rest s = run_lines rest.ctx rest.ret rest.lines s rest.vals
resumed (answer.Helper which granted) rest s =
    run_lines rest.ctx rest.ret rest.lines (with_helper granted s) (bound_to which granted rest.vals)

-- what it needs for that
abbrev pub ResumesWay : List NumProc → Answer → Rest → State → Type 0
ResumesWay program answer.Done rest s = IsUnderWay program s rest.vals rest.ctx rest.ret rest.lines
ResumesWay program (answer.Helper which granted) rest s =
    (which ≡ length s.helpers)
    × IsUnderWay program (with_helper granted s) (bound_to which granted rest.vals) rest.ctx rest.ret rest.lines

abbrev pub ResumesReturn : Answer → Rest → State → Type 0
ResumesReturn answer.Done rest s = LinesReturn rest.ctx rest.ret rest.lines s rest.vals
ResumesReturn (answer.Helper which granted) rest s =
    LinesReturn rest.ctx rest.ret rest.lines (with_helper granted s) (bound_to which granted rest.vals)

-- ---- a job over a port
-- a job that came so far behind these calls: all fits, each name has one holder, each request that has no answer has one to come
-- at the most, and the state is in step with the calls, or will be once the call that it makes has its reply
pub record IsRunning (program : List NumProc) (askers : ℕ) (s : Seen) (came : Came) (asked : List Ask) (replies : List Reply) : Type 0 where
  pub fits : ProgressFits program s came
  pub told : ProgressTells came s.plain.trace
  pub held : ProgressIs program (progress_is s came)
  pub owed : ProgressHas (λ t. AnswersAreOwed [] t) (λ a t. AnswersAreOwed [] t) (progress_is s came)
  pub opened : IsOpen asked replies
  pub in_step : ProgressHas (IsInStep askers asked replies) (IsAskable askers asked replies) (progress_is s came)

-- how many lines a job may still run
abbrev pub lines_left : Came → ℕ
lines_left (came.Over flow) = 0
lines_left (came.Asking a rest) = 1 + length rest.lines.now

-- a machine whose job came to one place behind one list of calls comes to the other behind the other, whatever stands beside
abbrev pub Leads : NumProgram → List Ask → List Reply → Progress → List Ask → List Reply → Progress → Type 0
Leads program asked replies p asked' replies' p' =
    (config : Config) (m : Machine) → machine_after program config replies ≡ progressed p (record m { asks = asked })
    → machine_after program config replies' ≡ progressed p' (record m { asks = asked' })

-- the last call failed: the job came to it, and the others have their replies
pub record FaultsFrom (program : NumProgram) (asked : List Ask) (replies : List Reply) (p : Progress) (asked' : List Ask) (replies' : List Reply) : Type 0 where
  pub ask : Ask
  pub state : State
  pub rest : Rest
  pub before : List Ask
  pub leads : Leads program asked replies p before replies' (Asking ask state rest)
  pub last : asked' ≡ before ++ ask ∷ []
  pub opened : IsOpen before replies'

-- there was no memory: the job came to some place, and each call has its reply
pub record StopsFrom (program : NumProgram) (asked : List Ask) (replies : List Reply) (p : Progress) (asked' : List Ask) (replies' : List Reply) : Type 0 where
  pub came : Progress
  pub leads : Leads program asked replies p asked' replies' came
  pub opened : IsOpen asked' replies'

-- the state is in step where the run goes on
abbrev pub IsInStepAfter : ℕ → List Ask → List Reply → Flow → State → Type 0
IsInStepAfter askers asked replies flow.On s = IsInStep askers asked replies s
IsInStepAfter askers asked replies flow.Stopped s = Unit {0}
IsInStepAfter askers asked replies (flow.Unhandled num) s = Unit {0}

-- with these replies nothing came from outside
pub record IsQuietSince (askers : ℕ) (replies replies' : List Reply) : Type 0 where
  pub none_came : came_with replies' ≡ came_with replies
  pub left : left_after askers replies' ≡ left_after askers replies

-- the answer is want of memory
abbrev pub IsNoMemory : {T F : Type 0} → Result T (PortError F) → Type 0
IsNoMemory (Ok v) = ⊥
IsNoMemory (Err (Fault f)) = ⊥
IsNoMemory (Err NoMemory) = Unit {0}
