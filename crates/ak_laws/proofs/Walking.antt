-- What each statement has, all that a run executes have.
use Rattle.std.proofs.Common.{ℕ, ℤ, List, [], ◌∷◌, Bool, true, false, Option, Some, None}
use Rattle.std.specs.Prelude.{if◌then◌else◌, nat_le}
use Rattle.std.specs.List.{AllByRecursion}
use Rattle.ak_base.specs.declared.number.Ctx.{Ctx}
use Rattle.ak_base.proofs.Lists.{all_append}
use Rattle.ak_labor.specs.declared.ask.Ask.{Ask}
use Rattle.ak_labor.specs.declared.ask.Ask.TheVariants as ask
use Rattle.ak_labor.specs.declared.config.Config.{Config}
use Rattle.ak_labor.specs.Arrived.{Arrived}
use Rattle.ak_labor.specs.Calls.{Reply, Drained, Granted, Done}
use Rattle.ak_frames.specs.declared.value.Value.{Value}
use Rattle.ak_frames.specs.declared.value.Value.TheVariants.{Num}
use Rattle.ak_frames.specs.declared.frame.Frame.{Frame}
use Rattle.ak_frames.specs.declared.frame.Frame.TheVariants.{Call, OnValue, AllPart, ChoicePart}
use Rattle.ak_frames.specs.declared.frame.Task.{Task}
use Rattle.ak_trace.specs.declared.entry.Entry.TheVariants as entry
use Rattle.ak_program.specs.declared.statement.NumStmt.{NumStmt}
use Rattle.ak_program.specs.declared.program.NumProc.{NumProc}
use Rattle.ak_program.specs.declared.program.NumStatement.{NumStatement}
use Rattle.ak_program.specs.Programs.{NumProgram}
use Rattle.ak_rings.specs.declared.job.Job.{Job}
use Rattle.ak_rings.specs.Queues.{pick_of, picked_from}
use Rattle.ak_machine.specs.declared.flow.Flow.{Flow}
use Rattle.ak_machine.specs.declared.flow.Flow.TheVariants as flow
use Rattle.ak_machine.specs.declared.held.Callback.{Callback}
use Rattle.ak_machine.specs.declared.held.Purpose.{Purpose}
use Rattle.ak_machine.specs.declared.held.Purpose.TheVariants.{ForAll, ForChoice}
use Rattle.ak_machine.specs.State.{State}
use Rattle.ak_machine.specs.Deferred.{noting}
use Rattle.ak_machine.specs.Groups.{group_at, purpose_at, part_at, part_set, all_call, choice_decided, first_call}
use Rattle.ak_machine.specs.Errors.{After}
use Rattle.ak_machine.specs.Works.{with_helper}
use Rattle.ak_machine.specs.Effect.{Effect, Goes, Raises, Returns, Stops, Ends, Asks, holds}
use Rattle.ak_machine.specs.Statement.{line_effect}
use Rattle.ak_machine.specs.Job.{Rest, lines_of, value_or_zero}
use Rattle.ak_machine.specs.Cycle.{arrive_all, served_by, requests_served, with_left}
use Rattle.ak_machine.specs.Run.{Place, AtDrain, AtJob, Machine, stepped, begun}
use Rattle.ak_laws.specs.Executed.{Executed, statement_executed, line_executed, lines_executed, call_executed, all_executed, part_executed}
use Rattle.ak_laws.specs.Executed.{choice_executed, frame_executed, job_executed, picked_executed, served_executed, drained_executed, rest_executed}
use Rattle.ak_laws.specs.Executed.{answered_executed, reply_executed, executed_from, executed}

module _ (P : Executed → Type 0) (each : (ctx : Ctx) (st : NumStmt) (s : State) (vals : List Value) → P (statement_executed ctx st s vals)) where
  abbrev Have : List Executed → Type 0
  Have xs = AllByRecursion P xs

  -- of none, or of some
  none_or : (b : Bool) (xs : List Executed) → Have xs → Have (if b then [] else xs)
  none_or true xs h = tt
  none_or false xs h = h

  line_has : (b : Bool) (ctx : Ctx) (line : NumStatement) (s : State) (vals : List Value)
      → Have (if b then statement_executed ctx line.stmt s vals ∷ [] else [])
  line_has true ctx line s vals = (each ctx line.stmt s vals, tt)
  line_has false ctx line s vals = tt

  goes_has : (ctx : Ctx) (lines : List NumStatement) → ((s : State) (vals : List Value) → Have (lines_executed ctx lines s vals)) → (e : Effect)
      → Have (elim e [
        | Goes s' vals' ↦ lines_executed ctx lines s' vals'
        | Raises e ↦ []
        | Returns v ↦ []
        | Stops ↦ []
        | Ends after ↦ []
        | Asks ask s' vals' ↦ []
      ])
  goes_has ctx lines more (Goes s vals) = more s vals
  goes_has ctx lines more (Raises e) = tt
  goes_has ctx lines more (Returns v) = tt
  goes_has ctx lines more Stops = tt
  goes_has ctx lines more (Ends after) = tt
  goes_has ctx lines more (Asks a s vals) = tt

  lines_have : (ctx : Ctx) (lines : List NumStatement) (s : State) (vals : List Value) → Have (lines_executed ctx lines s vals)
  lines_have ctx [] s vals = tt
  lines_have ctx (line ∷ lines) s vals =
      all_append P (line_executed ctx line s vals) _ (line_has (holds line.prefix vals) ctx line s vals)
      (goes_has ctx lines (lines_have ctx lines) (line_effect ctx line s vals))

  call_has : (program : List NumProc) (ctx : Ctx) (o : Option Callback) (s : State) → Have (call_executed program ctx o s)
  call_has program ctx None s = tt
  call_has program ctx (Some c) s = lines_have ctx (lines_of program c.proc) s c.vals

  all_has : (program : List NumProc) (ctx : Ctx) (q : Purpose) (g : ℕ) (s : State) → Have (all_executed program ctx q g s)
  all_has program ctx (ForAll c) g s = call_has program ctx (all_call g c s) s
  all_has program ctx q g s = tt

  part_has : (program : List NumProc) (ctx : Ctx) (o : Option ℤ) (g k : ℕ) (v : ℤ) (s : State) → Have (part_executed program ctx o g k v s)
  part_has program ctx (Some w) g k v s = tt
  part_has program ctx None g k v s = all_has program ctx (purpose_at g s) g (part_set g k v s)

  choice_has : (program : List NumProc) (ctx : Ctx) (q : Purpose) (s : State) → Have (choice_executed program ctx q s)
  choice_has program ctx (ForChoice choices vals r) s = call_has program ctx (first_call choices vals r s) s
  choice_has program ctx q s = tt

  frame_has : (program : List NumProc) (ctx : Ctx) (f : Frame) (v : ℤ) (s : State) → Have (frame_executed program ctx f v s)
  frame_has program ctx (Call proc vals ret) v s = lines_have ctx (lines_of program proc) s vals
  frame_has program ctx (OnValue proc vals ret) v s = lines_have ctx (lines_of program proc) s (Num v ∷ vals)
  frame_has program ctx (AllPart g k) v s = part_has program ctx (part_at g k s) g k v s
  frame_has program ctx (ChoicePart g) v s =
      none_or (group_at g s).decided _ (choice_has program ctx (purpose_at g s) (choice_decided g s))
  frame_has program ctx f v s = tt

  job_has : (program : List NumProc) (job : Job Task) (s : State) → Have (job_executed program job s)
  job_has program job s = frame_has program job.ctx job.frame.frame (value_or_zero job.frame.value) (noting (entry.Job job.no) s)

  module _ (program : NumProgram) (config : Config) where
    picked_has : (o : Option (Job Task)) (s : State) (ran : ℕ) → Have (picked_executed program config o s ran)
    picked_has None s ran = tt
    picked_has (Some job) s ran =
        none_or (nat_le config.jobs ran) _ (job_has program.procs job (record s { queues = picked_from s.queues }))

    served_has : (o : Option State) (left ran : ℕ) → Have (served_executed program config o left ran)
    served_has None left ran = tt
    served_has (Some s) left ran = picked_has (pick_of s.queues) (with_left left s) ran

    drained_has : (arrived : Arrived) (o : Option After) (ran : ℕ) → Have (drained_executed program config arrived o ran)
    drained_has arrived None ran = tt
    drained_has arrived (Some after) ran = by after.flow
      where
        by : (f : Flow) → Have (drained_executed program config arrived (Some (record { state = after.state; flow = f })) ran)
        by flow.On = served_has (requests_served (served_by program.ask config.askers) arrived.requests after.state) arrived.left ran
        by flow.Stopped = tt
        by (flow.Unhandled e) = tt

    rest_has : (rest : Rest) (s : State) (vals : List Value) → Have (rest_executed rest s vals)
    rest_has rest s vals = lines_have rest.ctx rest.lines s vals

    answered_has : (a : Ask) (reply : Reply) (rest : Rest) (s : State) → Have (answered_executed a reply rest s)
    answered_has (ask.Submit id work helper) Done rest s = rest_has rest s rest.vals
    answered_has (ask.HelperEnd h) Done rest s = rest_has rest s rest.vals
    answered_has (ask.Answer q v) Done rest s = rest_has rest s rest.vals
    answered_has (ask.HelperNew h) (Granted b) rest s = rest_has rest (with_helper b s) _
    answered_has a reply rest s = tt

    reply_has : (place : Place) (reply : Reply) (m : Machine) → Have (reply_executed program config place reply m)
    reply_has AtDrain (Drained arrived) m = drained_has arrived (arrive_all arrived.works m.state) m.ran
    reply_has (AtJob a rest) reply m = answered_has a reply rest m.state
    reply_has place reply m = tt

    from_has : (m : Machine) (replies : List Reply) → Have (executed_from program config m replies)
    from_has m [] = tt
    from_has m (reply ∷ replies) =
        all_append P (reply_executed program config m.place reply m) _ (reply_has m.place reply m)
        (from_has (stepped program config m reply) replies)

    pub all_executed_have : (replies : List Reply) → Have (executed program config replies)
    all_executed_have replies = from_has (begun program.main config) replies
