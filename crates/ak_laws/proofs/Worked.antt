-- The works of every run that has ended are numbered, and arrive once with the values that the replies bring.
use Rattle.std.proofs.Common.{ℕ, ℤ, ◌≡◌, List, [], ◌∷◌, ◌++◌, length, Option, Some, None, refl, sym, subst, ap, fold}
use Rattle.std.specs.List.{AllByRecursion}
use Rattle.ak_base.specs.declared.number.Ctx.{Ctx}
use Rattle.ak_labor.specs.declared.work.Outcome.{Outcome}
use Rattle.ak_labor.specs.Calls.{Reply}
use Rattle.ak_labor.specs.declared.config.Config.{Config}
use Rattle.ak_cells.specs.declared.registration.Registration.{Registration}
use Rattle.ak_cells.specs.Cells.{waiting_on, filled}
use Rattle.ak_cells.specs.Names.{renamed}
use Rattle.ak_frames.specs.declared.value.Value.TheVariants.{Num}
use Rattle.ak_frames.specs.declared.frame.Ret.TheVariants.{To}
use Rattle.ak_frames.specs.declared.frame.Frame.{Frame}
use Rattle.ak_frames.specs.declared.frame.Frame.TheVariants.{Call, AnswerOut}
use Rattle.ak_frames.specs.declared.frame.Task.{Task}
use Rattle.ak_trace.specs.declared.entry.Entry.{Entry}
use Rattle.ak_trace.specs.declared.entry.Entry.TheVariants as entry
use Rattle.ak_program.specs.Programs.{NumProgram}
use Rattle.ak_machine.specs.State.{State}
use Rattle.ak_machine.specs.Deferred.{noting, plain_task, woken_task, enqueue, with_ivar, number_at, woken_by, register_at}
use Rattle.ak_machine.specs.Works.{with_request}
use Rattle.ak_machine.specs.Job.{value_or_zero}
use Rattle.ak_machine.specs.Cycle.{at_root, request_arrived}
use Rattle.ak_machine.specs.Run.{HasEnded, run_of, machine_after}
use Rattle.ak_laws.specs.Places.{EachAfter}
use Rattle.ak_laws.specs.Works.{WorksArriveOnce, BringsValues}
use Rattle.ak_ledger.proofs.Still.{IsQuiet, Ended}
use Rattle.ak_laws.proofs.Kept.{Parts, parts_of, Kept}
use Rattle.ak_laws.proofs.KeptRun.{left_by, KeptByRuns, run_keeps}
use Rattle.ak_laws.proofs.Ends.{at_end}
use Rattle.ak_laws.proofs.Working.{IsBroughtOnce, IsIdle, Working, idle_works, submit_works, arrive_works, renamed_works, of_trace, works_done}

quiet_is_idle : (e : Entry) → IsQuiet e → IsIdle e
quiet_is_idle (entry.Submit id kind num) h = h
quiet_is_idle (entry.Arrive id outcome) h = h
quiet_is_idle e h = tt

abbrev WorksOf : (ℕ → Outcome → Type 0) → Parts → Type 0
WorksOf B p = Working B p.works p.next_work p.trace

abbrev IsWorking : (ℕ → Outcome → Type 0) → State → Type 0
IsWorking B s = WorksOf B (parts_of s)

module _ (B : ℕ → Outcome → Type 0) where
  noted_works : (e : Entry) (s : State) → IsIdle e → IsWorking B s → IsWorking B (noting e s)
  noted_works e s i h = idle_works B s.works s.next_work s.trace e i h

  queued_works : (ctx : Ctx) (task : Task) (s : State) → IsWorking B s → IsWorking B (enqueue ctx task s)
  queued_works ctx task s h = idle_works B s.works s.next_work s.trace (entry.Enq s.queues.next ctx.low) tt h

  woken_works : (v : ℤ) (gs : List (Registration Frame)) (s : State) → IsWorking B s → IsWorking B (fold (woken_by v) s gs)
  woken_works v [] s h = h
  woken_works v (g ∷ gs) s h = woken_works v gs (woken_by v s g) (queued_works g.ctx (woken_task g.frame v) s h)

  waiting_works : (o : Option ℤ) (i : ℕ) (ctx : Ctx) (frame : Frame) (s : State) → IsWorking B s → IsWorking B (register_at o i ctx frame s)
  waiting_works (Some v) i ctx frame s h = queued_works ctx (woken_task frame v) s h
  waiting_works None i ctx frame s h = h

  request_works : (ask q : ℕ) (n : ℤ) (s : State) → IsWorking B s → IsWorking B (request_arrived ask q n s)
  request_works ask q n s h =
      let r : ℕ = length s.cells.ivars
      in let noted : State = noting (entry.Request q n r) (with_request q r (with_ivar s))
      in queued_works at_root (plain_task (Call ask (Num n ∷ []) (To r))) (register_at (number_at r noted) r at_root (AnswerOut q) noted)
      (waiting_works (number_at r noted) r at_root (AnswerOut q) noted (noted_works (entry.Request q n r) (with_request q r (with_ivar s)) tt h))

  works_kept : Kept B (IsWorking B)
  works_kept = record {
    note = λ e s q h. noted_works e s (quiet_is_idle e q) h;
    enq = λ ctx task s n h. queued_works ctx task s h;
    wait = λ i ctx frame s n h. h;
    forget = λ notes s h. h;
    fill = λ i v s h.
        let full : State = record s { cells = filled i v s.cells }
        in woken_works v (waiting_on i s.cells) (noting (entry.Fill i v) full) (noted_works (entry.Fill i v) full tt h);
    join = λ result right s e h.
        renamed_works B (renamed right result) s.works s.next_work (noting (entry.Join result right) s).trace
        (noted_works (entry.Join result right) s tt h);
    submit = λ ctx to work helper s h.
        submit_works B s.works s.next_work s.trace work (record { number = s.next_work; to = to; ctx = ctx; helper = helper }) refl h;
    arrive = λ w outcome work s b e h. arrive_works B s.works s.next_work s.trace w outcome work b e h;
    request = λ ask q n s e h. request_works ask q n s h;
    change = λ s u e h. subst (WorksOf B) (sym e) h;
  }

  works_by_runs : (limit : ℕ) → KeptByRuns B limit (IsWorking B)
  works_by_runs limit = record {
    kept = works_kept;
    cycle = λ s h. idle_works B s.works s.next_work s.trace entry.Cycle tt h;
    pick = λ job s e h. idle_works B s.works s.next_work s.trace (entry.Job job.no) tt h;
    answer = λ job q s e f h.
        idle_works B s.works s.next_work (left_by job s).trace (entry.Answer q (value_or_zero job.frame.value)) tt
        (idle_works B s.works s.next_work s.trace (entry.Job job.no) tt h);
    first = λ askers. record { count = refl; out = tt; arrived = λ id a. absurd (cc); rules = tt };
  }

pub works_arrive_once : (program : NumProgram) (config : Config) (replies : List Reply) → (run_of program config replies).outcome ≡ HasEnded
    → AllByRecursion (BringsValues (run_of program config replies).trace) replies → WorksArriveOnce (run_of program config replies).trace
works_arrive_once program config replies e brings =
    let trace : List Entry = (run_of program config replies).trace
    in let B : ℕ → Outcome → Type 0 = of_trace (run_of program config replies).trace
    in let x : Ended (IsWorking (of_trace (run_of program config replies).trace)) (machine_after program config replies).state =
    at_end (IsWorking B) (machine_after program config replies)
    (run_keeps B (IsWorking B) config.limit (works_by_runs B config.limit) program config refl replies brings) e
    in let ended : Working B x.before.works x.before.next_work (x.before.trace ++ entry.End x.why ∷ []) =
    idle_works B x.before.works x.before.next_work x.before.trace (entry.End x.why) tt x.has
    in works_done trace [] trace refl
    (subst (λ (t : List Entry). EachAfter (IsBroughtOnce B) [] t) (sym (ap (λ (s : State). s.trace) x.last)) ended.rules)
