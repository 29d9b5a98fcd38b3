-- Which answers are to come, as whole jobs, arrivals and cycles keep it.
use Rattle.std.proofs.Common.{ℕ, ℤ, ◌≡◌, List, [], ◌∷◌, Bool, Option, Some, None, sym, subst, arith}
use Rattle.std.specs.Prelude.{find, filter}
use Rattle.ak_base.specs.declared.number.Ctx.{Ctx}
use Rattle.ak_labor.specs.declared.work.Outcome.{Outcome}
use Rattle.ak_labor.specs.declared.ask.Ask.{Ask}
use Rattle.ak_frames.specs.declared.value.Value.{Value}
use Rattle.ak_frames.specs.declared.frame.Ret.{Ret}
use Rattle.ak_frames.specs.declared.frame.Frame.{Frame}
use Rattle.ak_frames.specs.declared.frame.Task.{Task}
use Rattle.ak_trace.specs.declared.entry.Entry.{Entry}
use Rattle.ak_trace.specs.declared.entry.Entry.TheVariants as entry
use Rattle.ak_rings.specs.declared.job.Job.{Job}
use Rattle.ak_program.specs.declared.program.NumProc.{NumProc}
use Rattle.ak_program.specs.declared.program.NumStatement.{NumStatement}
use Rattle.ak_machine.specs.declared.flow.Flow.{Flow}
use Rattle.ak_machine.specs.declared.flow.Flow.TheVariants as flow
use Rattle.ak_machine.specs.declared.held.Outstanding.{Outstanding}
use Rattle.ak_machine.specs.State.{State, initial_state}
use Rattle.ak_machine.specs.Deferred.{noting, called}
use Rattle.ak_machine.specs.Errors.{After}
use Rattle.ak_machine.specs.Works.{with_helper}
use Rattle.ak_machine.specs.Job.{run_lines, run_frame, run_job, value_or_zero}
use Rattle.ak_machine.specs.Cycle.{cycle_begun, is_work, is_other_work, outcome_given, arrival_of, arrive, with_left}
use Rattle.ak_ledger.specs.Answers.{AnswersAreOwed}
use Rattle.ak_ledger.proofs.Still.{AfterHas, called_keeps}
use Rattle.ak_ledger.proofs.Lines.{ProgressHas, AsksWell, lines_keep, frame_keeps, outcome_keeps}
use Rattle.ak_ledger.proofs.Waiting.{cycle_still}
use Rattle.ak_ledger.proofs.Owed.{owed_still, dropped_owed, answered_owed}

-- no frame is in hand
abbrev pub Owed : State → Type 0
Owed s = AnswersAreOwed [] s

-- and in the state in which a job asks
abbrev pub OwedAsking : Ask → State → Type 0
OwedAsking a s = AnswersAreOwed [] s

pub noted_owed : (hand : List Frame) (e : Entry) (s : State) → AnswersAreOwed hand s → AnswersAreOwed hand (noting e s)
noted_owed hand e s h = record { numbered = h.numbered; once = h.once }

pub asks_owed : AsksWell Owed OwedAsking
asks_owed = record {
  work = λ ctx to work helper s a h. record { numbered = h.numbered; once = h.once };
  helper = λ s h. h;
  done = λ h s a p. record { numbered = p.numbered; once = p.once };
  new_pipe = λ room s h. record { numbered = h.numbered; once = h.once };
  other_pipe = λ i x s h. record { numbered = h.numbered; once = h.once };
}

-- ---- a job
pub helper_owed : (granted : Bool) (s : State) → Owed s → Owed (with_helper granted s)
helper_owed granted s h = record { numbered = h.numbered; once = h.once }

pub lines_owed : (ctx : Ctx) (ret : Ret) (lines : List NumStatement) (s : State) (vals : List Value) → Owed s
    → ProgressHas Owed OwedAsking (run_lines ctx ret lines s vals)
lines_owed ctx ret lines s vals h = lines_keep Owed OwedAsking (owed_still []) asks_owed ctx ret lines s vals h

frame_owed : (program : List NumProc) (ctx : Ctx) (f : Frame) (v : ℤ) (s : State) → AnswersAreOwed (f ∷ []) s
    → ProgressHas Owed OwedAsking (run_frame program ctx f v s)
frame_owed program ctx f v s h =
    frame_keeps Owed OwedAsking (owed_still []) asks_owed program ctx f v s (dropped_owed [] f s h)
    (λ q e. answered_owed [] q v s (subst (λ (x : Frame). AnswersAreOwed (x ∷ []) s) e h))

pub job_owed : (program : List NumProc) (job : Job Task) (s : State) → AnswersAreOwed (job.frame.frame ∷ []) s
    → ProgressHas Owed OwedAsking (run_job program job s)
job_owed program job s h =
    frame_owed program job.ctx job.frame.frame (value_or_zero job.frame.value) (noting (entry.Job job.no) s)
    (noted_owed (job.frame.frame ∷ []) (entry.Job job.no) s h)

-- ---- a work arrives
arrival_owed : (found : Option Outstanding) (w : ℕ) (outcome : Outcome) (s : State) (after : After) → Owed s
    → arrival_of found w outcome s ≡ Some after → AfterHas Owed after.flow after.state
arrival_owed None w outcome s after h e = absurd (cc)
arrival_owed (Some work) w outcome s after h e =
    let t : State = noting (entry.Arrive w outcome) (record s { works = filter (is_other_work w) s.works })
    in let same : outcome_given outcome work t ≡ after = cc
    in subst (λ (a : After). AfterHas Owed a.flow a.state) same
    (outcome_keeps Owed OwedAsking (owed_still []) outcome work t (record { numbered = h.numbered; once = h.once }))

pub arrive_owed : (w : ℕ) (outcome : Outcome) (s : State) (after : After) → Owed s → arrive w outcome s ≡ Some after
    → AfterHas Owed after.flow after.state
arrive_owed w outcome s after h e = arrival_owed (find (is_work w) s.works) w outcome s after h e

-- where the run ends, too
pub after_owed : (f : Flow) (s : State) → AfterHas Owed f s → Owed s
after_owed flow.On s h = h
after_owed flow.Stopped s h = subst Owed (sym h.last) (noted_owed [] (entry.End h.why) h.before h.has)
after_owed (flow.Unhandled e) s h = subst Owed (sym h.last) (noted_owed [] (entry.End h.why) h.before h.has)

-- ---- cycles, and so many askers
pub cycle_owed : (hand : List Frame) (s : State) → AnswersAreOwed hand s → AnswersAreOwed hand (cycle_begun s)
cycle_owed hand s h = cycle_still (AnswersAreOwed hand) (owed_still hand) s (record { numbered = h.numbered; once = h.once })

pub left_owed : (hand : List Frame) (left : ℕ) (s : State) → AnswersAreOwed hand s → AnswersAreOwed hand (with_left left s)
left_owed hand left s h = record { numbered = h.numbered; once = h.once }

-- ---- a run begins
pub nothing_owed : (limit askers : ℕ) → Owed (initial_state limit askers)
nothing_owed limit askers = record { numbered = tt; once = λ q. omega arith }

pub first_owed : (limit askers : ℕ) (ctx : Ctx) (main : ℕ) (vals : List Value) (ret : Ret) → Owed (called ctx main vals ret (initial_state limit askers))
first_owed limit askers ctx main vals ret =
    called_keeps Owed (owed_still []) ctx main vals ret (initial_state limit askers) (nothing_owed limit askers)
