-- What further entries, jobs and renamings keep, whatever they are of, a whole run keeps.
use Rattle.std.proofs.Common.{ℕ, ℤ, ◌≡◌, List, [], ◌∷◌, ◌++◌, ◌+◌, Option, Some, None, refl, ap, fold}
use Rattle.std.specs.Prelude.{length, filter}
use Rattle.ak_base.specs.declared.number.Ctx.{Ctx}
use Rattle.ak_cells.specs.declared.registration.Registration.{Registration}
use Rattle.ak_cells.specs.Cells.{waiting_on, filled, with_registration}
use Rattle.ak_rings.specs.declared.job.Job.{Job}
use Rattle.ak_rings.specs.Queues.{pick_of, recounted}
use Rattle.ak_frames.specs.declared.value.Value.TheVariants.{Num}
use Rattle.ak_frames.specs.declared.frame.Ret.TheVariants.{To}
use Rattle.ak_frames.specs.declared.frame.Frame.{Frame}
use Rattle.ak_frames.specs.declared.frame.Frame.TheVariants.{Call, AnswerOut}
use Rattle.ak_frames.specs.declared.frame.Task.{Task}
use Rattle.ak_trace.specs.declared.entry.Entry.{Entry}
use Rattle.ak_trace.specs.declared.entry.Entry.TheVariants as entry
use Rattle.ak_machine.specs.declared.held.Outstanding.{Outstanding}
use Rattle.ak_machine.specs.State.{State, initial_state}
use Rattle.ak_machine.specs.Mapped.{state_renamed}
use Rattle.ak_machine.specs.Deferred.{noting, plain_task, woken_task, enqueue, with_ivar, number_at, woken_by, register_at}
use Rattle.ak_machine.specs.Works.{with_request, answered}
use Rattle.ak_machine.specs.Job.{value_or_zero}
use Rattle.ak_machine.specs.Cycle.{at_root, is_other_work, request_arrived}
use Rattle.ak_ledger.proofs.Still.{IsQuiet}
use Rattle.ak_laws.proofs.Kept.{Parts, Kept}
use Rattle.ak_laws.proofs.KeptRun.{left_by, KeptByRuns, anything}

-- an entry that says nothing of jobs, cycles and the end
abbrev pub IsAside : Entry → Type 0
IsAside entry.Cycle = ⊥
IsAside (entry.Enq n low) = ⊥
IsAside (entry.Job n) = ⊥
IsAside (entry.End why) = ⊥
IsAside e = Unit {0}

-- kept by such an entry, any job that is enqueued, a renaming, and a change that leaves the queues and the trace
pub record Loose (P : State → Type 0) : Type 0 where
  pub note : (e : Entry) (s : State) → IsAside e → P s → P (noting e s)
  pub enq : (ctx : Ctx) (task : Task) (s : State) → P s → P (enqueue ctx task s)
  pub rename : (from to : ℕ) (s : State) → P s → P (state_renamed from to s)
  pub change : (s u : State) → u.queues ≡ s.queues → u.trace ≡ s.trace → P s → P u

quiet_aside : (e : Entry) → IsQuiet e → IsAside e
quiet_aside entry.Cycle q = q
quiet_aside (entry.Enq n low) q = q
quiet_aside (entry.Job n) q = q
quiet_aside (entry.End why) q = q
quiet_aside e q = tt

module _ (P : State → Type 0) (k : Loose P) where
  woken_keep : (v : ℤ) (gs : List (Registration Frame)) (s : State) → P s → P (fold (woken_by v) s gs)
  woken_keep v [] s p = p
  woken_keep v (g ∷ gs) s p = woken_keep v gs (woken_by v s g) (k.enq g.ctx (woken_task g.frame v) s p)

  waits_keep : (o : Option ℤ) (i : ℕ) (ctx : Ctx) (frame : Frame) (s : State) → P s → P (register_at o i ctx frame s)
  waits_keep (Some v) i ctx frame s p = k.enq ctx (woken_task frame v) s p
  waits_keep None i ctx frame s p = k.change s (register_at None i ctx frame s) refl refl p

  request_keeps : (ask q : ℕ) (n : ℤ) (s : State) → P s → P (request_arrived ask q n s)
  request_keeps ask q n s p =
      let r : ℕ = length s.cells.ivars
      in let kept : State = with_request q r (with_ivar s)
      in let noted : State = noting (entry.Request q n r) kept
      in k.enq at_root (plain_task (Call ask (Num n ∷ []) (To r))) (register_at (number_at r noted) r at_root (AnswerOut q) noted)
      (waits_keep (number_at r noted) r at_root (AnswerOut q) noted
      (k.note (entry.Request q n r) kept tt (k.change s kept refl refl p)))

  pub loosely : Kept anything P
  loosely = record {
    note = λ e s q p. k.note e s (quiet_aside e q) p;
    enq = λ ctx task s n p. k.enq ctx task s p;
    wait = λ i ctx frame s n p. k.change s (record s { cells = with_registration i ctx frame s.cells }) refl refl p;
    forget = λ notes s p. k.change s _ refl refl p;
    fill = λ i v s p.
        let full : State = record s { cells = filled i v s.cells }
        in woken_keep v (waiting_on i s.cells) (noting (entry.Fill i v) full) (k.note (entry.Fill i v) full tt (k.change s full refl refl p));
    join = λ result right s e p.
        k.rename right result (noting (entry.Join result right) s) (k.note (entry.Join result right) s tt p);
    submit = λ ctx to work helper s p.
        let x : Outstanding = record { number = s.next_work; to = to; ctx = ctx; helper = helper }
        in let more : State = record s { works = s.works ++ x ∷ []; next_work = s.next_work + 1 }
        in k.note (entry.Submit s.next_work work.kind work.num) more tt (k.change s more refl refl p);
    arrive = λ w outcome work s b e p.
        let fewer : State = record s { works = filter (is_other_work w) s.works }
        in k.note (entry.Arrive w outcome) fewer tt (k.change s fewer refl refl p);
    request = λ ask q n s e p. request_keeps ask q n s p;
    change = λ s u e p. k.change s u (ap (λ (x : Parts). x.queues) e) (ap (λ (x : Parts). x.trace) e) p;
  }

-- a cycle's begin, a pick, and the state before a run
pub record LooseByRuns (limit : ℕ) (P : State → Type 0) : Type 0 where
  pub loose : Loose P
  pub cycle : (s : State) → P s → P (noting entry.Cycle (record s { queues = recounted s.queues }))
  pub pick : (job : Job Task) (s : State) → pick_of s.queues ≡ Some job → P s → P (left_by job s)
  pub first : (askers : ℕ) → P (initial_state limit askers)

pub by_runs : (limit : ℕ) (P : State → Type 0) → LooseByRuns limit P → KeptByRuns anything limit P
by_runs limit P k = record {
  kept = loosely P k.loose;
  cycle = k.cycle;
  pick = k.pick;
  answer = λ job q s e f p.
      let v : ℤ = value_or_zero job.frame.value
      in let told : State = record (left_by job s) { requests = (answered q v (left_by job s)).requests }
      in k.loose.note (entry.Answer q v) told tt (k.loose.change (left_by job s) told refl refl (k.pick job s e p));
  first = k.first;
}
