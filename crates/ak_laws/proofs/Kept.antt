-- What a run keeps by its small changes, where outcomes that arrive are such as replies bring.
use Rattle.std.proofs.Common.{ap, ℕ, ℤ, ◌≡◌, List, Bool, true, false, Option, Some, refl, fold}
use Rattle.std.specs.Prelude.{filter, find, length, ◌==◌}
use Rattle.ak_base.specs.declared.number.Ctx.{Ctx}
use Rattle.ak_labor.specs.declared.work.Work.{Work}
use Rattle.ak_labor.specs.declared.work.Outcome.{Outcome}
use Rattle.ak_cells.specs.declared.registration.Registration.{Registration}
use Rattle.ak_cells.specs.Cells.{with_registration, unregistered}
use Rattle.ak_rings.specs.Queues.{Queues}
use Rattle.ak_frames.specs.declared.frame.Frame.{Frame}
use Rattle.ak_frames.specs.declared.frame.Task.{Task}
use Rattle.ak_trace.specs.declared.entry.Entry.{Entry}
use Rattle.ak_trace.specs.declared.entry.Entry.TheVariants as entry
use Rattle.ak_machine.specs.declared.held.Outstanding.{Outstanding}
use Rattle.ak_machine.specs.State.{State}
use Rattle.ak_machine.specs.Mapped.{state_renamed}
use Rattle.ak_machine.specs.Deferred.{noting, enqueue, fill_empty}
use Rattle.ak_machine.specs.Pipes.{with_pipe, with_pipe_at}
use Rattle.ak_machine.specs.Works as works
use Rattle.ak_machine.specs.Cycle.{is_work, is_other_work, request_arrived}
use Rattle.ak_labor.specs.declared.ask.Ask.{Ask}
use Rattle.ak_ledger.proofs.Still.{Still, Aspects, IsQuiet, IsNoAnswer}
use Rattle.ak_ledger.proofs.Lines.{AsksWell}

-- what the laws speak of: the jobs and handlers that wait, the requests, the works, and the trace
pub record Parts : Type 0 where
  pub queues : Queues Task
  pub handlers : List (Registration Frame)
  pub requests : ℕ
  pub works : List Outstanding
  pub next_work : ℕ
  pub trace : List Entry

abbrev pub parts_of : State → Parts
parts_of s = record {
  queues = s.queues;
  handlers = s.cells.registrations;
  requests = length s.requests;
  works = s.works;
  next_work = s.next_work;
  trace = s.trace;
}

-- kept by each small change of a state, where outcomes that arrive are such
pub record Kept (B : ℕ → Outcome → Type 0) (P : State → Type 0) : Type 0 where
  pub note : (e : Entry) (s : State) → IsQuiet e → P s → P (noting e s)
  pub enq : (ctx : Ctx) (task : Task) (s : State) → IsNoAnswer task.frame → P s → P (enqueue ctx task s)
  pub wait : (i : ℕ) (ctx : Ctx) (frame : Frame) (s : State) → IsNoAnswer frame → P s → P (record s { cells = with_registration i ctx frame s.cells })
  pub forget : (notes : List ℕ) (s : State) → P s → P (record s { cells = fold unregistered s.cells notes })
  pub fill : (i : ℕ) (v : ℤ) (s : State) → P s → P (fill_empty i v s)
  pub join : (result right : ℕ) (s : State) → (result == right) ≡ false → P s → P (state_renamed right result (noting (entry.Join result right) s))
  pub submit : (ctx : Ctx) (to : ℕ) (work : Work) (helper : Option ℕ) (s : State) → P s → P (works.submitted ctx to work helper s)
  pub arrive : (w : ℕ) (outcome : Outcome) (work : Outstanding) (s : State) → B w outcome → find (is_work w) s.works ≡ Some work → P s
      → P (noting (entry.Arrive w outcome) (record s { works = filter (is_other_work w) s.works }))
  pub request : (ask q : ℕ) (n : ℤ) (s : State) → (q == length s.requests) ≡ true → P s → P (request_arrived ask q n s)
  pub change : (s u : State) → parts_of u ≡ parts_of s → P s → P u

-- kept by the small changes of a state, and by what a drain brings
pub record Arriving (B : ℕ → Outcome → Type 0) (P : State → Type 0) : Type 0 where
  pub still : Still P
  pub arrive : (w : ℕ) (outcome : Outcome) (work : Outstanding) (s : State) → B w outcome → find (is_work w) s.works ≡ Some work → P s
      → P (noting (entry.Arrive w outcome) (record s { works = filter (is_other_work w) s.works }))
  pub request : (ask q : ℕ) (n : ℤ) (s : State) → (q == length s.requests) ≡ true → P s → P (request_arrived ask q n s)

abbrev parts_from : Aspects → Parts
parts_from a = record {
  queues = a.queues;
  handlers = a.handlers;
  requests = length a.requests;
  works = a.works;
  next_work = a.next_work;
  trace = a.trace;
}

-- what asks the pool too
abbrev pub Each : (P : State → Type 0) → Ask → State → Type 0
Each P a s = P s

module _ (B : ℕ → Outcome → Type 0) (P : State → Type 0) (k : Kept B P) where
  pub still_of : Still P
  still_of = record {
    note = k.note;
    enq = k.enq;
    wait = k.wait;
    forget = k.forget;
    fill = k.fill;
    join = k.join;
    change = λ s u e t p. k.change s u (ap parts_from e) p;
  }

  pub arriving_of : Arriving B P
  arriving_of = record { still = still_of; arrive = k.arrive; request = k.request }

  pub asks_of : AsksWell P (Each P)
  asks_of = record {
    work = λ ctx to work helper s h p. k.submit ctx to work helper s p;
    helper = λ s p. p;
    done = λ h s e p. k.change s (works.helper_ended h s) refl p;
    new_pipe = λ room s p. k.change s (with_pipe room s) refl p;
    other_pipe = λ i x s p. k.change s (with_pipe_at i x s) refl p;
  }

  pub with_helper_keeps : (granted : Bool) (s : State) → P s → P (works.with_helper granted s)
  with_helper_keeps granted s p = k.note (entry.Helper (length s.helpers) granted) _ tt (k.change s _ refl p)
