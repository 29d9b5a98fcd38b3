-- Who holds a name, as requests arrive and are answered.
use Rattle.std.proofs.Common.{ℕ, ℤ, List, [], ◌∷◌, length, refl, sym, subst, arith, cond, Bool, true, false, Option, Some, None, MatchOption, slice_get}
use Rattle.std.specs.Prelude.{◌==◌, nat_lt}
use Rattle.ak_script.specs.declared.script.Kind.{Kind}
use Rattle.ak_frames.specs.declared.value.Value.TheVariants.{Num}
use Rattle.ak_frames.specs.declared.frame.Ret.TheVariants.{To}
use Rattle.ak_frames.specs.declared.frame.Frame.TheVariants.{AnswerOut}
use Rattle.ak_trace.specs.declared.entry.Entry.TheVariants as entry
use Rattle.ak_program.specs.declared.program.NumProc.{NumProc}
use Rattle.ak_program.specs.Programs.{TakesOneNumber, IsAsk}
use Rattle.ak_machine.specs.declared.held.Requested.{Requested}
use Rattle.ak_machine.specs.State.{State}
use Rattle.ak_machine.specs.Deferred.{noting, with_ivar, register}
use Rattle.ak_machine.specs.Works.{with_request, answered}
use Rattle.ak_machine.specs.Cycle.{at_root, request_arrived, arrive_request, arrive_requests, served_by, requests_served, with_left}
use Rattle.ak_holders.proofs.Held.{moved, noted_held, drawn, drawn_held, register_held}
use Rattle.ak_holders.proofs.Monitors.{called_held}
use Rattle.ak_holders.specs.Typed.{Names, KindsFit, kinds_of, CallFits}
use Rattle.ak_holders.specs.Held.{Held, HeldBy}

-- what is kept of requests holds nothing
requests_set_held : (program : List NumProc) (p : Names) (hand : List ℕ) (requests : List Requested) (s : State) → Held program p hand s
    → Held program p hand (record s { requests = requests })
requests_set_held program p hand requests s h =
    moved program p hand hand s (record s { requests = requests }) refl refl h.typed (λ i. omega arith) h

pub request_answered_held : (program : List NumProc) (p : Names) (hand : List ℕ) (q : ℕ) (v : ℤ) (s : State) → Held program p hand s
    → Held program p hand (answered q v s)
request_answered_held program p hand q v s h =
    let requests : List Requested = (answered q v s).requests
    in noted_held program p hand (entry.Answer q v) (record s { requests = requests }) tt (requests_set_held program p hand requests s h)

pub left_held : (program : List NumProc) (p : Names) (hand : List ℕ) (left : ℕ) (s : State) → Held program p hand s
    → Held program p hand (with_left left s)
left_held program p hand left s h = moved program p hand hand s (with_left left s) refl refl h.typed (λ i. omega arith) h

-- `ask` takes the number of a request
ask_fits : (program : List NumProc) (ask : ℕ) (n : ℤ) → IsAsk program (Some ask) → CallFits program 0 ask (Num n ∷ [])
ask_fits program ask n f [] e = by (slice_get program ask) f
  where
    by : (o : Option NumProc) → MatchOption o ⊥ TakesOneNumber → MatchOption o ⊥ (λ (q : NumProc). KindsFit (kinds_of q.params) (Num n ∷ []))
    by None g = absurd g
    by (Some q) g = subst (λ (kinds : List Kind). KindsFit kinds (Num n ∷ [])) (sym g) (tt, tt)
ask_fits program ask n f (z ∷ nums) e = absurd (omega (arith, e))

-- the deferred of a request's answer is held by the call of `ask`
request_held : (program : List NumProc) (p : Names) (hand : List ℕ) (ask q : ℕ) (n : ℤ) (s : State) → IsAsk program (Some ask)
    → Held program p hand s → Held program (drawn (length s.cells.ivars) p) hand (request_arrived ask q n s)
request_held program p hand ask q n s f h =
    let r : ℕ = length s.cells.ivars
    in let names : Names = drawn r p
    in let kept : State = with_request q r (with_ivar s)
    in let noted : State = noting (entry.Request q n r) kept
    in called_held program names (r ∷ hand) hand at_root ask (Num n ∷ []) (To r) (register r at_root (AnswerOut q) noted) (ask_fits program ask n f)
    (tt, tt) (λ i. omega arith)
    (register_held program names (r ∷ hand) (r ∷ hand) r at_root (AnswerOut q) noted tt (λ i. omega arith)
    (noted_held program names (r ∷ hand) (entry.Request q n r) kept tt
    (requests_set_held program names (r ∷ hand) kept.requests (with_ivar s) (drawn_held program p hand s h))))

abbrev pub RequestsHeld : List NumProc → List ℕ → Option State → Type 0
RequestsHeld program hand None = Unit {0}
RequestsHeld program hand (Some s) = HeldBy program hand s

arrive_requests_held : (program : List NumProc) (hand : List ℕ) (ask : ℕ) → IsAsk program (Some ask)
    → (requests : List (ℕ × ℤ)) (s : State) → HeldBy program hand s → RequestsHeld program hand (arrive_requests ask requests s)
arrive_requests_held program hand ask f [] s h = h
arrive_requests_held program hand ask f (request ∷ requests) s h =
    more (arrive_request ask request s) (next (request.0 == length s.requests) (record {
      names = drawn (length s.cells.ivars) h.names;
      held = request_held program h.names hand ask request.0 request.1 s f h.held;
    }))
    (λ t g. arrive_requests_held program hand ask f requests t g)
  where
    next : (b : Bool) → HeldBy program hand (request_arrived ask request.0 request.1 s)
        → RequestsHeld program hand (cond b (Some (request_arrived ask request.0 request.1 s)) None)
    next true g = g
    next false g = tt

    more : (o : Option State) → RequestsHeld program hand o
        → ((t : State) → HeldBy program hand t → RequestsHeld program hand (arrive_requests ask requests t))
        → RequestsHeld program hand (elim o [ None ↦ None | Some t ↦ arrive_requests ask requests t ])
    more None g r = tt
    more (Some t) g r = r t g

-- where there are no askers, no procedure serves them
is_served_by : (program : List NumProc) (ask : Option ℕ) (askers : ℕ) → IsAsk program ask → IsAsk program (served_by ask askers)
is_served_by program ask askers f = by (nat_lt 0 askers)
  where
    by : (b : Bool) → IsAsk program (cond b ask None)
    by true = f
    by false = tt

served_held : (program : List NumProc) (hand : List ℕ) (ask : Option ℕ) (requests : List (ℕ × ℤ)) (s : State) → IsAsk program ask
    → HeldBy program hand s → RequestsHeld program hand (requests_served ask requests s)
served_held program hand (Some ask) requests s f h = arrive_requests_held program hand ask f requests s h
served_held program hand None [] s f h = h
served_held program hand None (request ∷ requests) s f h = tt

-- the requests of a drain, in a run with so many askers
pub requests_held : (program : List NumProc) (hand : List ℕ) (ask : Option ℕ) (askers : ℕ) (requests : List (ℕ × ℤ)) (s : State)
    → IsAsk program ask → HeldBy program hand s → RequestsHeld program hand (requests_served (served_by ask askers) requests s)
requests_held program hand ask askers requests s f h =
    served_held program hand (served_by ask askers) requests s (is_served_by program ask askers f) h
