-- Requests one at a time.
use Rattle.std.specs.Prelude.{ℕ, ℤ, true, slice_set}
use Rattle.ak_machine.specs.declared.held.Requested.{Requested}
use Rattle.ak_machine.specs.State.{State, next_ivar}
use Rattle.ak_machine.specs.Deferred.{noting, with_ivar, register}
use Rattle.ak_frames.specs.declared.frame.Frame.TheVariants.{AnswerOut}
use Rattle.ak_trace.specs.declared.entry.Entry.TheVariants as entry
use Rattle.ak_machine.specs.Works.{with_request, request_at}
use Rattle.ak_machine.specs.Cycle.{at_root}

-- a request that has not come counts as answered
abbrev pub absent : ℕ → Requested
absent q = record { number = q; to = 0; answered = true }

abbrev pub answered : Requested → Requested
answered request = record request { answered = true }

-- a request comes with its number, and its answer waits for a fresh deferred
abbrev pub with_answer_out : ℕ → ℤ → State → State
with_answer_out q n s =
    register (next_ivar s) at_root (AnswerOut q) (noting (entry.Request q n (next_ivar s)) (with_request q (next_ivar s) (with_ivar s)))

-- a request has its answer, before that is noted
abbrev pub with_answered : ℕ → State → State
with_answered q s = record s { requests = slice_set s.requests q (answered (request_at q s)) }
