-- What comes to a throttle and to its bodies, step by step.
use Rattle.std.specs.Prelude.{ℕ, List, Bool, true, false, Option, Some, None}
use Rattle.ak_base.specs.declared.number.Ctx.{Ctx}
use Rattle.ak_base.specs.Lists.{first_of}
use Rattle.ak_frames.specs.declared.frame.BodyId.{BodyId}
use Rattle.ak_frames.specs.declared.value.Value.{Value}
use Rattle.ak_throttle.specs.declared.answer.Enqueued.{Enqueued}
use Rattle.ak_throttle.specs.declared.answer.Enqueued.TheVariants.{Start, Waits}
use Rattle.ak_throttle.specs.Throttle as throttle
use Rattle.ak_throttle.specs.Calls.{done_given}
use Rattle.ak_machine.specs.declared.held.Body.{Body}
use Rattle.ak_machine.specs.declared.held.Started.{Started}
use Rattle.ak_machine.specs.declared.held.Fate.{Fate}
use Rattle.ak_machine.specs.declared.held.Fate.TheVariants.{Undecided, Failing, Over}
use Rattle.ak_machine.specs.State.{State}
use Rattle.ak_machine.specs.Deferred.{with_ivar}
use Rattle.ak_machine.specs.Effect.{call_to_fresh}
use Rattle.ak_machine.specs.Mapped.{body_mapped}
use Rattle.ak_machine.specs.Throttles.{throttle_at, with_throttle_at, started_at, body_enqueued}

-- a throttle of the state after a step of its own
abbrev pub stepped : (throttle.Throttle Body → throttle.Throttle Body) → ℕ → State → State
stepped step t s = with_throttle_at t (step (throttle_at t s)) s

-- a body is enqueued for a fresh deferred
abbrev pub body_begun : ℕ → Ctx → ℕ → List Value → State → State
body_begun t ctx proc vals s =
    body_enqueued t (record { ctx = ctx; call = call_to_fresh s proc vals }) (with_ivar s)

-- a body that was enqueued, with other numbers in place of the ivars'
abbrev pub placed_mapped : (ℕ → ℕ) → Enqueued Body → Enqueued Body
placed_mapped f (Start n body) = Start n (body_mapped f body)
placed_mapped f (Waits n) = Waits n

-- a body that starts, with its number
abbrev pub front_mapped : (ℕ → ℕ) → ℕ × Body → ℕ × Body
front_mapped f front = (front.0, body_mapped f front.1)

-- a body of this fate, where it is undecided
abbrev pub undecided_of : Fate → Started → Option Started
undecided_of Undecided body = Some body
undecided_of Failing body = None
undecided_of Over body = None

-- a body, where it is undecided
abbrev pub undecided : BodyId → State → Option Started
undecided b s = undecided_of (started_at b s).fate (started_at b s)

-- whether an error decided a body, and the job in which it fails has not run
abbrev pub is_failing : Fate → Bool
is_failing Undecided = false
is_failing Failing = true
is_failing Over = false

-- the front dropped body, where there is one
abbrev pub first_dropped : ℕ → State → Option Body
first_dropped t s = first_of (throttle_at t s).dropped

-- the oldest deferred whose bodies are over, where there is one
abbrev pub first_done : ℕ → State → Option ℕ
first_done t s = done_given (throttle_at t s)
