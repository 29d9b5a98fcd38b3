use Rattle.std.proofs.Common.{◌≡◌, ◌<◌, length}
use Rattle.ak_machine.specs.Throttles.{throttle_at, drops_raised}
use Rattle.ak_state.proofs.parts.Parts.raise_drops.Given as goal

-- those that are left come to what all come to
abbrev pub invariant-loop-body : goal.invariant-loop-body
invariant-loop-body l = record {
  throttle : l.t < length l.self.plain.throttles;
  names : l.self.names ≡ l.initial.self.names;
  raised : drops_raised l.t l.self.plain ≡ drops_raised l.t l.initial.self.plain;
}

abbrev pub decreases-loop-body : goal.decreases-loop-body
decreases-loop-body l = length (throttle_at l.t l.self.plain).dropped
