use Rattle.std.proofs.Common.{◌≡◌, ◌<◌, length}
use Rattle.ak_throttle.specs.Calls.{done_ivars}
use Rattle.ak_machine.specs.Throttles.{throttle_at, marks_filled}
use Rattle.ak_state.specs.Fits.{FitsSome}
use Rattle.ak_state.proofs.parts.Parts.fill_marks.Given as goal

-- those that are left come to what all come to
abbrev pub invariant-loop-i : goal.invariant-loop-i
invariant-loop-i l = record {
  throttle : l.t < length l.self.plain.throttles;
  fits : FitsSome l.self.plain;
  names : l.self.names ≡ l.initial.self.names;
  filled : marks_filled l.t l.self.plain ≡ marks_filled l.t l.initial.self.plain;
}

abbrev pub decreases-loop-i : goal.decreases-loop-i
decreases-loop-i l = length (done_ivars (throttle_at l.t l.self.plain))
