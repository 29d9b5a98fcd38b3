use Rattle.std.proofs.Common.{◌≡◌, length}
use Rattle.ak_clock.specs.Calls.{due_ivars}
use Rattle.ak_machine.specs.Alarms.{alarms_filled}
use Rattle.ak_state.specs.Fits.{FitsSome}
use Rattle.ak_state.proofs.parts.Parts.fill_alarms.Given as goal

-- those that are left come to what all come to
abbrev pub invariant-loop-i : goal.invariant-loop-i
invariant-loop-i l = record {
  fits : FitsSome l.self.plain;
  names : l.self.names ≡ l.initial.self.names;
  filled : alarms_filled l.self.plain ≡ alarms_filled l.initial.self.plain;
}

abbrev pub decreases-loop-i : goal.decreases-loop-i
decreases-loop-i l = length (due_ivars l.self.plain.clock)
