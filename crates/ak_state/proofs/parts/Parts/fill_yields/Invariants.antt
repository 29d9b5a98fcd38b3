use Rattle.std.proofs.Common.{◌≡◌, length}
use Rattle.ak_machine.specs.Alarms.{yields_filled}
use Rattle.ak_state.specs.Fits.{FitsSome}
use Rattle.ak_state.proofs.parts.Parts.fill_yields.Given as goal

-- those that are left come to what all come to
abbrev pub invariant-loop-i : goal.invariant-loop-i
invariant-loop-i l = record {
  fits : FitsSome l.self.plain;
  names : l.self.names ≡ l.initial.self.names;
  filled : yields_filled l.self.plain ≡ yields_filled l.initial.self.plain;
}

abbrev pub decreases-loop-i : goal.decreases-loop-i
decreases-loop-i l = length l.self.plain.clock.yields
