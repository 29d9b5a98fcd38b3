use Rattle.std.proofs.Common.{◌≡◌, ◌<◌, length, Some}
use Rattle.ak_monitor.specs.Monitors.{catcher}
use Rattle.ak_state.specs.Fits.{FitsSome}
use Rattle.ak_state.specs.Errors.{path_filled}
use Rattle.ak_state.proofs.parts.Parts.fill_path.Given as goal

-- what is left of the path comes to what all of it comes to
abbrev pub invariant-loop-at : goal.invariant-loop-at
invariant-loop-at l = record {
  monitor : l.at < length l.self.plain.monitors;
  above : l.c < length l.self.plain.monitors;
  caught : catcher l.self.plain.monitors l.at ≡ Some l.c;
  fits : FitsSome l.self.plain;
  names : l.self.names ≡ l.initial.self.names;
  filled : path_filled l.at l.c l.fn.num l.self.plain ≡ path_filled l.fn.mon l.c l.fn.num l.initial.self.plain;
}

abbrev pub decreases-loop-at : goal.decreases-loop-at
decreases-loop-at l = l.at
