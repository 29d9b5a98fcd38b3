-- Helpers one at a time.
use Rattle.std.specs.Prelude.{true, false}
use Rattle.ak_machine.specs.declared.held.HelperState.{HelperState}

-- a helper that was not asked for counts as refused
abbrev pub refused : HelperState
refused = record { granted = false; ended = true }

abbrev pub ended : HelperState → HelperState
ended helper = record helper { ended = true }
