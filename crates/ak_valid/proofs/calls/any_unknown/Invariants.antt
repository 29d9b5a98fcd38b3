use Rattle.std.proofs.Common.{◌≡◌, take}
use Rattle.std.specs.List.{flat_map}
use Rattle.ak_valid.specs.Faults.{least, unknown_faults}
use Rattle.ak_valid.proofs.calls.any_unknown.Given as goal

abbrev pub invariant-loop-a : goal.invariant-loop-a
invariant-loop-a l = l.fault ≡ least (flat_map (unknown_faults l.locals) (take l.a-index l.args))
