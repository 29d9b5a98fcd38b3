use Rattle.std.proofs.Common.{◌≡◌, take}
use Rattle.std.specs.List.{flat_map}
use Rattle.ak_valid.specs.Faults.{least, front_faults}
use Rattle.ak_valid.proofs.calls.front.Given as goal

abbrev pub invariant-loop-param : goal.invariant-loop-param
invariant-loop-param l = l.fault ≡ least (flat_map (front_faults) (take l.param-index l.params))
