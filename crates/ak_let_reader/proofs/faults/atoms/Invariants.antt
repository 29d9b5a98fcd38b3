use Rattle.std.proofs.Common.{◌≡◌, take}
use Rattle.std.specs.List.{flat_map}
use Rattle.ak_let_reader.specs.NameFaults.{least, use_faults}
use Rattle.ak_let_reader.proofs.faults.atoms.Given as goal

abbrev pub invariant-loop-a : goal.invariant-loop-a
invariant-loop-a l = l.fault ≡ least (flat_map (use_faults l.known) (take l.a-index l.atoms))
