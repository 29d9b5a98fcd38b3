use Rattle.std.proofs.Common.{◌≡◌, map, take}
use Rattle.ak_let_reader.specs.Numbered.{numbered_atom}
use Rattle.ak_let_reader.proofs.number.atoms.Given as goal

abbrev pub invariant-loop-a : goal.invariant-loop-a
invariant-loop-a l = l.numbered.items ≡ map (numbered_atom l.known) (take l.a-index l.atoms)
