use Rattle.std.proofs.Common.{◌≡◌, take, map}
use Rattle.ak_valid.specs.Numbered.{numbered_atom, param_names}
use Rattle.ak_valid.proofs.places.args.Given as goal

abbrev pub invariant-loop-a : goal.invariant-loop-a
invariant-loop-a l = l.numbered.items ≡ map (numbered_atom (param_names l.locals)) (take l.a-index l.args)
