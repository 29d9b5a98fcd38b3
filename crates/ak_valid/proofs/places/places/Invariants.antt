use Rattle.std.proofs.Common.{◌≡◌, take, map}
use Rattle.ak_valid.specs.Numbered.{at, param_names}
use Rattle.ak_valid.proofs.places.places.Given as goal

abbrev pub invariant-loop-name : goal.invariant-loop-name
invariant-loop-name l = l.numbered.items ≡ map (at (param_names l.locals)) (take l.name-index l.names)
