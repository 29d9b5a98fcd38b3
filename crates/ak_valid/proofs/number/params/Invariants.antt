use Rattle.std.proofs.Common.{◌≡◌, take, map}
use Rattle.ak_valid.specs.Numbered.{numbered_param, param_names}
use Rattle.ak_valid.proofs.number.params.Given as goal

abbrev pub invariant-loop-item : goal.invariant-loop-item
invariant-loop-item l = l.numbered.items ≡ map (numbered_param (param_names l.locals)) (take l.item-index l.params)
