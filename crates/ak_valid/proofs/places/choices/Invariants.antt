use Rattle.std.proofs.Common.{◌≡◌, take, map}
use Rattle.ak_valid.specs.Numbered.{numbered_choice, param_names, proc_names}
use Rattle.ak_valid.proofs.places.choices.Given as goal

abbrev pub invariant-loop-item : goal.invariant-loop-item
invariant-loop-item l = l.numbered.items ≡ map (numbered_choice (proc_names l.procs) (param_names l.locals)) (take l.item-index l.choices)
