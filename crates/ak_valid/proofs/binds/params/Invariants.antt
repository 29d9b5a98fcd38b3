use Rattle.std.proofs.Common.{◌++◌}
use Rattle.ak_valid.specs.Numbered.{param_names}
use Rattle.ak_valid.specs.Faults.{twice_named, least}
use Rattle.ak_valid.proofs.Binding.{Bound}
use Rattle.ak_valid.proofs.binds.params.Given as goal

abbrev pub invariant-loop-param : goal.invariant-loop-param
invariant-loop-param l =
    Bound l.locals l.params l.param-index (least (twice_named (param_names l.initial.locals) (param_names l.params)))
    (l.initial.locals ++ l.params)
