use Rattle.std.proofs.Common.{◌≡◌}
use Rattle.ak_valid.specs.Faults.{lesser, least, args_faults}
use Rattle.ak_valid.proofs.calls.all_passed.Given as goal

abbrev pub invariant-loop-a : goal.invariant-loop-a
invariant-loop-a l = lesser l.fault (least (args_faults l.locals l.a-iterator.a.rest.now l.a-iterator.b.rest.now))
    ≡ least (args_faults l.locals l.args l.params)
