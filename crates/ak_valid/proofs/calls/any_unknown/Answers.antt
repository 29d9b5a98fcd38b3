use Rattle.std.proofs.Common.{◌≡◌, take, arith}
use Rattle.std.proofs.lemmas.List.{take_all}
use Rattle.ak_valid.specs.Faults.{unknown_faults}
use Rattle.ak_valid.proofs.LeastKinds.{least_next}
use Rattle.ak_valid.proofs.calls.any_unknown.Goals as goal

pub loop-a-preserved : goal.loop-a-preserved
loop-a-preserved c = least_next (unknown_faults c.args.locals.now) c.args.args.now c.loop-a.a-index c.a-item.result c.loop-a.fault _
    c.unknown.result (omega arith) c.a-item.is c.loop-a.invariant c.unknown.ensures c.lesser-fault.ensures

pub returns : goal.returns
returns c =
    let whole : take c.loop-a.a-index c.args.args.now ≡ c.args.args.now = take_all c.loop-a.a-index c.args.args.now (omega arith) in
    (rw whole at c.loop-a.invariant)
