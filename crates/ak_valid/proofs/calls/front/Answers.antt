use Rattle.std.proofs.Common.{◌≡◌, take, arith}
use Rattle.std.proofs.lemmas.List.{take_all}
use Rattle.ak_valid.specs.Faults.{front_faults}
use Rattle.ak_valid.proofs.LeastKinds.{least_next}
use Rattle.ak_valid.proofs.calls.front.Goals as goal

pub loop-param-preserved : goal.loop-param-preserved
loop-param-preserved c =
    least_next (front_faults) c.args.params.now c.loop-param.param-index c.param-item.result c.loop-param.fault _ c.kind.result
    (omega arith) c.param-item.is c.loop-param.invariant c.kind.ensures c.lesser-fault.ensures

pub returns : goal.returns
returns c =
    let whole : take c.loop-param.param-index c.args.params.now ≡ c.args.params.now = take_all c.loop-param.param-index c.args.params.now (omega arith) in
    (rw whole at c.loop-param.invariant)
