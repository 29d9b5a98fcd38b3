use Rattle.std.proofs.Common.{◌≡◌, [], drop, refl, ◌∙◌, arith}
use Rattle.ak_valid.proofs.Binding.{param_twice, param_next, nothing_more}
use Rattle.ak_valid.proofs.LeastKinds.{drop_end}
use Rattle.ak_valid.proofs.binds.params.Goals as goal

pub loop-param-init : goal.loop-param-init
loop-param-init c = record { faults = refl; rest = refl }

pub returns-then-not-branch : goal.returns-then-not-branch
returns-then-not-branch c =
    let put = rw c.as_slice.ensures at c.in_ok-add.ensures in (
      param_twice c.loop-param.locals c.args.params.now c.loop-param.param-index c.param-item.result c.in_ok-add.field-0 _
          (omega arith) c.param-item.is put.0 c.if-not-branch.true c.loop-param.invariant.faults,
      λ h. cc,
    )

pub loop-param-preserved : goal.loop-param-preserved
loop-param-preserved c =
    let put = rw c.as_slice.ensures at c.in_ok-add.ensures in
    param_next c.loop-param.locals c.add.new.self c.args.params.now c.loop-param.param-index c.param-item.result c.in_ok-add.field-0 _ _
    (omega arith) c.param-item.is put.0 put.1 c.if-not-branch.false c.loop-param.invariant

pub returns : goal.returns
returns c =
    let none : drop c.loop-param.param-index c.args.params.now ≡ [] = drop_end c.args.params.now c.loop-param.param-index (omega arith) in
    (rw none at c.loop-param.invariant.faults, λ h. nothing_more c.loop-param.locals ∙ (rw none at c.loop-param.invariant.rest))
