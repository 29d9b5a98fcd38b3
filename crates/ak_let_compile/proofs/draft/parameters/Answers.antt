use Rattle.std.proofs.Common.{◌+◌, sym, subst, ◌∙◌, arith}
use Rattle.ak_let.specs.Compile.{params_from}
use Rattle.ak_let_compile.proofs.Begins.{IsPut, param_put, all_put}
use Rattle.ak_let_compile.proofs.draft.parameters.Goals as goal

pub loop-name-preserved : goal.loop-name-preserved
loop-name-preserved c =
    subst (IsPut params_from (c.loop-name.name + 1) c.args.count) (sym c.in_ok-push.ensures.ok)
    (param_put c.loop-name.name c.args.count c.loop-name.params c.loop-name.invariant)

pub returns : goal.returns
returns c =
    c.in_ok-push-2.ensures.ok
    ∙ all_put params_from c.loop-name.name c.args.count c.loop-name.params (omega arith) (omega arith) c.loop-name.invariant
