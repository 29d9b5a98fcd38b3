use Rattle.std.proofs.Common.{◌+◌, sym, subst, ◌∙◌, arith}
use Rattle.std.proofs.lemmas.List.{append-nil}
use Rattle.ak_let.specs.Compile.{locals_from}
use Rattle.ak_let_compile.proofs.Begins.{IsPut, local_put, all_put}
use Rattle.ak_let_compile.proofs.locals.Locals.first.Goals as goal

pub loop-place-preserved : goal.loop-place-preserved
loop-place-preserved c =
    subst (IsPut locals_from (c.loop-place.place + 1) c.args.count) (sym c.in_ok-push.ensures.items)
    (local_put c.loop-place.place c.args.count c.loop-place.atoms.items c.loop-place.invariant)

pub returns : goal.returns
returns c =
    sym (append-nil c.loop-place.atoms.items)
    ∙ all_put locals_from c.loop-place.place c.args.count c.loop-place.atoms.items (omega arith) (omega arith) c.loop-place.invariant
