use Rattle.std.proofs.Common.{◌≡◌, None, sym, ◌∙◌}
use Rattle.std.proofs.lemmas.Result.{err_from_is_err_and}
use Rattle.ak_let_reader.proofs.Firsts.{body_refused, head_refused}
use Rattle.ak_let_reader.proofs.names.function.Goals as goal

pub returns-in_err-refuse-clause-err : goal.returns-in_err-refuse-clause-err
returns-in_err-refuse-clause-err c =
    let p = err_from_is_err_and c.from_residual.result c.from_residual.ensures.1 in
    rw (p.1, p.2) (λ before are.
    head_refused c.args.named.now before c.args.fun.now c.head.result c.in_err-refuse.field-0.0 (c.head.ensures before are) c.in_err-refuse.ensures.err)

pub returns-in_err-lines-clause-err : goal.returns-in_err-lines-clause-err
returns-in_err-lines-clause-err c =
    let p = err_from_is_err_and c.from_residual-in_err-lines.result c.from_residual-in_err-lines.ensures.1 in
    rw (p.1, p.2) (λ before are.
    body_refused c.args.named.now before c.in_ok-known.known c.args.fun.now c.as_slice-2.result.now c.in_err-lines.field-0.0
    (sym (c.head.ensures before are) ∙ c.in_ok-refuse.ensures.ok) (c.in_ok-known.ensures ∙ c.as_slice.ensures) c.as_slice-2.ensures
    c.in_err-lines.ensures.err)
