use Rattle.std.proofs.Common.{◌≡◌, ◌∷◌, []}
use Rattle.std.proofs.lemmas.Result.{err_from_is_err_and}
use Rattle.ak_valid.specs.Numbered.{param_names}
use Rattle.ak_valid.specs.Faults.{twice_named, main_faults, head_faults, least}
use Rattle.ak_valid.proofs.Lines.{three_parts, refused_line}
use Rattle.ak_valid.proofs.check.head.Goals as goal

pub returns-in_err-refuse-clause-err : goal.returns-in_err-refuse-clause-err
returns-in_err-refuse-clause-err c =
    let p = err_from_is_err_and c.from_residual-in_err-refuse.result c.from_residual-in_err-refuse.ensures.1 in
    let params : c.in_ok-params.params ≡ least (twice_named [] (param_names c.args.proc.now.params)) =
    rw (c.in_ok-locals.ensures, c.as_slice.ensures) at c.in_ok-params.ensures.0 in
    let all : c.lesser-2.result ≡ least (head_faults c.args.seen.now c.args.proc.now) =
    three_parts (twice_named c.args.seen.now (c.args.proc.now.name ∷ [])) (twice_named [] (param_names c.args.proc.now.params))
    (main_faults c.args.proc.now)
    c.in_ok-twice.twice c.in_ok-params.params c.main.result c.lesser.result c.lesser-2.result c.in_ok-twice.ensures.0 params
    c.main.ensures c.lesser.ensures c.lesser-2.ensures in
    rw (p.1) (refused_line c.args.proc.now.line c.lesser-2.result _ p.0 c.in_err-refuse.field-0.0 all p.2 c.in_err-refuse.ensures.err)
