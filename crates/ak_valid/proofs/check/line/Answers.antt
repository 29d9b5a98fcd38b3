use Rattle.std.proofs.Common.{◌≡◌, None, List, sym, ◌∙◌}
use Rattle.std.proofs.lemmas.Result.{err_from_is_err_and}
use Rattle.std.specs.List.{flat_map}
use Rattle.ak_script.specs.declared.script.Param.{Param}
use Rattle.ak_script.specs.Statements.{binds}
use Rattle.ak_valid.specs.Numbered.{param_names}
use Rattle.ak_valid.specs.Uses.{uses, callees}
use Rattle.ak_valid.specs.Valid.{prefix_uses}
use Rattle.ak_valid.specs.Faults.{twice_named, use_faults, callee_faults, statement_faults, least}
use Rattle.ak_valid.proofs.Lines.{four_parts, refused_line, first_none}
use Rattle.ak_valid.proofs.check.line.Goals as goal

pub returns-in_err-refuse-clause-err : goal.returns-in_err-refuse-clause-err
returns-in_err-refuse-clause-err c =
    let known : List Param = c.args.locals.now in
    let all : c.lesser-3.result ≡ least (statement_faults c.args.procs.now known c.args.statement.now) =
    four_parts (twice_named (param_names known) (param_names (binds c.args.statement.now.stmt)))
    (flat_map (use_faults known) (prefix_uses c.args.statement.now.prefix))
    (flat_map (use_faults known) (uses c.args.statement.now.stmt))
    (flat_map (callee_faults c.args.procs.now known) (callees c.args.statement.now.stmt)) c.in_ok-twice.twice
    c.prefix-condition.result c.statement-used.result c.statement-called.result c.lesser.result
    c.lesser-2.result c.lesser-3.result c.in_ok-twice.ensures.0 c.prefix-condition.ensures c.statement-used.ensures
    c.statement-called.ensures c.lesser.ensures c.lesser-2.ensures c.lesser-3.ensures in
    let p = err_from_is_err_and c.from_residual-in_err-refuse.result c.from_residual-in_err-refuse.ensures.1 in
    rw (p.1) (refused_line c.args.statement.now.line c.lesser-3.result _ p.0 c.in_err-refuse.field-0.0 all p.2 c.in_err-refuse.ensures.err)

pub returns-clause-ok : goal.returns-clause-ok
returns-clause-ok c =
    let known : List Param = c.args.locals.now in
    let all : c.lesser-3.result ≡ least (statement_faults c.args.procs.now known c.args.statement.now) =
    four_parts (twice_named (param_names known) (param_names (binds c.args.statement.now.stmt)))
    (flat_map (use_faults known) (prefix_uses c.args.statement.now.prefix))
    (flat_map (use_faults known) (uses c.args.statement.now.stmt))
    (flat_map (callee_faults c.args.procs.now known) (callees c.args.statement.now.stmt)) c.in_ok-twice.twice
    c.prefix-condition.result c.statement-used.result c.statement-called.result c.lesser.result
    c.lesser-2.result c.lesser-3.result c.in_ok-twice.ensures.0 c.prefix-condition.ensures c.statement-used.ensures
    c.statement-called.ensures c.lesser.ensures c.lesser-2.ensures c.lesser-3.ensures in
    let none : c.lesser-3.result ≡ None = c.in_ok-refuse.ensures.ok in
    let first = first_none c.in_ok-twice.twice c.prefix-condition.result c.lesser.result c.lesser.ensures
    (first_none c.lesser.result c.statement-used.result c.lesser-2.result c.lesser-2.ensures
    (first_none c.lesser-2.result c.statement-called.result c.lesser-3.result c.lesser-3.ensures none)) in
    (sym all ∙ none, c.in_ok-twice.ensures.1 first)
