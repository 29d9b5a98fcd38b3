use Rattle.std.proofs.Common.{◌≡◌, [], drop, sym, refl, ◌∙◌, arith}
use Rattle.std.proofs.lemmas.Result.{err_from_is_err_and}
use Rattle.ak_valid.specs.Faults.{first_fault, body_lines}
use Rattle.ak_valid.proofs.Binding.{nothing_more}
use Rattle.ak_valid.proofs.LeastKinds.{drop_end}
use Rattle.ak_valid.proofs.Lines.{line_refused, line_walked}
use Rattle.ak_valid.proofs.check.body.Goals as goal

pub loop-statement-init : goal.loop-statement-init
loop-statement-init c = record { faults = refl; rest = refl }

pub returns-in_err-line-clause-err : goal.returns-in_err-line-clause-err
returns-in_err-line-clause-err c =
    let p = err_from_is_err_and c.from_residual.result c.from_residual.ensures.1 in
    rw (p.1, p.2) (line_refused c.args.procs.now c.loop-statement.locals c.args.body.now c.loop-statement.statement-index
    (first_fault (body_lines c.args.procs.now c.args.locals.now c.args.body.now)) _ c.statement-item.result c.in_err-line.field-0.0
    (omega arith) c.statement-item.is c.loop-statement.invariant c.in_err-line.ensures.err)

pub loop-statement-preserved : goal.loop-statement-preserved
loop-statement-preserved c =
    line_walked c.args.procs.now c.loop-statement.locals c.line.new.locals c.args.body.now c.loop-statement.statement-index _ _
    c.statement-item.result (omega arith) c.statement-item.is c.loop-statement.invariant c.in_ok-line.ensures.ok.0 c.in_ok-line.ensures.ok.1

pub returns-clause-ok : goal.returns-clause-ok
returns-clause-ok c =
    let none : drop c.loop-statement.statement-index c.args.body.now ≡ [] = drop_end c.args.body.now c.loop-statement.statement-index (omega arith) in
    (sym (rw none at c.loop-statement.invariant.faults), nothing_more c.loop-statement.locals ∙ (rw none at c.loop-statement.invariant.rest))
