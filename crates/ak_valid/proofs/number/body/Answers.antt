use Rattle.std.proofs.Common.{◌≡◌, take, ◌∙◌, arith}
use Rattle.std.proofs.lemmas.List.{take_all}
use Rattle.ak_valid.specs.Numbered.{numbered_statement, param_names, proc_names}
use Rattle.ak_valid.proofs.Mapping.{mapped_next}
use Rattle.ak_valid.proofs.number.body.Goals as goal

pub loop-statement-preserved : goal.loop-statement-preserved
loop-statement-preserved c =
    mapped_next (numbered_statement (proc_names c.args.procs.now) (param_names c.args.locals.now)) c.args.body.now
    c.loop-statement.statement-index c.statement-item.result c.loop-statement.numbered.items _ _
    (omega arith) c.statement-item.is c.loop-statement.invariant c.in_ok-push.ensures.items c.in_ok-line.ensures

pub returns : goal.returns
returns c =
    let whole : take c.loop-statement.statement-index c.args.body.now ≡ c.args.body.now =
    take_all c.loop-statement.statement-index c.args.body.now (omega arith) in
    c.from_vec.ensures ∙ (rw whole at c.loop-statement.invariant)
