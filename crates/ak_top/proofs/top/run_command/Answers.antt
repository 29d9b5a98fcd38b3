use Rattle.ak_top.proofs.Reporting.{run_reports, stop_reports_run}
use Rattle.ak_top.proofs.Hands.{after_run, after_stop}
use Rattle.ak_top.proofs.top.run_command.Goals as goal

pub returns-in-Ok-clause-reports : goal.returns-in-Ok-clause-reports
returns-in-Ok-clause-reports g c =
    run_reports c.args.config (g.S.Source.left c.args.source.now) c.write_run.result c.in-Ok.ran.trace c.in-Ok.ran.history
    c.write_run.ensures.trace c.write_run.ensures.history
    c.write_run.ensures.status (rw c.in-Ok.is at c.run_source-answer.ensures.ran) (rw c.in-Ok.is at c.run_source-answer.ensures.refuses)

pub returns-in-Ok-clause-hands : goal.returns-in-Ok-clause-hands
returns-in-Ok-clause-hands g c =
    after_run g.L.Labor.carried c.args.hands.items c.run_source-answer.result.1.items c.write_run.result c.in-Ok.ran.trace
    c.in-Ok.ran.history c.write_run.ensures.history c.write_run.ensures.status (rw c.in-Ok.is at c.run_source-answer.ensures.carried)

pub returns-in-Err-clause-reports : goal.returns-in-Err-clause-reports
returns-in-Err-clause-reports g c =
    stop_reports_run c.args.config (g.S.Source.left c.args.source.now) _ _ c.in-Err.stop c.status.result c.without_run.result
    c.without_run.ensures c.status.ensures (rw c.in-Err.is at c.run_source-answer.ensures.stop)
    (rw c.in-Err.is at c.run_source-answer.ensures.refuses) (rw c.in-Err.is at c.run_source-answer.ensures.accepts)

pub returns-in-Err-clause-hands : goal.returns-in-Err-clause-hands
returns-in-Err-clause-hands g c =
    after_stop g.L.Labor.carried c.args.hands.items c.run_source-answer.result.1.items c.in-Err.stop c.status.result c.without_run.result
    c.without_run.ensures c.status.ensures (rw c.in-Err.is at c.run_source-answer.ensures.kept)
