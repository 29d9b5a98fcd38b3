use Rattle.std.proofs.Common.{refl}
use Rattle.ak_top.specs.declared.status.Status.TheVariants.{Done, WriteFault}
use Rattle.ak_top.proofs.Reporting.{check_reports, stop_reports_check}
use Rattle.ak_top.proofs.check.check_command.Goals as goal

pub returns-in-Ok-write_valid-clause-reports : goal.returns-in-Ok-write_valid-clause-reports
returns-in-Ok-write_valid-clause-reports g c =
    check_reports (g.S.Source.left c.args.source.now) Done c.without_run.result c.without_run.ensures refl tt c.in-Ok.ensures.valid c.in-Ok.ensures.refuses

pub returns-in-Err-write_valid-clause-reports : goal.returns-in-Err-write_valid-clause-reports
returns-in-Err-write_valid-clause-reports g c =
    check_reports (g.S.Source.left c.args.source.now) WriteFault c.without_run-in-Err-write_valid.result
    c.without_run-in-Err-write_valid.ensures refl tt c.in-Ok.ensures.valid c.in-Ok.ensures.refuses

pub returns-in-Err-clause-reports : goal.returns-in-Err-clause-reports
returns-in-Err-clause-reports g c =
    stop_reports_check (g.S.Source.left c.args.source.now) _ _ c.in-Err.stop c.status.result c.without_run-in-Err.result
    c.without_run-in-Err.ensures c.status.ensures c.in-Err.ensures.stop c.in-Err.ensures.refuses c.in-Err.ensures.accepts
