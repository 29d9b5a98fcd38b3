use Rattle.ak_top.proofs.Replaying.{replay_reports, stop_reports_replay}
use Rattle.ak_top.proofs.replay.replay_command.Goals as goal

pub returns-in-Ok-clause-reports : goal.returns-in-Ok-clause-reports
returns-in-Ok-clause-reports g c =
    replay_reports c.args.config (g.S.Source.left c.args.source.now) c.write_run.result c.in-Ok.ran.trace c.in-Ok.ran.history
    c.write_run.ensures.trace c.write_run.ensures.history c.write_run.ensures.status c.in-Ok.ensures.ran c.in-Ok.ensures.tells

pub returns-in-Err-clause-reports : goal.returns-in-Err-clause-reports
returns-in-Err-clause-reports g c =
    stop_reports_replay c.args.config (g.S.Source.left c.args.source.now) c.in-Err.status c.without_run.result c.without_run.ensures
    c.in-Err.ensures.bare c.in-Err.ensures.caused c.in-Err.ensures.tells
