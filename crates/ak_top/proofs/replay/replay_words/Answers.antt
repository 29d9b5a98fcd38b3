use Rattle.std.proofs.Common.{ap, subst, rules}
use Rattle.ak_labor.specs.declared.config.Config.{Config}
use Rattle.ak_words.specs.declared.command.Command.{Command}
use Rattle.ak_words.specs.declared.command.Command.TheVariants.{Replay}
use Rattle.ak_words.specs.declared.command.Order.TheVariants as order
use Rattle.ak_words.proofs.Meanings.{one_command, has_limit, has_few_askers}
use Rattle.ak_top.specs.Commands.{Reports}
use Rattle.ak_top.specs.declared.status.Report.{Report}
use Rattle.ak_top.proofs.Usages.{usage_told}
use Rattle.ak_top.proofs.Replaying.{replay_ends_well}
use Rattle.ak_top.proofs.replay.replay_words.Goals as goal

pub replay_command-requires-clause-limit : goal.replay_command-requires-clause-limit
replay_command-requires-clause-limit g c =
    has_limit order.Replay c.args.words.now c.in-Ok-Replay.config (rw c.in-Ok-Replay.field-0-is at c.in-Ok-Replay.ensures.command)

pub replay_command-requires-clause-askers : goal.replay_command-requires-clause-askers
replay_command-requires-clause-askers g c =
    has_few_askers c.args.words.now c.in-Ok-Replay.config (rw c.in-Ok-Replay.field-0-is at c.in-Ok-Replay.ensures.command)

pub returns-in-Ok-Replay-clause-reports : goal.returns-in-Ok-Replay-clause-reports
returns-in-Ok-Replay-clause-reports g c = λ config means.
    subst (λ (d : Command). Reports d (g.S.Source.left c.args.source.now) c.replay_command.result)
    (one_command c.args.words.now (Replay c.in-Ok-Replay.config) (Replay config)
    (rw c.in-Ok-Replay.field-0-is at c.in-Ok-Replay.ensures.command) means)
    c.replay_command.ensures.reports

pub returns-in-Ok-Replay-clause-complete : goal.returns-in-Ok-Replay-clause-complete
returns-in-Ok-Replay-clause-complete g c = λ config means told reads writes.
    replay_ends_well config (g.S.Source.left c.args.source.now) c.replay_command.result
    (returns-in-Ok-Replay-clause-reports g c config means) told
    (λ e. reads (c.replay_command.ensures.read_fault e)) (λ e. writes (c.replay_command.ensures.write_fault e))

pub returns-in-Err-clause-reports : goal.returns-in-Err-clause-reports
returns-in-Err-clause-reports g c = λ config means. absurd (c.in-Err.ensures.usage.no_command (Replay config, means))

pub returns-in-Err-clause-complete : goal.returns-in-Err-clause-complete
returns-in-Err-clause-complete g c = λ config means told reads writes. absurd (c.in-Err.ensures.usage.no_command (Replay config, means))

pub returns-in-Err-clause-usage : goal.returns-in-Err-clause-usage
returns-in-Err-clause-usage g c place =
    usage_told c.args.words.now c.in-Err.place place c.without_run.result.status (ap (λ (r : Report). r.status) c.without_run.ensures) c.in-Err.ensures.usage
