use Rattle.std.proofs.Common.{◌≡◌, ap, sym, subst, refl, arith, ◌∙◌}
use Rattle.ak_meets.specs.Meets.{Yes}
use Rattle.ak_words.specs.declared.command.Command.{Command}
use Rattle.ak_words.specs.declared.command.Command.TheVariants.{Run, Replay, Check}
use Rattle.ak_words.specs.declared.command.Order.TheVariants as order
use Rattle.ak_words.proofs.Meanings.{one_command, has_limit, has_threads, has_no_askers, has_few_askers}
use Rattle.ak_top.specs.declared.status.Report.{Report}
use Rattle.ak_top.specs.Commands.{Reports, TellsWhole}
use Rattle.ak_top.specs.Replays.{Goes, GivesTold}
use Rattle.ak_top.proofs.Hands.{after_command}
use Rattle.ak_top.proofs.Replaying.{replay_ends_well}
use Rattle.ak_top.proofs.Usages.{usage_told}
use Rattle.ak_top.proofs.top.top.Goals as goal

pub run_command-requires-clause-limit : goal.run_command-requires-clause-limit
run_command-requires-clause-limit g c κs within =
    has_limit order.Run c.args.words.now c.in-Ok-Run.config (rw c.in-Ok-Run.field-0-is at c.in-Ok-Run.ensures.command)

pub run_command-requires-clause-threads : goal.run_command-requires-clause-threads
run_command-requires-clause-threads g c κs within =
    has_threads order.Run c.args.words.now c.in-Ok-Run.config (rw c.in-Ok-Run.field-0-is at c.in-Ok-Run.ensures.command)

pub run_command-requires-clause-askers : goal.run_command-requires-clause-askers
run_command-requires-clause-askers g c κs within =
    has_no_askers c.args.words.now c.in-Ok-Run.config (rw c.in-Ok-Run.field-0-is at c.in-Ok-Run.ensures.command)

pub run_command-requires-clause-hands : goal.run_command-requires-clause-hands
run_command-requires-clause-hands g c κs within =
    let most = has_threads order.Run c.args.words.now c.in-Ok-Run.config (rw c.in-Ok-Run.field-0-is at c.in-Ok-Run.ensures.command) in
    (omega (arith, most.1, c.requires.hands.0), c.requires.hands.1)

pub returns-in-Ok-Run-clause-reports : goal.returns-in-Ok-Run-clause-reports
returns-in-Ok-Run-clause-reports g c = λ command means.
    subst (λ d. Reports d (g.S.Source.left c.args.source.now) c.run_command.result.0)
    (one_command c.args.words.now (Run c.in-Ok-Run.config) command (rw c.in-Ok-Run.field-0-is at c.in-Ok-Run.ensures.command) means)
    c.run_command.ensures.reports

pub returns-in-Ok-Run-clause-hands : goal.returns-in-Ok-Run-clause-hands
returns-in-Ok-Run-clause-hands g c = λ command means.
    after_command g.L.Labor.carried c.args.hands.items c.run_command.result.1.items (Run c.in-Ok-Run.config) command c.run_command.result.0
    (one_command c.args.words.now (Run c.in-Ok-Run.config) command (rw c.in-Ok-Run.field-0-is at c.in-Ok-Run.ensures.command) means) c.run_command.ensures.hands

pub returns-in-Ok-Check-clause-hands : goal.returns-in-Ok-Check-clause-hands
returns-in-Ok-Check-clause-hands g c = λ command means.
    after_command g.L.Labor.carried c.args.hands.items c.args.hands.items Check command c.check_command.result
    (one_command c.args.words.now Check command (rw c.in-Ok-Check.field-0-is at c.in-Ok-Check.ensures.command) means) refl

pub returns-in-Err-clause-hands : goal.returns-in-Err-clause-hands
returns-in-Err-clause-hands g c = λ command means. absurd (c.in-Err.ensures.usage.no_command (command, means))

pub returns-in-Err-clause-usage : goal.returns-in-Err-clause-usage
returns-in-Err-clause-usage g c place =
    usage_told c.args.words.now c.in-Err.place place c.without_run.result.status (ap (λ (r : Report). r.status) c.without_run.ensures) c.in-Err.ensures.usage

pub replay_command-requires-clause-limit : goal.replay_command-requires-clause-limit
replay_command-requires-clause-limit g c =
    has_limit order.Replay c.args.words.now c.in-Ok-Replay.config (rw c.in-Ok-Replay.field-0-is at c.in-Ok-Replay.ensures.command)

pub replay_command-requires-clause-askers : goal.replay_command-requires-clause-askers
replay_command-requires-clause-askers g c =
    has_few_askers c.args.words.now c.in-Ok-Replay.config (rw c.in-Ok-Replay.field-0-is at c.in-Ok-Replay.ensures.command)

pub returns-in-Ok-Replay-clause-hands : goal.returns-in-Ok-Replay-clause-hands
returns-in-Ok-Replay-clause-hands g c = λ command means.
    after_command g.L.Labor.carried c.args.hands.items c.args.hands.items (Replay c.in-Ok-Replay.config) command c.replay_command.result
    (one_command c.args.words.now (Replay c.in-Ok-Replay.config) command (rw c.in-Ok-Replay.field-0-is at c.in-Ok-Replay.ensures.command) means) refl

pub returns-in-Ok-Replay-clause-reports : goal.returns-in-Ok-Replay-clause-reports
returns-in-Ok-Replay-clause-reports g c = λ command means.
    subst (λ d. Reports d (g.S.Source.left c.args.source.now) c.replay_command.result)
    (one_command c.args.words.now (Replay c.in-Ok-Replay.config) command (rw c.in-Ok-Replay.field-0-is at c.in-Ok-Replay.ensures.command) means)
    c.replay_command.ensures.reports

pub returns-in-Ok-Replay-clause-complete : goal.returns-in-Ok-Replay-clause-complete
returns-in-Ok-Replay-clause-complete g c = λ command means told reads writes.
    let left = g.S.Source.left c.args.source.now in
    let same : Replay c.in-Ok-Replay.config ≡ command =
    one_command c.args.words.now (Replay c.in-Ok-Replay.config) command (rw c.in-Ok-Replay.field-0-is at c.in-Ok-Replay.ensures.command) means in
    let given : GivesTold c.in-Ok-Replay.config left (Goes Yes) = subst (λ (d : Command). TellsWhole d left) (sym same) told in
    replay_ends_well c.in-Ok-Replay.config left c.replay_command.result c.replay_command.ensures.reports given
    (λ e. reads (c.replay_command.ensures.read_fault e)) (λ e. writes (c.replay_command.ensures.write_fault e))
