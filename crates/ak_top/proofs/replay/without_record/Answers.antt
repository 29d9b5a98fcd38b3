use Rattle.ak_top.specs.Replays.{GivesUncut}
use Rattle.ak_top.proofs.Replaying.{uncut_speaks, stop_caused, stop_stops, stop_tells, after_tells}
use Rattle.ak_top.proofs.replay.without_record.Goals as goal

pub returns-in-Ok-clause-tells : goal.returns-in-Ok-clause-tells
returns-in-Ok-clause-tells c = after_tells c.args.config c.args.source.now c.args.after c.in-Ok.ensures.refuses

pub returns-in-Err-clause-caused : goal.returns-in-Err-clause-caused
returns-in-Err-clause-caused c =
    rw c.status.ensures (stop_caused c.args.config.askers c.args.source.now (GivesUncut c.args.config c.args.source.now c.args.after) c.in-Err.stop (λ line kind f. f) c.in-Err.ensures.stop)

pub returns-in-Err-clause-stops : goal.returns-in-Err-clause-stops
returns-in-Err-clause-stops c = rw c.status.ensures (stop_stops c.args.config.askers c.args.source.now c.in-Err.stop c.in-Err.ensures.stop)

pub returns-in-Err-clause-tells : goal.returns-in-Err-clause-tells
returns-in-Err-clause-tells c =
    rw c.status.ensures (stop_tells c.args.config.askers c.args.source.now (GivesUncut c.args.config c.args.source.now c.args.after) c.in-Err.stop
    (uncut_speaks c.args.config c.args.source.now c.args.after) c.in-Err.ensures.stop c.in-Err.ensures.refuses c.in-Err.ensures.accepts)
