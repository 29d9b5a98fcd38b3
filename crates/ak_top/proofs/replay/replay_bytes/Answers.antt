use Rattle.ak_top.proofs.Replaying.{to_cut, to_uncut}
use Rattle.ak_top.proofs.replay.replay_bytes.Goals as goal

pub returns-in-Ok-clause-tells : goal.returns-in-Ok-clause-tells
returns-in-Ok-clause-tells c = λ outcome p.
    c.replay_cut.ensures.tells outcome
    (to_cut c.args.config c.args.source.now c.in-Ok.cut.script.now c.in-Ok.cut.history.now c.in-Ok.cut.number c.requires.short
    c.in-Ok.ensures.one c.in-Ok.ensures.none outcome p)

pub returns-in-Err-clause-tells : goal.returns-in-Err-clause-tells
returns-in-Err-clause-tells c = λ outcome p.
    c.without_record.ensures.tells outcome
    (to_uncut c.args.config c.args.source.now c.in-Err.after c.requires.short c.in-Err.ensures.one c.in-Err.ensures.none outcome p)
