use Rattle.ak_state.proofs.Choices.{all_seen}
use Rattle.ak_state.proofs.parts.Parts.begin_all.Goals as goal

pub returns : goal.returns
returns c =
    all_seen c.args.ctx.now c.in_ok-group.group c.args.deferreds.now c.loop-k.k c.args.call c.args.self.now c.begin_group.new.self c.loop-k.self
    c.keep_purpose.new.self c.in_ok-group.ensures.fresh c.in_ok-group.ensures.number c.loop-k.invariant.names c.loop-k-test.false
    c.loop-k.invariant.registered c.in_ok-keep_purpose.ensures
