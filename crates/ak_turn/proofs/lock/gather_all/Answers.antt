use Rattle.std.proofs.Common.{◌∙◌}
use Rattle.ak_turn.proofs.Wraps.{gathers}
use Rattle.ak_turn.proofs.lock.gather_all.Goals as goal

pub loop-pass-preserved : goal.loop-pass-preserved
loop-pass-preserved g c = let i = c.loop-pass.invariant in
    let t = gathers _ _ _ _ _ _ c.pass.inside.seat.me c.gather.new.seat.me _ c.loop-pass.seat.me.0 c.pass.invariant.0 c.pass.view_is
    c.in-Some-pop.ensures.items i.0 i.6 c.gather.ensures.view in
    (t.0, c.gather.ensures.seat.0 ∙ t.1, t.2, t.3, t.4, t.5, t.6)
