use Rattle.std.proofs.Common.{ap, sym, subst, ◌∙◌}
use Rattle.ak_turn.proofs.Wraps.{leave_ready, leave_view, leave_pass, leave_seen}
use Rattle.ak_turn.proofs.lock.Turn.leave.Goals as goal

pub leave-requires-clause-value : goal.leave-requires-clause-value
leave-requires-clause-value g c κs within =
    let only = c.pass.invariant.0.only in let t = c.requires.turn in let l = c.requires.log in let x = ap (λ h. h.value) c.held.view_is in
    leave_ready g.G.Guarded.log g.G.Guarded.may g.G.Guarded.fits _ c.pass.inside.seat.me.0 only.0 _ _ _ l.0 _ only.1 c.pass.view_is t.0.1
    (subst (λ z. g.G.Guarded.fits z c.args.self.now.numbers) (sym x) c.requires.value) c.requires.held.2
    (ap g.G.Guarded.log x ∙ l.2) l.3

pub invariant_of-pass : goal.invariant_of-pass
invariant_of-pass g c = let only =
    c.pass.invariant.0.only in leave_pass g.G.Guarded.log g.G.Guarded.may g.G.Guarded.fits _ c.pass.inside.seat.me.0 only.0 _ _ _ _ only.1
    c.pass.invariant.1 c.leave.ensures.view _

pub returns-clause-log : goal.returns-clause-log
returns-clause-log g c = let only = c.pass.invariant.0.only in let x = ap (λ h. h.value) c.held.view_is in
    λ es logs. leave_view g.G.Guarded.log g.G.Guarded.may g.G.Guarded.fits _ _ c.pass.inside.seat.me.0 only.0 _ _ es _ _ only.1
    c.pass.view_is c.requires.held.2 (ap g.G.Guarded.log x ∙ logs) c.leave.ensures.seat.0 c.leave.ensures.view

pub returns-clause-seen : goal.returns-clause-seen
returns-clause-seen g c = let only = c.pass.invariant.0.only in let x = ap (λ h. h.value) c.held.view_is in
    let t = leave_seen g.G.Guarded.log g.G.Guarded.may g.G.Guarded.fits _ _ c.pass.inside.seat.me.0 only.0 _ _ _ c.leave.new.seat.me
    only.1 c.pass.view_is c.requires.turn.0.1 c.leave.ensures.view c.leave.ensures.log in
    (t.0, t.1 ∙ ap g.G.Guarded.log x)
