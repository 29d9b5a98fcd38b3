use Rattle.std.proofs.Common.{ap, sym, subst, ◌∙◌}
use Rattle.ak_turn.specs.Entries.{IsLog}
use Rattle.ak_turn.specs.Seen.{Extends}
use Rattle.ak_turn.proofs.Wraps.{extends, numbers_is}
use Rattle.ak_turn.proofs.lock.Turn.enter.Goals as goal

pub returns-clause-extends : goal.returns-clause-extends
returns-clause-extends g c = let only = c.pass.invariant.0.only in
    subst (Extends c.args.pass.now) (sym (ap (λ m. m.0.was) c.show-shown.ensures.views.1))
    (subst (λ p. Extends p c.enter-ticket.new.seat.me.0.was) c.pass.view_is
    (extends _ c.pass.inside.seat.me.0 only.0 _ only.1 c.enter-ticket.ensures.log.1))

pub returns-clause-log : goal.returns-clause-log
returns-clause-log g c = let only = c.pass.invariant.0.only in let log = c.enter-ticket.ensures.log.0 in
    subst (IsLog g.G.Guarded.may c.args.self.now.numbers) (sym (ap (λ m. m.0.was) c.show-shown.ensures.views.1))
    (subst (λ n. IsLog g.G.Guarded.may n c.enter-ticket.new.seat.me.0.was)
    (numbers_is _ c.pass.inside.seat.me.0 only.0 _ only.1 c.pass.view_is ∙ c.requires.0.1) log)
