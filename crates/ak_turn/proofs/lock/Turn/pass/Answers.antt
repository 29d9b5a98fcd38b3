use Rattle.std.proofs.Common.{sym, subst, length, ◌<◌}
use Rattle.ak_turn.proofs.Wraps.{spare_there, split_pass}
use Rattle.ak_turn.proofs.lock.Turn.pass.Goals as goal

pub split-seat-requires-clause-spare : goal.split-seat-requires-clause-spare
split-seat-requires-clause-spare g c κs within = let only = c.from.invariant.0.only in
    spare_there _ c.from.inside.seat.me.0 only.0 only.1 (subst (λ p. 0 < length p.spare) (sym c.from.view_is) c.requires.spare)

pub invariant_of-from : goal.invariant_of-from
invariant_of-from g c = split_pass _ _ _ _ _ _ c.from.invariant.0 c.from.invariant.1 c.split-seat.ensures.views.0
