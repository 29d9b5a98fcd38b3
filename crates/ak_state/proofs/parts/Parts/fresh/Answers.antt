use Rattle.ak_state.specs.Seen.{other_lists}
use Rattle.ak_state.proofs.Stands.{seen_fresh, own_fresh}
use Rattle.ak_state.proofs.parts.Parts.fresh.Goals as goal

pub returns-clause-fresh : goal.returns-clause-fresh
returns-clause-fresh c =
    rw (← c.self.view_is, c.fresh.ensures.named, c.reserve.ensures.named)
    (seen_fresh c.self.inside.cells.named c.self.inside.queues.queues c.self.inside.trace (other_lists c.self.inside.lists) c.self.invariant.named)

pub returns-clause-own : goal.returns-clause-own
returns-clause-own c =
    rw (← c.self.view_is, c.fresh.ensures.number, c.reserve.ensures.named) (own_fresh c.self.inside.cells.named c.self.invariant.named)
