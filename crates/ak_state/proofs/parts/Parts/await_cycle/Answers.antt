use Rattle.ak_state.specs.Seen.{other_lists}
use Rattle.ak_state.proofs.Alarms.{seen_awaiting}
use Rattle.ak_state.proofs.parts.Parts.await_cycle.Goals as goal

pub returns : goal.returns
returns c =
    rw (← c.self.view_is, c.in_ok-yield_next.ensures.ok)
    (seen_awaiting c.self.inside.cells.named c.self.inside.queues.queues c.self.inside.trace (other_lists c.self.inside.lists) c.args.i)
