use Rattle.ak_state.specs.Seen.{other_lists}
use Rattle.ak_state.proofs.Monitors.{seen_awaited}
use Rattle.ak_state.proofs.parts.Parts.await_error.Goals as goal

pub returns : goal.returns
returns c =
    rw (← c.self.view_is, c.in_ok-next_error.ensures.ok)
    (seen_awaited c.self.inside.cells.named c.self.inside.queues.queues c.self.inside.trace (other_lists c.self.inside.lists) c.args.mon c.args.i)
