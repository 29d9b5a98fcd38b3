use Rattle.ak_state.specs.Seen.{other_lists}
use Rattle.ak_state.proofs.Monitors.{seen_handled}
use Rattle.ak_state.proofs.parts.Parts.on_error.Goals as goal

pub returns : goal.returns
returns c =
    rw (← c.self.view_is, c.in_ok-on_error.ensures.ok)
    (seen_handled c.self.inside.cells.named c.self.inside.queues.queues c.self.inside.trace (other_lists c.self.inside.lists) c.args.mon c.args.ctx
    c.args.handler)
