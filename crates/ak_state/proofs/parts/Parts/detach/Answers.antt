use Rattle.ak_state.specs.Seen.{other_lists}
use Rattle.ak_state.proofs.Monitors.{seen_detach}
use Rattle.ak_state.proofs.parts.Parts.detach.Goals as goal

pub returns : goal.returns
returns c =
    rw (← c.self.view_is, c.detach.ensures, c.in_ok-push.ensures.ok)
    (seen_detach c.self.inside.cells.named c.self.inside.queues.queues c.self.inside.trace (other_lists c.self.inside.lists) c.args.mon)
