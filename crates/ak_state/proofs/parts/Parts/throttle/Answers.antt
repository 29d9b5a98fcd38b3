use Rattle.ak_state.specs.Seen.{other_lists}
use Rattle.ak_state.proofs.Throttles.{seen_fresh_throttle}
use Rattle.ak_state.proofs.parts.Parts.throttle.Goals as goal

pub returns-clause-fresh : goal.returns-clause-fresh
returns-clause-fresh c =
    rw (← c.self.view_is, c.in_ok-t.ensures.fresh)
    (seen_fresh_throttle c.self.inside.cells.named c.self.inside.queues.queues c.self.inside.trace (other_lists c.self.inside.lists) c.args.most
    c.args.stop)
