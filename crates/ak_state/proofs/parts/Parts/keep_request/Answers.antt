use Rattle.ak_state.specs.Seen.{other_lists}
use Rattle.ak_state.proofs.Served.{seen_requested}
use Rattle.ak_state.proofs.parts.Parts.keep_request.Goals as goal

pub returns : goal.returns
returns c =
    rw (← c.self.view_is, c.in_ok-push.ensures.ok)
    (seen_requested c.self.inside.cells.named c.self.inside.queues.queues c.self.inside.trace (other_lists c.self.inside.lists) c.args.no c.args.to)
