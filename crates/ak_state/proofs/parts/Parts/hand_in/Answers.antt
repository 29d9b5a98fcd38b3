use Rattle.ak_state.specs.Seen.{other_lists}
use Rattle.ak_state.proofs.Works.{seen_handed_in}
use Rattle.ak_state.proofs.parts.Parts.hand_in.Goals as goal

pub returns-clause-out : goal.returns-clause-out
returns-clause-out c =
    rw (← c.self.view_is, c.in_ok-id.ensures.ok)
    (seen_handed_in c.self.inside.cells.named c.self.inside.queues.queues c.self.inside.trace (other_lists c.self.inside.lists) c.args.ctx c.args.to
    c.args.helper)
