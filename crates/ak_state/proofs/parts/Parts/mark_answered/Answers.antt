use Rattle.ak_state.specs.Seen.{other_lists}
use Rattle.ak_state.proofs.Served.{seen_answered}
use Rattle.ak_state.proofs.parts.Parts.mark_answered.Goals as goal

pub returns : goal.returns
returns c =
    rw (← c.self.view_is, c.answer.ensures)
    (seen_answered c.self.inside.cells.named c.self.inside.queues.queues c.self.inside.trace (other_lists c.self.inside.lists) c.args.no)
