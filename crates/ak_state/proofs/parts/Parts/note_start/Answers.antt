use Rattle.ak_state.specs.Seen.{other_lists}
use Rattle.ak_state.proofs.Throttles.{seen_start}
use Rattle.ak_state.proofs.parts.Parts.note_start.Goals as goal

pub returns : goal.returns
returns c =
    rw (← c.self.view_is, c.in_ok-start.ensures)
    (seen_start c.self.inside.cells.named c.self.inside.queues.queues c.self.inside.trace (other_lists c.self.inside.lists) c.args.t c.args.body)
