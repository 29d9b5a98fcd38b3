use Rattle.ak_state.specs.Seen.{other_lists}
use Rattle.ak_state.proofs.Alarms.{more_seen}
use Rattle.ak_state.proofs.parts.Parts.has_more.Goals as goal

pub returns : goal.returns
returns c =
    rw (← c.self.view_is, c.is_empty-jobs.ensures, c.any_yield-yields.ensures, c.any_due-due.ensures)
    (more_seen c.self.inside.cells.named c.self.inside.queues.queues c.self.inside.trace (other_lists c.self.inside.lists))
