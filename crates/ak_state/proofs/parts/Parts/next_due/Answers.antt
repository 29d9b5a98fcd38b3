use Rattle.ak_cells.specs.Names.{name_in, trimmed}
use Rattle.ak_state.specs.Seen.{other_lists}
use Rattle.ak_state.proofs.Alarms.{first_due_mapped, seen_due}
use Rattle.ak_state.proofs.parts.Parts.next_due.Goals as goal

pub returns-clause-first : goal.returns-clause-first
returns-clause-first c =
    rw (← c.self.view_is, c.due.ensures.ivar) (first_due_mapped (name_in (trimmed c.self.inside.cells.named.names)) c.self.inside.lists.clock)

pub returns-clause-rest : goal.returns-clause-rest
returns-clause-rest c =
    rw (← c.self.view_is, c.due.ensures.new)
    (seen_due c.self.inside.cells.named c.self.inside.queues.queues c.self.inside.trace (other_lists c.self.inside.lists))
