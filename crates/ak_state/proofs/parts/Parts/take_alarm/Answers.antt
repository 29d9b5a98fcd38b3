use Rattle.ak_cells.specs.Names.{name_in, trimmed}
use Rattle.ak_state.specs.Seen.{other_lists}
use Rattle.ak_state.proofs.Alarms.{pending_mapped, seen_aborted}
use Rattle.ak_state.proofs.parts.Parts.take_alarm.Goals as goal

pub returns-clause-ivar : goal.returns-clause-ivar
returns-clause-ivar c =
    rw (← c.self.view_is, c.abort.ensures.ivar)
    (pending_mapped (name_in (trimmed c.self.inside.cells.named.names)) c.args.e c.self.inside.lists.clock)

pub returns-clause-rest : goal.returns-clause-rest
returns-clause-rest c =
    rw (← c.self.view_is, c.abort.ensures.new)
    (seen_aborted c.self.inside.cells.named c.self.inside.queues.queues c.self.inside.trace (other_lists c.self.inside.lists) c.args.e)
