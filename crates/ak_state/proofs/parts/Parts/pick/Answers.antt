use Rattle.std.proofs.Common.{sym}
use Rattle.ak_cells.specs.Names.{name_in, trimmed}
use Rattle.ak_state.specs.Seen.{other_lists}
use Rattle.ak_state.proofs.Picks.{pick_mapped}
use Rattle.ak_state.proofs.Stands.{seen_pick}
use Rattle.ak_state.proofs.parts.Parts.pick.Goals as goal

pub returns-clause-job : goal.returns-clause-job
returns-clause-job c =
    rw (← c.self.view_is, c.pick.ensures.job) (sym (pick_mapped (name_in (trimmed c.self.inside.cells.named.names)) c.self.inside.queues.queues))

pub returns-clause-parts : goal.returns-clause-parts
returns-clause-parts c =
    rw (← c.self.view_is, c.pick.ensures.queues) (seen_pick c.self.inside.cells.named c.self.inside.queues.queues c.self.inside.trace
    (other_lists c.self.inside.lists))
