use Rattle.ak_cells.specs.Names.{name_in, trimmed}
use Rattle.ak_state.specs.Seen.{other_lists}
use Rattle.ak_state.proofs.Works.{found_seen, seen_taken_work}
use Rattle.ak_state.proofs.parts.Parts.take_work.Goals as goal

pub returns-clause-work : goal.returns-clause-work
returns-clause-work c =
    rw (← c.self.view_is, c.take.ensures.work) (found_seen (name_in (trimmed c.self.inside.cells.named.names)) c.args.no c.self.inside.lists.works.out)

pub returns-clause-rest : goal.returns-clause-rest
returns-clause-rest c =
    rw (← c.self.view_is, c.take.ensures.rest)
    (seen_taken_work c.self.inside.cells.named c.self.inside.queues.queues c.self.inside.trace (other_lists c.self.inside.lists) c.args.no)
