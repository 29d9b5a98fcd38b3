use Rattle.ak_state.specs.Seen.{other_lists}
use Rattle.ak_state.proofs.Pipes.{seen_fresh_pipe}
use Rattle.ak_state.proofs.parts.Parts.pipe.Goals as goal

pub returns-clause-fresh : goal.returns-clause-fresh
returns-clause-fresh c =
    rw (← c.self.view_is, c.in_ok-p.ensures.fresh)
    (seen_fresh_pipe c.self.inside.cells.named c.self.inside.queues.queues c.self.inside.trace (other_lists c.self.inside.lists) c.args.budget)
