use Rattle.ak_state.specs.Seen.{other_lists}
use Rattle.ak_state.proofs.Stands.{seen_enqueue}
use Rattle.ak_state.proofs.parts.Parts.enqueue.Goals as goal

pub returns : goal.returns
returns c =
    rw (← c.self.view_is)
    (seen_enqueue c.self.inside.cells.named c.self.inside.queues.queues c.push_job.new.queues.queues c.self.inside.trace c.push_job.new.trace
    (other_lists c.self.inside.lists) c.args.ctx c.args.task c.in_ok-push_job.ensures)
