use Rattle.ak_pipe.specs.Pipe.{after_close_read}
use Rattle.ak_cells.specs.Names.{name_in, trimmed}
use Rattle.ak_state.specs.Seen.{other_lists}
use Rattle.ak_state.proofs.Pipes.{seen_piped, close_read_mapped}
use Rattle.ak_state.proofs.parts.Parts.end_reads.Goals as goal

pub returns : goal.returns
returns c =
    rw (← c.self.view_is, c.close_read.ensures)
    (seen_piped c.self.inside.cells.named c.self.inside.queues.queues c.self.inside.trace (other_lists c.self.inside.lists) c.args.p after_close_read
    after_close_read
    (close_read_mapped (name_in (trimmed c.self.inside.cells.named.names))))
