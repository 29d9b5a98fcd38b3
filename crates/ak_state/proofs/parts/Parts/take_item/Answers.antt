use Rattle.std.proofs.Common.{ap, sym, ◌∙◌}
use Rattle.ak_pipe.specs.Pipe.{got, after_read}
use Rattle.ak_machine.specs.Mapped.{read_mapped}
use Rattle.ak_state.specs.Streams.{got_mapped}
use Rattle.ak_cells.specs.Names.{name_in, trimmed}
use Rattle.ak_streams.specs.Pipes.{pipe_in}
use Rattle.ak_state.specs.Seen.{other_lists}
use Rattle.ak_state.proofs.Pipes.{seen_piped, pipe_seen, got_same, read_same}
use Rattle.ak_state.proofs.parts.Parts.take_item.Goals as goal

pub returns-clause-got : goal.returns-clause-got
returns-clause-got c =
    let f = name_in (trimmed c.self.inside.cells.named.names)
    in let all = c.self.inside.lists.pipes
    in rw (← c.self.view_is)
    (ap (got_mapped f) c.in_ok-got.ensures.got
    ∙ got_same f c.args.read (pipe_in c.args.p all)
    ∙ ap (got (read_mapped f c.args.read)) (sym (pipe_seen f all c.args.p)))

pub returns-clause-read : goal.returns-clause-read
returns-clause-read c =
    let f = name_in (trimmed c.self.inside.cells.named.names)
    in rw (← c.self.view_is, c.in_ok-got.ensures.read)
    (seen_piped c.self.inside.cells.named c.self.inside.queues.queues c.self.inside.trace (other_lists c.self.inside.lists) c.args.p (after_read c.args.read)
    (after_read (read_mapped f c.args.read)) (read_same f c.args.read))
