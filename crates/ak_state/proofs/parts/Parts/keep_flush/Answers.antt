use Rattle.std.proofs.Common.{ap, sym, ◌∙◌}
use Rattle.ak_pipe.specs.Pipe.{flushed_at_once, after_flushed}
use Rattle.ak_cells.specs.Names.{name_in, trimmed}
use Rattle.ak_state.specs.Seen.{other_lists}
use Rattle.ak_state.proofs.Pipes.{seen_piped, pipe_seen, flushed_mapped}
use Rattle.ak_state.proofs.parts.Parts.keep_flush.Goals as goal

pub returns-clause-number : goal.returns-clause-number
returns-clause-number c =
    let f = name_in (trimmed c.self.inside.cells.named.names)
    in let all = c.self.inside.lists.pipes
    in rw (← c.self.view_is)
    (c.in_ok-number.ensures.number ∙ ap flushed_at_once (sym (pipe_seen f all c.args.p)))

pub returns-clause-kept : goal.returns-clause-kept
returns-clause-kept c =
    let f = name_in (trimmed c.self.inside.cells.named.names)
    in rw (← c.self.view_is, c.in_ok-number.ensures.flushed)
    (seen_piped c.self.inside.cells.named c.self.inside.queues.queues c.self.inside.trace (other_lists c.self.inside.lists) c.args.p (after_flushed c.args.i)
    (after_flushed (f c.args.i)) (flushed_mapped f c.args.i))
