use Rattle.std.proofs.Common.{ap, sym, ◌∙◌}
use Rattle.ak_base.specs.Lists.{first_of}
use Rattle.ak_pipe.specs.Pipe.{owed_taken}
use Rattle.ak_machine.specs.Mapped.{read_mapped}
use Rattle.ak_state.proofs.Throttles.{front_of_map}
use Rattle.ak_cells.specs.Names.{name_in, trimmed}
use Rattle.ak_streams.specs.Pipes.{pipe_in}
use Rattle.ak_state.specs.Seen.{other_lists}
use Rattle.ak_state.proofs.Pipes.{seen_piped, pipe_seen, owed_taken_mapped}
use Rattle.ak_state.proofs.parts.Parts.next_eof.Goals as goal

pub returns-clause-first : goal.returns-clause-first
returns-clause-first c =
    let f = name_in (trimmed c.self.inside.cells.named.names)
    in let all = c.self.inside.lists.pipes
    in rw (← c.self.view_is, c.next_eof.ensures.front)
    (front_of_map (read_mapped f) (pipe_in c.args.p all).owed ∙ ap (λ x. first_of x.owed) (sym (pipe_seen f all c.args.p)))

pub returns-clause-rest : goal.returns-clause-rest
returns-clause-rest c =
    rw (← c.self.view_is, c.next_eof.ensures.rest)
    (seen_piped c.self.inside.cells.named c.self.inside.queues.queues c.self.inside.trace (other_lists c.self.inside.lists) c.args.p owed_taken owed_taken
    (owed_taken_mapped (name_in (trimmed c.self.inside.cells.named.names))))
