use Rattle.std.proofs.Common.{ap, sym, ◌∙◌}
use Rattle.ak_cells.specs.Names.{name_in, trimmed}
use Rattle.ak_state.proofs.Pipes.{pipe_seen}
use Rattle.ak_state.proofs.parts.Parts.is_closed.Goals as goal

pub returns : goal.returns
returns c =
    rw (← c.self.view_is)
    (c.is_closed.ensures ∙ sym (ap (λ x. x.closed) (pipe_seen (name_in (trimmed c.self.inside.cells.named.names)) c.self.inside.lists.pipes c.args.p)))
