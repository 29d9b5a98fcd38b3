use Rattle.std.proofs.Common.{refl}
use Rattle.ak_cells.specs.Names.{name_in, trimmed}
use Rattle.ak_state.proofs.Served.{unanswered_mapped}
use Rattle.ak_state.proofs.parts.Parts.is_quiet.Goals as goal

pub returns : goal.returns
returns c =
    let f = name_in (trimmed c.self.inside.cells.named.names)
    in rw (← c.self.view_is, c.unanswered.ensures, unanswered_mapped f c.self.inside.lists.requests) refl
