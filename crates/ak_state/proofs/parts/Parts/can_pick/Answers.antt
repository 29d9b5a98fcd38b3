use Rattle.std.proofs.Common.{sym, ◌∙◌}
use Rattle.ak_cells.specs.Names.{name_in, trimmed}
use Rattle.ak_state.proofs.Picks.{has_pick_mapped}
use Rattle.ak_state.proofs.parts.Parts.can_pick.Goals as goal

pub returns : goal.returns
returns c = rw (← c.self.view_is) (c.can_pick.ensures ∙ sym (has_pick_mapped (name_in (trimmed c.self.inside.cells.named.names)) c.self.inside.queues.queues))
