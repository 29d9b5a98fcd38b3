use Rattle.std.proofs.Common.{ap, sym, ◌∙◌}
use Rattle.ak_cells.specs.Names.{name_in, trimmed}
use Rattle.ak_state.proofs.Throttles.{throttle_seen}
use Rattle.ak_state.proofs.parts.Parts.is_dead.Goals as goal

pub returns : goal.returns
returns c =
    rw (← c.self.view_is)
    (c.is_dead.ensures
    ∙ sym (ap (λ x. x.dead) (throttle_seen (name_in (trimmed c.self.inside.cells.named.names)) c.self.inside.lists.throttles.throttles c.args.t)))
