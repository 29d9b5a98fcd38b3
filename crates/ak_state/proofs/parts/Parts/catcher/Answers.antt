use Rattle.std.proofs.Common.{sym, ap, ◌∙◌}
use Rattle.ak_cells.specs.Names.{name_in, trimmed}
use Rattle.ak_state.proofs.Errors.{catcher_mapped}
use Rattle.ak_state.proofs.parts.Parts.catcher.Goals as goal

pub returns-clause-catcher : goal.returns-clause-catcher
returns-clause-catcher c =
    rw (← c.self.view_is)
    (ap (λ w. w.caught) c.route.ensures.route
    ∙ sym (catcher_mapped (name_in (trimmed c.self.inside.cells.named.names)) c.self.inside.lists.monitors c.args.mon))
