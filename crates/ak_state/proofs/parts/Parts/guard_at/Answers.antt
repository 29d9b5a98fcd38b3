use Rattle.std.proofs.Common.{◌∙◌, sym, ap}
use Rattle.ak_cells.specs.Names.{name_in}
use Rattle.ak_machine.specs.Mapped.{purpose_mapped}
use Rattle.ak_state.proofs.Groups.{guard_fits}
use Rattle.ak_state.proofs.parts.Parts.guard_at.Goals as goal

pub returns-in-ForGuard-clause-context : goal.returns-in-ForGuard-clause-context
returns-in-ForGuard-clause-context c =
    let is = sym c.purpose.ensures ∙ ap (purpose_mapped (name_in c.args.self.now.names)) c.in-ForGuard.is
    in (guard_fits c.args.g c.args.self.now.plain c.requires.fits c.requires.guard _ _ _ _ is).context

pub returns-in-ForGuard-clause-monitor : goal.returns-in-ForGuard-clause-monitor
returns-in-ForGuard-clause-monitor c =
    let is = sym c.purpose.ensures ∙ ap (purpose_mapped (name_in c.args.self.now.names)) c.in-ForGuard.is
    in (guard_fits c.args.g c.args.self.now.plain c.requires.fits c.requires.guard _ _ _ _ is).monitor

pub returns-in-ForGuard-clause-drawn : goal.returns-in-ForGuard-clause-drawn
returns-in-ForGuard-clause-drawn c =
    let is = sym c.purpose.ensures ∙ ap (purpose_mapped (name_in c.args.self.now.names)) c.in-ForGuard.is
    in c.check_drawn.ensures (guard_fits c.args.g c.args.self.now.plain c.requires.fits c.requires.guard _ _ _ _ is).result
