use Rattle.std.proofs.Common.{◌≡◌, sym, arith, rules}
use Rattle.std.specs.Prelude.{slice_get, Some, None}
use Rattle.std.proofs.lemmas.List.{length-map}
use Rattle.ak_cells.specs.Names.{name_in, trimmed}
use Rattle.ak_machine.specs.Mapped.{purpose_mapped}
use Rattle.ak_state.proofs.Groups.{purposes_long, purpose_there, purpose_get}
use Rattle.ak_state.proofs.parts.Parts.purpose.Goals as goal

pub unreachable-requires : goal.unreachable-requires
unreachable-requires c =
    let ps = c.self.inside.lists.purposes
    in let fits = rw (← c.self.view_is) at c.requires.fits
    in let guard = rw (← c.self.view_is) at c.requires.guard
    in let none : slice_get ps c.args.g ≡ None = search rules
    in purpose_there ps c.args.g
    (omega (arith, guard, purposes_long _ fits, length-map ps (purpose_mapped (name_in (trimmed c.self.inside.cells.named.names))))) none

pub returns : goal.returns
returns c =
    let ps = c.self.inside.lists.purposes
    in let there : slice_get ps c.args.g ≡ Some c.in-Some.purpose.now = search rules
    in rw (← c.self.view_is)
    (sym (purpose_get (name_in (trimmed c.self.inside.cells.named.names)) ps c.args.g c.in-Some.purpose.now _ there))
