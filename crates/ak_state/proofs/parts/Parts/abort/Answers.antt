use Rattle.std.proofs.Common.{◌≡◌, ◌<◌, length, sym, subst}
use Rattle.std.specs.Prelude.{Some}
use Rattle.ak_cells.specs.Names.{name_in}
use Rattle.ak_state.specs.Seen.{Seen}
use Rattle.ak_state.specs.Alarms.{pending}
use Rattle.ak_state.proofs.Alarms.{pending_drawn}
use Rattle.ak_state.proofs.parts.Parts.abort.Goals as goal

pub fill-requires : goal.fill-requires
fill-requires c =
    let s = c.args.self.now
    in let i = name_in s.names c.in-Some.i
    in let there : pending c.args.e s.plain ≡ Some i = sym c.in-Some.ensures.ivar
    in c.check_drawn.ensures
    (subst (λ (x : Seen). name_in x.names c.in-Some.i < length x.plain.cells.ivars) (sym c.take_alarm.ensures.rest)
    (pending_drawn c.args.e s.plain i c.requires.fits there))
