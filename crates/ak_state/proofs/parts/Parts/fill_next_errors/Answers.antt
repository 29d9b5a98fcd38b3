use Rattle.std.proofs.Common.{◌≡◌, refl, w64, to_z, of_z}
use Rattle.std.proofs.lemmas.Int.{to_z-of_z}
use Rattle.ak_cells.specs.Names.{name_in, trimmed}
use Rattle.ak_state.specs.Seen.{other_lists}
use Rattle.ak_state.proofs.Errors.{next_errors_drawn, emptied_filled}
use Rattle.ak_state.proofs.parts.Parts.fill_next_errors.Goals as goal

pub fill_all-requires : goal.fill_all-requires
fill_all-requires c =
    rw c.take_next_errors-waiting.ensures.all
    (next_errors_drawn (name_in (trimmed c.self.inside.cells.named.names)) c.self.inside.lists.monitors c.args.mon _ refl
    (rw (← c.self.view_is) at c.requires.fits))

pub returns : goal.returns
returns c =
    let z : to_z w64 (of_z w64 c.args.num) ≡ c.args.num = to_z-of_z w64 c.args.num c.ranges.num
    in rw (← c.self.view_is, c.in_ok-fill_all.ensures, z, c.take_next_errors-waiting.ensures.none)
    (emptied_filled c.self.inside.cells.named c.self.inside.queues.queues c.self.inside.trace (other_lists c.self.inside.lists) c.args.mon c.args.num
    c.take_next_errors-waiting.result.items c.take_next_errors-waiting.ensures.all)
