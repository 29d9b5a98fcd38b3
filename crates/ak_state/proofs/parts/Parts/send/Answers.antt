use Rattle.std.proofs.Common.{◌≡◌, ◌≤◌, length, refl, arith, w64, to_z, of_z}
use Rattle.ak_state.specs.Errors.{path_filled}
use Rattle.ak_state.specs.Fits.{Fits}
use Rattle.ak_state.proofs.Errors.{path_filled_grows}
use Rattle.ak_state.proofs.parts.Parts.send.Goals as goal

pub handle-requires-clause-monitor : goal.handle-requires-clause-monitor
handle-requires-clause-monitor c =
    let e = to_z w64 (of_z w64 c.args.num)
    in let s = c.note-in-Some.new.self.plain
    in let fits : Fits c.requires.fits.program s = rw (c.in_ok-note-in-Some.ensures.ok, c.in_ok-note.ensures.ok) c.requires.fits.fits
    in let same : length s.monitors ≡ length c.args.self.now.plain.monitors = rw (c.in_ok-note-in-Some.ensures.ok, c.in_ok-note.ensures.ok) refl
    in let more : length s.monitors ≤ length (path_filled c.args.mon c.in-Some.c e s).monitors =
    (path_filled_grows c.requires.fits.program c.args.mon c.in-Some.c e s fits).more.monitors
    in rw c.in_ok-fill_path-in-Some.ensures (omega (arith, c.in-Some.ensures.drawn, same, more))

pub handle-requires-clause-fits : goal.handle-requires-clause-fits
handle-requires-clause-fits c =
    let e = to_z w64 (of_z w64 c.args.num)
    in let s = c.note-in-Some.new.self.plain
    in let fits : Fits c.requires.fits.program s = rw (c.in_ok-note-in-Some.ensures.ok, c.in_ok-note.ensures.ok) c.requires.fits.fits
    in rw c.in_ok-fill_path-in-Some.ensures
    (record { program = c.requires.fits.program; fits = (path_filled_grows c.requires.fits.program c.args.mon c.in-Some.c e s fits).fits })
