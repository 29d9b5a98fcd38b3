use Rattle.ak_state.proofs.Choices.{part_set_grows}
use Rattle.ak_state.proofs.parts.Parts.end_part.Goals as goal

pub call_of_all-requires-clause-fits : goal.call_of_all-requires-clause-fits
call_of_all-requires-clause-fits c =
    rw c.set_part.ensures.set (record {
      program = c.requires.fits.program;
      fits = (part_set_grows c.requires.fits.program c.args.g _ _ c.args.self.now.plain c.requires.fits.fits).fits;
    })
