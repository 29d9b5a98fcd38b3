use Rattle.ak_state.proofs.Choices.{choice_decided_grows}
use Rattle.ak_state.proofs.parts.Parts.end_choice.Goals as goal

pub take_first-requires-clause-fits : goal.take_first-requires-clause-fits
take_first-requires-clause-fits c =
    rw c.decide_choice.ensures (record {
      program = c.requires.fits.program;
      fits = (choice_decided_grows c.requires.fits.program c.args.g c.args.self.now.plain c.requires.fits.fits).fits;
    })
