use Rattle.ak_let_reader.proofs.Right.{names_are_sound}
use Rattle.ak_let_reader.proofs.law.right_names_are_sound.Goals as goal

pub returns : goal.returns
returns c = names_are_sound
