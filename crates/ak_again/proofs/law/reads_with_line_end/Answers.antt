use Rattle.ak_again.proofs.Ends.{reads_ended}
use Rattle.ak_again.proofs.law.reads_with_line_end.Goals as goal

pub returns : goal.returns
returns c = reads_ended
