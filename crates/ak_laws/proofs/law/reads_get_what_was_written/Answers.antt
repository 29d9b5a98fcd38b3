use Rattle.ak_laws.proofs.ReadingRun.{reads_get_what_was_written}
use Rattle.ak_laws.proofs.law.reads_get_what_was_written.Goals as goal

pub returns : goal.returns
returns c = reads_get_what_was_written
