use Rattle.ak_history.proofs.Written.{history_reads_back}
use Rattle.ak_history.proofs.laws.reads_back.Goals as goal

pub returns : goal.returns
returns c = history_reads_back
