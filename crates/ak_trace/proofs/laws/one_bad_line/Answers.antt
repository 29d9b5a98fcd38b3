use Rattle.ak_trace.proofs.Readings.{one_bad_line}
use Rattle.ak_trace.proofs.laws.one_bad_line.Goals as goal

pub returns : goal.returns
returns c = one_bad_line
