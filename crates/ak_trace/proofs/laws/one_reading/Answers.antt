use Rattle.ak_trace.proofs.Readings.{one_trace}
use Rattle.ak_trace.proofs.laws.one_reading.Goals as goal

pub returns : goal.returns
returns c = one_trace
