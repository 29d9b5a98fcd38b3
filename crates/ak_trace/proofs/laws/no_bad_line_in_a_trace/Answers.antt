use Rattle.ak_trace.proofs.Readings.{no_bad_in_a_trace}
use Rattle.ak_trace.proofs.laws.no_bad_line_in_a_trace.Goals as goal

pub returns : goal.returns
returns c = no_bad_in_a_trace
