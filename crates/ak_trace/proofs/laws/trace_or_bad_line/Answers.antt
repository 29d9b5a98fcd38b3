use Rattle.ak_trace.proofs.Readings.{trace_or_bad}
use Rattle.ak_trace.proofs.laws.trace_or_bad_line.Goals as goal

pub returns : goal.returns
returns c = trace_or_bad
