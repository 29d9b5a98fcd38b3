use Rattle.ak_trace.proofs.Readings.{trace_reads_back}
use Rattle.ak_trace.proofs.laws.text_reads_back.Goals as goal

pub returns : goal.returns
returns c = trace_reads_back
