use Rattle.std.proofs.Common.{List, subst}
use Rattle.ak_trace.specs.declared.entry.Entry.{Entry}
use Rattle.ak_trace.specs.Reading.{TraceReads}
use Rattle.ak_trace.specs.Text.{trace_text}
use Rattle.ak_trace.proofs.Readings.{trace_reads_back}
use Rattle.ak_trace.proofs.laws.trace_reads_back.Goals as goal

pub returns : goal.returns
returns c = subst (λ (entries : List Entry). TraceReads (trace_text entries) entries) c.as_slice.ensures
    (trace_reads_back c.as_slice.result.now c.all_in_range.ensures)
