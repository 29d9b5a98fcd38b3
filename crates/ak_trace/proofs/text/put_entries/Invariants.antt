use Rattle.std.proofs.Common.{◌≤◌, take}
use Rattle.ak_base.specs.Streams.{Passes}
use Rattle.ak_trace.specs.Text.{trace_text}
use Rattle.ak_trace.proofs.text.put_entries.Given as goal

abbrev pub invariant-loop-entry : goal.invariant-loop-entry
invariant-loop-entry g l = record {
  passes : Passes
      (g.K.Sink.taken l.initial.sink)
      (g.K.Sink.taken l.sink)
      l.initial.buffer
      l.buffer
      (trace_text (take l.entry-index l.entries));
  never_falls : g.K.Sink.faults l.initial.sink ≤ g.K.Sink.faults l.sink;
}
