use Rattle.std.proofs.Common.{◌≤◌, take, flat_map}
use Rattle.ak_base.specs.Streams.{Passes}
use Rattle.ak_history.specs.Text.{id_text}
use Rattle.ak_history.proofs.text.put_request_ids.Given as goal

abbrev pub invariant-loop-no : goal.invariant-loop-no
invariant-loop-no g l = record {
  passes : Passes
      (g.K.Sink.taken l.initial.sink)
      (g.K.Sink.taken l.sink)
      l.initial.buffer
      l.buffer
      (flat_map id_text (take l.no-index l.requests));
  never_falls : g.K.Sink.faults l.initial.sink ≤ g.K.Sink.faults l.sink;
}
