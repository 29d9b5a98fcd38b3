use Rattle.std.proofs.Common.{◌≤◌, drop}
use Rattle.ak_base.proofs.Passing.{Toward}
use Rattle.ak_history.specs.Text.{history_text}
use Rattle.ak_history.proofs.Lines.{text_from}
use Rattle.ak_history.proofs.text.put_events.Given as goal

abbrev pub invariant-loop-event : goal.invariant-loop-event
invariant-loop-event g l = record {
  toward : Toward
      (g.K.Sink.taken l.initial.sink)
      (g.K.Sink.taken l.sink)
      l.initial.buffer
      l.buffer
      (text_from l.idle (drop l.event-index l.events))
      (history_text l.events);
  counted : l.idle ≤ l.event-index;
  never_falls : g.K.Sink.faults l.initial.sink ≤ g.K.Sink.faults l.sink;
}
