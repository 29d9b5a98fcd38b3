use Rattle.std.proofs.Common.{arith, rules}
use Rattle.ak_base.proofs.Passing.{on_err}
use Rattle.ak_history.specs.Text.{history_text}
use Rattle.ak_history.proofs.Lines.{toward-idle, toward-other, toward-other_fault, passes-last, fault-last}
use Rattle.ak_history.proofs.text.put_events.Goals as goal
use Rattle.ak_history.proofs.text.put_events.Goals.{then-is_idle, else-is_idle+in_ok-put_after_idle}

pub returns-in_err-put_after_idle : goal.returns-in_err-put_after_idle
returns-in_err-put_after_idle g c = record {
  passes = search rules;
  begins = on_err c.from_residual.result
      (toward-other_fault _ _ _ _ _ c.loop-event.idle c.args.events.now c.loop-event.event-index c.event-item.result
      (history_text c.args.events.now) c.event-item.is (omega arith)
      (λ empty. let found = c.is_idle.ensures.1 empty in cc)
      c.loop-event.invariant.toward c.in_err-put_after_idle.ensures.begins);
  lost = search rules;
  never_falls = search rules;
  cause = search rules;
}

pub loop-event-preserved : goal.loop-event-preserved
loop-event-preserved g c =
    elim c.if-is_idle.branch [
      | then-is_idle w ↦ rw (w.sink-is, w.buffer-is, w.idle-is) (record {
        toward = toward-idle _ _ _ _ c.loop-event.idle c.args.events.now c.loop-event.event-index c.event-item.result
            (history_text c.args.events.now) c.event-item.is (omega arith)
            (c.is_idle.ensures.0 w.if-is_idle.true) c.loop-event.invariant.toward;
        counted = omega arith;
        never_falls = omega arith;
      })
      | else-is_idle+in_ok-put_after_idle w ↦ rw (w.sink-is, w.buffer-is, w.idle-is) (record {
        toward = toward-other _ _ _ _ _ _ c.loop-event.idle c.args.events.now c.loop-event.event-index c.event-item.result
            (history_text c.args.events.now) c.event-item.is (omega arith)
            (λ empty. let found = c.is_idle.ensures.1 empty in cc)
            c.loop-event.invariant.toward w.in_ok-put_after_idle.ensures.passes;
        counted = omega arith;
        never_falls = omega (arith, w.in_ok-put_after_idle.ensures.never_falls);
      })
    ]

pub returns-in_err-put_idle : goal.returns-in_err-put_idle
returns-in_err-put_idle g c = record {
  passes = search rules;
  begins = on_err c.from_residual-in_err-put_idle.result
      (fault-last _ _ _ _ _ c.loop-event.idle c.args.events.now c.loop-event.event-index (history_text c.args.events.now)
      (omega arith) c.loop-event.invariant.toward c.in_err-put_idle.ensures.begins);
  lost = search rules;
  never_falls = search rules;
  cause = search rules;
}

pub returns : goal.returns
returns g c = record {
  passes = passes-last _ _ _ _ _ _ c.loop-event.idle c.args.events.now c.loop-event.event-index (history_text c.args.events.now)
      (omega arith) c.loop-event.invariant.toward c.in_ok-put_idle.ensures.passes;
  begins = search rules;
  lost = search rules;
  never_falls = search rules;
  cause = search rules;
}
