use Rattle.std.proofs.Common.{rules}
use Rattle.ak_base.proofs.Passing.{on_err, passes-then, passes-then_fault}
use Rattle.ak_history.specs.Text.{idle_text, event_text}
use Rattle.ak_history.proofs.text.put_after_idle.Goals as goal

pub returns-in_err-put_event : goal.returns-in_err-put_event
returns-in_err-put_event g c = record {
  passes = search rules;
  begins = on_err c.from_residual-in_err-put_event.result
      (passes-then_fault _ _ _ _ _ (idle_text c.args.idle) (event_text c.args.event.now)
      c.in_ok-put_idle.ensures.passes c.in_err-put_event.ensures.begins);
  lost = search rules;
  never_falls = search rules;
  cause = search rules;
}

pub returns : goal.returns
returns g c = record {
  passes = passes-then _ _ _ _ _ _ (idle_text c.args.idle) (event_text c.args.event.now)
      c.in_ok-put_idle.ensures.passes c.in_ok-put_event.ensures.passes;
  begins = search rules;
  lost = search rules;
  never_falls = search rules;
  cause = search rules;
}
