use Rattle.std.proofs.Common.{rules}
use Rattle.ak_base.proofs.Passing.{on_err}
use Rattle.ak_trace.specs.Text.{trace_text}
use Rattle.ak_history.specs.Text.{history_text}
use Rattle.ak_top.specs.Output.{pool_line}
use Rattle.ak_top.proofs.Writing.{begins_at_second, begins_at_third, begins_at_flush}
use Rattle.ak_top.proofs.top.write_output.Goals as goal

pub returns-in_err-put : goal.returns-in_err-put
returns-in_err-put g c = record {
  takes = search rules;
  begins = on_err c.from_residual-in_err-put.result
      (begins_at_second _ _ _ _ _ (trace_text c.args.trace.now) pool_line (history_text c.args.history.now)
      c.new-buffer.ensures c.in_ok-put_trace.ensures.passes c.in_err-put.ensures.begins);
  never_falls = search rules;
  cause = search rules;
}

pub returns-in_err-put_history : goal.returns-in_err-put_history
returns-in_err-put_history g c = record {
  takes = search rules;
  begins = on_err c.from_residual-in_err-put_history.result
      (begins_at_third _ _ _ _ _ _ _ (trace_text c.args.trace.now) pool_line (history_text c.args.history.now)
      c.new-buffer.ensures c.in_ok-put_trace.ensures.passes c.in_ok-put.ensures.passes c.in_err-put_history.ensures.begins);
  never_falls = search rules;
  cause = search rules;
}

pub returns-in_err-flush : goal.returns-in_err-flush
returns-in_err-flush g c = record {
  takes = search rules;
  begins = on_err c.from_residual-in_err-flush.result
      (begins_at_flush _ _ _ _ _ _ _ _ _ (trace_text c.args.trace.now) pool_line (history_text c.args.history.now)
      c.new-buffer.ensures c.in_ok-put_trace.ensures.passes c.in_ok-put.ensures.passes c.in_ok-put_history.ensures.passes
      c.in_err-flush.ensures.written.begins);
  never_falls = search rules;
  cause = search rules;
}
