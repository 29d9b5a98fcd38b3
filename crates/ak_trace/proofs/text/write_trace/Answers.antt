use Rattle.std.proofs.Common.{ℕ, List, ◌++◌, subst, rules}
use Rattle.ak_base.specs.Streams.{TookBeginning}
use Rattle.ak_base.proofs.Passing.{on_err, passes-flush_fault}
use Rattle.ak_trace.specs.Text.{trace_text}
use Rattle.ak_trace.proofs.text.write_trace.Goals as goal

pub returns-in_err-flush : goal.returns-in_err-flush
returns-in_err-flush g c = record {
  takes = search rules;
  begins = on_err c.from_residual-in_err-flush.result
      (subst
      (λ (waited : List ℕ). TookBeginning (g.K.Sink.taken c.args.sink.now) (g.K.Sink.taken c.flush.new.sink) (waited ++ trace_text c.args.t.now))
      c.new-buffer.ensures
      (passes-flush_fault _ _ _ _ _ _ c.in_ok-put_trace.ensures.passes c.in_err-flush.ensures.written.begins));
  never_falls = search rules;
  cause = search rules;
}
