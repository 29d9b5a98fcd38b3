use Rattle.std.proofs.Common.{[], subst, List, ℕ, rules}
use Rattle.ak_base.specs.Streams.{Passes}
use Rattle.ak_base.proofs.Passing.{on_err, passes-flush_fault}
use Rattle.ak_top.specs.Output.{valid_line}
use Rattle.ak_top.proofs.check.write_valid.Goals as goal

pub returns-in_err-flush : goal.returns-in_err-flush
returns-in_err-flush g c = record {
  takes = search rules;
  begins = on_err c.from_residual-in_err-flush.result
      (passes-flush_fault _ _ _ [] _ valid_line
      (subst (λ (w : List ℕ). Passes (g.K.Sink.taken c.args.sink.now) (g.K.Sink.taken c.put.new.sink) w c.put.new.self valid_line)
      c.new-buffer.ensures c.in_ok-put.ensures.passes)
      c.in_err-flush.ensures.written.begins);
  never_falls = search rules;
  cause = search rules;
}
