use Rattle.std.proofs.Common.{arith, rules}
use Rattle.std.proofs.lemmas.Grind.{common_steps}
use Rattle.ak_base.proofs.Passing.{beginning-of_written, grown-more, on_err}
use Rattle.ak_base.proofs.sink.write_all.Goals as goal

pub loop-at-preserved : goal.loop-at-preserved
loop-at-preserved g c = record {
  within = grind (arith, common_steps, c.in_ok-at.ensures.within);
  took = grown-more _ _ _ c.args.bytes.now c.loop-at.at c.in_ok-at.field-0 c.loop-at.invariant.took c.in_ok-at.ensures.takes;
  never_falls = omega (arith, c.in_ok-at.ensures.never_falls);
}

pub returns-in_err-at : goal.returns-in_err-at
returns-in_err-at g c = record {
  takes = search rules;
  begins = on_err c.from_residual.result
      (beginning-of_written _ _ _ c.args.bytes.now c.loop-at.at c.loop-at.invariant.took c.in_err-at.ensures.failed);
  never_falls = search rules;
  cause = search rules;
}
