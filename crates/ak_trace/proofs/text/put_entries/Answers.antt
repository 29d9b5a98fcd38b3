use Rattle.std.proofs.Common.{arith, rules}
use Rattle.ak_base.proofs.Passing.{on_err, passes-member, passes-member_fault}
use Rattle.ak_trace.specs.Text.{entry_text}
use Rattle.ak_trace.proofs.text.put_entries.Goals as goal

pub returns-in_err-put_entry : goal.returns-in_err-put_entry
returns-in_err-put_entry g c = record {
  passes = search rules;
  begins = on_err c.from_residual.result
      (passes-member_fault entry_text c.args.entries.now c.loop-entry.entry-index c.entry-item.result _ _ _ _ _
      c.entry-item.is (omega arith) c.loop-entry.invariant.passes c.in_err-put_entry.ensures.begins);
  lost = search rules;
  never_falls = search rules;
  cause = search rules;
}

pub loop-entry-preserved : goal.loop-entry-preserved
loop-entry-preserved g c = record {
  passes = passes-member entry_text c.args.entries.now c.loop-entry.entry-index c.entry-item.result _ _ _ _ _ _
      c.entry-item.is (omega arith) c.loop-entry.invariant.passes c.in_ok-put_entry.ensures.passes;
  never_falls = omega (arith, c.in_ok-put_entry.ensures.never_falls);
}
