use Rattle.std.proofs.Common.{◌≡◌, ℕ, get_or, sym, subst, ◌∙◌, arith, rules}
use Rattle.ak_base.proofs.Passing.{on_err, passes-member, passes-member_fault}
use Rattle.ak_history.specs.Text.{id_text}
use Rattle.ak_history.proofs.text.put_ids.Goals as goal

pub returns-in_err-put_id : goal.returns-in_err-put_id
returns-in_err-put_id g c = record {
  passes = search rules;
  begins = on_err c.from_residual.result
      (passes-member_fault id_text c.args.ids.now c.loop-id.id-index c.from.result _ _ _ _ _
      (subst (λ (n : ℕ). n ≡ get_or c.args.ids.now c.loop-id.id-index n) (sym (c.from.ensures ∙ c.number.ensures)) c.id-item.is) (omega arith)
      c.loop-id.invariant.passes c.in_err-put_id.ensures.begins);
  lost = search rules;
  never_falls = search rules;
  cause = search rules;
}

pub loop-id-preserved : goal.loop-id-preserved
loop-id-preserved g c = record {
  passes = passes-member id_text c.args.ids.now c.loop-id.id-index c.from.result _ _ _ _ _ _
      (subst (λ (n : ℕ). n ≡ get_or c.args.ids.now c.loop-id.id-index n) (sym (c.from.ensures ∙ c.number.ensures)) c.id-item.is) (omega arith)
      c.loop-id.invariant.passes c.in_ok-put_id.ensures.passes;
  never_falls = omega (arith, c.in_ok-put_id.ensures.never_falls);
}
