use Rattle.std.proofs.Common.{◌≡◌, ℕ, get_or, sym, subst, arith, rules}
use Rattle.ak_base.proofs.Passing.{on_err, passes-member, passes-member_fault}
use Rattle.ak_history.specs.Text.{id_text}
use Rattle.ak_history.proofs.text.put_request_ids.Goals as goal

pub returns-in_err-put_id : goal.returns-in_err-put_id
returns-in_err-put_id g c = record {
  passes = search rules;
  begins = on_err c.from_residual.result
      (passes-member_fault id_text c.args.requests.now c.loop-no.no-index c.number.result _ _ _ _ _
      (subst (λ (n : ℕ). n ≡ get_or c.args.requests.now c.loop-no.no-index n) (sym (c.number.ensures)) c.no-item.is) (omega arith)
      c.loop-no.invariant.passes c.in_err-put_id.ensures.begins);
  lost = search rules;
  never_falls = search rules;
  cause = search rules;
}

pub loop-no-preserved : goal.loop-no-preserved
loop-no-preserved g c = record {
  passes = passes-member id_text c.args.requests.now c.loop-no.no-index c.number.result _ _ _ _ _ _
      (subst (λ (n : ℕ). n ≡ get_or c.args.requests.now c.loop-no.no-index n) (sym (c.number.ensures)) c.no-item.is) (omega arith)
      c.loop-no.invariant.passes c.in_ok-put_id.ensures.passes;
  never_falls = omega (arith, c.in_ok-put_id.ensures.never_falls);
}
