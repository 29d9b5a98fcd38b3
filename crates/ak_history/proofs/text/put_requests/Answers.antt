use Rattle.std.proofs.Common.{sym, ◌∙◌, rules}
use Rattle.ak_base.proofs.Passing.{on_err}
use Rattle.ak_history.proofs.Lines.{requests-fault_1, requests-fault_2, requests-pass}
use Rattle.ak_history.proofs.text.put_requests.Goals as goal

pub returns-in_err-put : goal.returns-in_err-put
returns-in_err-put g c = record {
  passes = search rules;
  begins = on_err c.from_residual.result
      (requests-fault_1 _ _ _ c.args.requests.now (sym c.is_empty.ensures ∙ c.if-is_empty.false) c.in_err-put.ensures.begins);
  lost = search rules;
  never_falls = search rules;
  cause = search rules;
}

pub returns-in_err-put_request_ids : goal.returns-in_err-put_request_ids
returns-in_err-put_request_ids g c = record {
  passes = search rules;
  begins = on_err c.from_residual-in_err-put_request_ids.result
      (requests-fault_2 _ _ _ _ _ c.args.requests.now (sym c.is_empty.ensures ∙ c.if-is_empty.false) c.in_ok-put.ensures.passes
      c.in_err-put_request_ids.ensures.begins);
  lost = search rules;
  never_falls = search rules;
  cause = search rules;
}

pub returns : goal.returns
returns g c = record {
  passes = requests-pass _ _ _ _ _ _ c.args.requests.now (sym c.is_empty.ensures ∙ c.if-is_empty.false) c.in_ok-put.ensures.passes
      c.in_ok-put_request_ids.ensures.passes;
  begins = search rules;
  lost = search rules;
  never_falls = search rules;
  cause = search rules;
}
