use Rattle.std.proofs.Common.{[], ◌∷◌, ◌++◌, flat_map, rules}
use Rattle.ak_base.proofs.Passing.{on_err, toward-fault, toward-end, toward-end_fault}
use Rattle.ak_history.specs.Text.{id_text, requests_text}
use Rattle.ak_history.proofs.Lines.{drain_word, drain_end, drain-start, drain-works, drain-requests, drain-last}
use Rattle.ak_history.proofs.text.put_drain.Goals as goal

pub returns-in_err-put : goal.returns-in_err-put
returns-in_err-put g c = record {
  passes = search rules;
  begins = on_err c.from_residual.result
      (toward-fault _ _ _ _ _ drain_word (flat_map id_text c.args.ids.now ++ drain_end c.args.requests.now) _
      (drain-start _ _ c.args.ids.now c.args.requests.now) c.in_err-put.ensures.begins);
  lost = search rules;
  never_falls = search rules;
  cause = search rules;
}

pub returns-in_err-put_ids : goal.returns-in_err-put_ids
returns-in_err-put_ids g c = record {
  passes = search rules;
  begins = on_err c.from_residual-in_err-put_ids.result
      (toward-fault _ _ _ _ _ (flat_map id_text c.args.ids.now) (drain_end c.args.requests.now) _
      (drain-works _ _ _ _ c.args.ids.now c.args.requests.now c.in_ok-put.ensures.passes) c.in_err-put_ids.ensures.begins);
  lost = search rules;
  never_falls = search rules;
  cause = search rules;
}

pub returns-in_err-put_requests : goal.returns-in_err-put_requests
returns-in_err-put_requests g c = record {
  passes = search rules;
  begins = on_err c.from_residual-in_err-put_requests.result
      (toward-fault _ _ _ _ _ (requests_text c.args.requests.now) (10 ∷ []) _
      (drain-requests _ _ _ _ _ _ c.args.ids.now c.args.requests.now c.in_ok-put.ensures.passes c.in_ok-put_ids.ensures.passes)
      c.in_err-put_requests.ensures.begins);
  lost = search rules;
  never_falls = search rules;
  cause = search rules;
}

pub returns-in_err-put-2 : goal.returns-in_err-put-2
returns-in_err-put-2 g c = record {
  passes = search rules;
  begins = on_err c.from_residual-in_err-put-2.result
      (toward-end_fault _ _ _ _ _ (10 ∷ []) _
      (drain-last _ _ _ _ _ _ _ _ c.args.ids.now c.args.requests.now c.in_ok-put.ensures.passes c.in_ok-put_ids.ensures.passes
      c.in_ok-put_requests.ensures.passes)
      c.in_err-put-2.ensures.begins);
  lost = search rules;
  never_falls = search rules;
  cause = search rules;
}

pub returns : goal.returns
returns g c = record {
  passes = toward-end _ _ _ _ _ _ (10 ∷ []) _
      (drain-last _ _ _ _ _ _ _ _ c.args.ids.now c.args.requests.now c.in_ok-put.ensures.passes c.in_ok-put_ids.ensures.passes
      c.in_ok-put_requests.ensures.passes)
      c.in_ok-put-2.ensures.passes;
  begins = search rules;
  lost = search rules;
  never_falls = search rules;
  cause = search rules;
}
