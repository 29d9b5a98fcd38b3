use Rattle.std.proofs.Common.{◌≡◌, ℕ, None, List, take, map, ◌∙◌, sym, ap, subst, arith}
use Rattle.std.proofs.lemmas.Result.{err_from_is_err_and}
use Rattle.ak_valid.proofs.Mapping.{mapped_next}
use Rattle.ak_let_syntax.specs.declared.named.NamedFun.{NamedFun}
use Rattle.ak_let_reader.specs.NameFaults.{first_fault, fun_judged}
use Rattle.ak_let_reader.specs.Numbered.{fun_names, numbered_fun}
use Rattle.ak_let_reader.specs.Refusals.{AreBefore, RefusesFor}
use Rattle.ak_let_reader.proofs.Firsts.{fun_gone, fun_refused}
use Rattle.ak_let_reader.proofs.names.functions.Goals as goal

pub returns-in_err-function-clause-err : goal.returns-in_err-function-clause-err
returns-in_err-function-clause-err c =
    let p = err_from_is_err_and c.from_residual-in_err-function.result c.from_residual-in_err-function.ensures.1 in
    rw (p.1, p.2)
    (fun_refused c.args.funs.now c.loop-place.place c.index-funs-place.result c.in_err-function.field-0.0 (omega arith) c.index-funs-place.is
    c.loop-place.invariant.gone
    (λ before are. subst
    (λ (funs : List NamedFun). RefusesFor (first_fault (fun_judged funs before c.index-funs-place.result)) c.in_err-function.field-0.0) c.requires
    (c.in_err-function.ensures.err before (subst (λ (funs : List NamedFun). AreBefore funs c.loop-place.place before) (sym c.requires) are))))

pub loop-place-preserved : goal.loop-place-preserved
loop-place-preserved c = record {
  gone =
      fun_gone c.args.funs.now c.loop-place.place c.index-funs-place.result (omega arith) c.index-funs-place.is c.loop-place.invariant.gone
      (λ before are. subst
      (λ (funs : List NamedFun). first_fault (fun_judged funs before c.index-funs-place.result) ≡ None) c.requires
      (c.in_ok-function.ensures.ok.0 before (subst (λ (funs : List NamedFun). AreBefore funs c.loop-place.place before) (sym c.requires) are)));
  done =
      mapped_next (numbered_fun (fun_names c.args.funs.now)) c.args.funs.now c.loop-place.place c.index-funs-place.result c.loop-place.numbered _ _
      (omega arith) c.index-funs-place.is c.loop-place.invariant.done c.in_ok-push.ensures.ok
      (c.in_ok-function.ensures.ok.1 ∙ ap (λ (funs : List NamedFun). numbered_fun (fun_names funs) c.index-funs-place.result) c.requires);
}
