use Rattle.std.proofs.Common.{◌≡◌, ◌+◌, ◌<◌, ◌∷◌, [], ◌++◌, length, drop, suc, get_or, add-one, drop-cons, ap, sym, ◌∙◌, arith}
use Rattle.ak_let.specs.Compile.{entry_from}
use Rattle.ak_let_compile.proofs.Whole.{none_compiled, one_compiled, entry_near}
use Rattle.ak_let_compile.proofs.compile.compile.Goals as goal

pub loop-i-init : goal.loop-i-init
loop-i-init c =
    none_compiled c.args.source.now c.in_ok-entries.entries c.push.new.self
    (λ f. c.in_ok-entries.ensures f ∙ ap (λ fs. entry_from 1 fs f) c.as_slice.ensures)
    (c.in_ok-push.ensures.ok ∙ ap (λ ps. ps ++ c.in_ok-starter.field-0 ∷ []) c.make-procs.ensures
    ∙ ap (λ p. p ∷ []) c.in_ok-starter.ensures)

pub function-requires-clause-place : goal.function-requires-clause-place
function-requires-clause-place c =
    let at = c.in_ok-entries.ensures c.loop-i.i ∙ ap (λ fs. entry_from 1 fs c.loop-i.i) c.as_slice.ensures
    in omega (
      arith,
      c.entry.ensures,
      at,
      entry_near 1 c.args.source.now.funs c.loop-i.i c.requires.within,
      c.requires.few,
      ap length c.as_slice-fun-items.ensures,
    )

pub loop-i-preserved : goal.loop-i-preserved
loop-i-preserved c =
    let funs = c.args.source.now.funs
    in let i = c.loop-i.i
    in let fun = c.fun-item.result
    in let here : i < length funs = omega (arith, ap length c.as_slice-fun-items.ensures)
    in let item : fun ≡ get_or funs i fun = c.fun-item.is ∙ ap (λ fs. get_or fs i fun) c.as_slice-fun-items.ensures
    in let rest : drop i funs ≡ fun ∷ drop (i + 1) funs =
    drop-cons funs i fun here ∙ ap (λ x. x ∷ drop (suc i) funs) (sym item) ∙ ap (λ k. fun ∷ drop k funs) (sym (add-one i))
    in one_compiled c.args.source.now c.in_ok-entries.entries c.loop-i.line c.in_ok-line.line c.entry.result c.loop-i.procs c.function.new.procs
    i fun (λ f. c.in_ok-entries.ensures f ∙ ap (λ fs. entry_from 1 fs f) c.as_slice.ensures) c.entry.ensures rest
    c.in_ok-line.ensures.procs c.in_ok-line.ensures.behind c.in_ok-line.ensures.near c.loop-i.invariant
