use Rattle.std.proofs.Common.{◌≡◌, ◌+◌, length, ap, ◌∙◌, arith}
use Rattle.ak_let_compile.specs.declared.draft.Draft.{Draft}
use Rattle.ak_let_compile.specs.Drafts.{entry_at}
use Rattle.ak_let_compile.proofs.Function.{none_walked, behind_all}
use Rattle.ak_let_compile.proofs.compile.function.Goals as goal

pub loop-line-init : goal.loop-line-init
loop-line-init c =
    none_walked (entry_at c.args.entries.now) c.args.place c.args.line c.args.fun.now c.args.procs.now c.in_ok-draft.draft c.in_ok-draft.ensures

pub returns-clause-behind : goal.returns-clause-behind
returns-clause-behind c =
    let e = ap (λ (d : Draft). d.line) c.in_ok-put.ensures
    in let counted : c.put.new.self.line + 1 ≡ c.loop-line.draft.line + 2 = omega (arith, e)
    in counted
    ∙ behind_all (entry_at c.args.entries.now) c.args.place c.args.line c.args.fun.now c.args.procs.now c.loop-line.procs c.loop-line.draft
    c.loop-line.line-index (omega (arith, ap length c.as_slice-line-items.ensures)) c.loop-line.invariant
