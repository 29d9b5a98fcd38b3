use Rattle.std.proofs.Common.{◌≡◌, ◌+◌, IfOk, ap, subst, arith}
use Rattle.ak_let_compile.specs.declared.draft.Draft.{Draft}
use Rattle.ak_let_compile.proofs.Written.{resumed_is}
use Rattle.ak_let_compile.proofs.draft.Draft.resume.Goals as goal

pub begin-requires-clause-line : goal.begin-requires-clause-line
begin-requires-clause-line c =
    let e = ap (λ (d : Draft). d.line) c.in_ok-put.ensures
    in omega (arith, e, c.requires.line)

pub returns-clause-next : goal.returns-clause-next
returns-clause-next c =
    let e = ap (λ (d : Draft). d.line) c.in_ok-put.ensures
    in subst (λ (x : Draft). IfOk c.begin.result (λ next. next ≡ x))
    (resumed_is c.args.self (c.args.self.name + 1) (c.put.new.self.line + 1) (c.count-count.result + 1) c.requires.lined (omega arith) (omega (arith, e))
    (omega (arith, c.count-count.ensures)))
    c.begin.ensures
