use Rattle.std.proofs.Common.{◌≡◌, ◌∙◌, Some, None, ap, sym, refl, rules}
use Rattle.ak_cells.specs.Names.{name_in, trimmed}
use Rattle.ak_machine.specs.declared.held.Fate.TheVariants.{Failing}
use Rattle.ak_streams.specs.Throttles.{body_in}
use Rattle.ak_state.specs.Bodies.{is_failing}
use Rattle.ak_state.proofs.Throttles.{body_gone, fails_here, no_failing}
use Rattle.ak_state.proofs.parts.Parts.is_failing.Goals as goal

pub returns-in-Failing : goal.returns-in-Failing
returns-in-Failing c =
    let f = name_in (trimmed c.self.inside.cells.named.names)
    in let all = c.self.inside.lists.throttles
    in let e : body_in c.args.b.now all ≡ Some c.in-Some.body = search rules
    in rw (← c.self.view_is) (sym (fails_here f Failing all.started c.args.b.now c.in-Some.body e c.in-Failing.is))

pub returns-in_default : goal.returns-in_default
returns-in_default c =
    let f = name_in (trimmed c.self.inside.cells.named.names)
    in let all = c.self.inside.lists.throttles
    in let e : body_in c.args.b.now all ≡ Some c.in-Some.body = search rules
    in rw (← c.self.view_is)
    (sym (fails_here f c.in-Some.body.fate all.started c.args.b.now c.in-Some.body e refl ∙ no_failing c.in-Some.body.fate c.in_default.not-Failing))

pub returns-in-None : goal.returns-in-None
returns-in-None c =
    let f = name_in (trimmed c.self.inside.cells.named.names)
    in let all = c.self.inside.lists.throttles
    in let e : body_in c.args.b.now all ≡ None = search rules
    in rw (← c.self.view_is) (sym (ap (λ x. is_failing x.fate) (body_gone f all.started c.args.b.now e)))
