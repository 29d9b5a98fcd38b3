use Rattle.std.proofs.Common.{◌≡◌, Some, None, ap, sym, rules}
use Rattle.ak_cells.specs.Names.{name_in, trimmed}
use Rattle.ak_machine.specs.declared.held.Fate.TheVariants.{Undecided, Failing, Over}
use Rattle.ak_streams.specs.Throttles.{body_in}
use Rattle.ak_state.specs.Bodies.{undecided_of}
use Rattle.ak_state.proofs.Throttles.{body_gone, of_fate}
use Rattle.ak_state.proofs.parts.Parts.undecided.Goals as goal

pub returns-in_err-body : goal.returns-in_err-body
returns-in_err-body c =
    let f = name_in (trimmed c.self.inside.cells.named.names)
    in let all = c.self.inside.lists.throttles
    in let e : body_in c.args.b.now all ≡ None = search rules
    in let none : c.from_residual.result ≡ None = search rules
    in rw (← c.self.view_is, none) (sym (ap (λ x. undecided_of x.fate x) (body_gone f all.started c.args.b.now e)))

pub returns-in-Undecided : goal.returns-in-Undecided
returns-in-Undecided c =
    let f = name_in (trimmed c.self.inside.cells.named.names)
    in let all = c.self.inside.lists.throttles
    in let e : body_in c.args.b.now all ≡ Some c.in_ok-body.body = search rules
    in let fate : c.in_ok-body.body.fate ≡ Undecided = search rules
    in rw (← c.self.view_is) (sym (of_fate f Undecided all.started c.args.b.now c.in_ok-body.body e fate))

pub returns-in-Failing : goal.returns-in-Failing
returns-in-Failing c =
    let f = name_in (trimmed c.self.inside.cells.named.names)
    in let all = c.self.inside.lists.throttles
    in let e : body_in c.args.b.now all ≡ Some c.in_ok-body.body = search rules
    in let fate : c.in_ok-body.body.fate ≡ Failing = search rules
    in rw (← c.self.view_is) (sym (of_fate f Failing all.started c.args.b.now c.in_ok-body.body e fate))

pub returns-in-Over : goal.returns-in-Over
returns-in-Over c =
    let f = name_in (trimmed c.self.inside.cells.named.names)
    in let all = c.self.inside.lists.throttles
    in let e : body_in c.args.b.now all ≡ Some c.in_ok-body.body = search rules
    in let fate : c.in_ok-body.body.fate ≡ Over = search rules
    in rw (← c.self.view_is) (sym (of_fate f Over all.started c.args.b.now c.in_ok-body.body e fate))
