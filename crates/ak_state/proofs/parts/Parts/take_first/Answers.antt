use Rattle.std.proofs.Common.{◌≡◌, sym, arith, rules, ap, subst, ◌∙◌}
use Rattle.std.proofs.lemmas.Result.{IfOk-weaker}
use Rattle.std.specs.Prelude.{slice_get, Some, None}
use Rattle.std.proofs.lemmas.List.{length-map}
use Rattle.ak_cells.specs.Names.{name_in, trimmed}
use Rattle.ak_machine.specs.Mapped.{purpose_mapped}
use Rattle.ak_machine.specs.Groups.{purpose_at}
use Rattle.ak_state.specs.Seen.{other_lists, seen}
use Rattle.ak_state.specs.Groups.{taken_fills, taken_calls, TakesDrawn, filled_by, called_by}
use Rattle.ak_state.proofs.Groups.{purposes_long, purpose_there, purpose_get}
use Rattle.ak_state.proofs.Choices.{looks_drawn, takes_fills, takes_calls, takes_drawn}
use Rattle.ak_state.proofs.parts.Parts.take_first.Goals as goal

pub unreachable-requires : goal.unreachable-requires
unreachable-requires c =
    let ps = c.self.inside.lists.purposes
    in let fits = rw (← c.self.view_is) at c.requires.fits
    in let guard = rw (← c.self.view_is) at c.requires.group
    in let none : slice_get ps c.args.g ≡ None = search rules
    in purpose_there ps c.args.g
    (omega (arith, guard, purposes_long _ fits, length-map ps (purpose_mapped (name_in (trimmed c.self.inside.cells.named.names))))) none

pub taken_by-requires : goal.taken_by-requires
taken_by-requires c =
    let ps = c.self.inside.lists.purposes
    in let f = name_in (trimmed c.self.inside.cells.named.names)
    in let there : slice_get ps c.args.g ≡ Some c.in-Some.purpose.now = search rules
    in looks_drawn c.self.inside.cells.named c.self.inside.queues.queues c.self.inside.trace (other_lists c.self.inside.lists) c.self.invariant.named
    (rw (← c.self.view_is) at c.requires.fits) c.args.g (rw (← c.self.view_is) at c.requires.group) c.in-Some.purpose.now
    (purpose_get f ps c.args.g c.in-Some.purpose.now _ there)

pub returns-clause-fills : goal.returns-clause-fills
returns-clause-fills c =
    let cells = c.self.inside.cells.named
    in let ps = c.self.inside.lists.purposes
    in let f = name_in (trimmed cells.names)
    in let s = (seen cells c.self.inside.queues.queues c.self.inside.trace (other_lists c.self.inside.lists)).plain
    in let there : slice_get ps c.args.g ≡ Some c.in-Some.purpose.now = search rules
    in let is : purpose_at c.args.g s ≡ purpose_mapped f c.in-Some.purpose.now = purpose_get f ps c.args.g c.in-Some.purpose.now _ there
    in rw (← c.self.view_is)
    (IfOk-weaker c.taken_by.result _ _
    (λ taken e. ap (λ x. taken_fills f x s) e
    ∙ takes_fills cells c.self.inside.queues.queues c.self.inside.trace (other_lists c.self.inside.lists) c.in-Some.purpose.now
    ∙ ap (λ x. filled_by x s) (sym is)) c.taken_by.ensures.taken)

pub returns-clause-calls : goal.returns-clause-calls
returns-clause-calls c =
    let cells = c.self.inside.cells.named
    in let ps = c.self.inside.lists.purposes
    in let f = name_in (trimmed cells.names)
    in let s = (seen cells c.self.inside.queues.queues c.self.inside.trace (other_lists c.self.inside.lists)).plain
    in let there : slice_get ps c.args.g ≡ Some c.in-Some.purpose.now = search rules
    in let is : purpose_at c.args.g s ≡ purpose_mapped f c.in-Some.purpose.now = purpose_get f ps c.args.g c.in-Some.purpose.now _ there
    in rw (← c.self.view_is)
    (IfOk-weaker c.taken_by.result _ _
    (λ taken e. ap (λ x. taken_calls f x) e
    ∙ takes_calls cells c.self.inside.queues.queues c.self.inside.trace (other_lists c.self.inside.lists) c.in-Some.purpose.now
    ∙ ap (λ x. called_by x s) (sym is)) c.taken_by.ensures.taken)

pub returns-clause-drawn : goal.returns-clause-drawn
returns-clause-drawn c =
    let cells = c.self.inside.cells.named
    in let ps = c.self.inside.lists.purposes
    in let s = (seen cells c.self.inside.queues.queues c.self.inside.trace (other_lists c.self.inside.lists)).plain
    in let there : slice_get ps c.args.g ≡ Some c.in-Some.purpose.now = search rules
    in let looks = looks_drawn cells c.self.inside.queues.queues c.self.inside.trace (other_lists c.self.inside.lists) c.self.invariant.named
    (rw (← c.self.view_is) at c.requires.fits) c.args.g (rw (← c.self.view_is) at c.requires.group) c.in-Some.purpose.now
    (purpose_get (name_in (trimmed cells.names)) ps c.args.g c.in-Some.purpose.now _ there)
    in rw (← c.self.view_is)
    (IfOk-weaker c.taken_by.result _ _
    (λ taken e. subst (λ x. TakesDrawn x s) (sym e) (takes_drawn cells c.in-Some.purpose.now s looks))
    c.taken_by.ensures.taken)
