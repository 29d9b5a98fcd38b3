use Rattle.std.proofs.Common.{rules, ◌≡◌, ◌∙◌, ap, sym}
use Rattle.std.specs.List.{prefix_len}
use Rattle.ak_throttle.specs.Throttle as plain
use Rattle.ak_throttle.specs.Seen.{throttle_of, bodies_of, reached, without_reached}
use Rattle.ak_throttle.proofs.Done.{reached_same, without_same}
use Rattle.ak_throttle.proofs.Kept.{kept_reached}
use Rattle.ak_throttle.proofs.throttle.Throttle.next_done.Goals as goal

pub invariant_of-self : goal.invariant_of-self
invariant_of-self g c =
    let p = c.self.inside
    in kept_reached p.most p.dead p.progress p.lost p.bodies.items p.marks.items c.take_reached.new.marks.items c.over_front-over.result
    c.self.invariant c.take_reached.ensures.rest

pub returns-clause-front : goal.returns-clause-front
returns-clause-front g c =
    let p = c.self.inside
    in let bodies = bodies_of p.dead p.progress.overs p.lost p.bodies.items
    in let over : c.over_front-over.result ≡ prefix_len plain.is_over bodies = search rules
    in c.take_reached.ensures.front ∙ ap (λ n. reached n p.marks.items) over
    ∙ sym (reached_same bodies p.marks.items c.self.invariant.ordered)
    ∙ ap (λ t. plain.ivar_of (plain.next_satisfied t)) c.self.view_is

pub returns-clause-rest : goal.returns-clause-rest
returns-clause-rest g c =
    let p = c.self.inside
    in let bodies = bodies_of p.dead p.progress.overs p.lost p.bodies.items
    in let over : c.over_front-over.result ≡ prefix_len plain.is_over bodies = search rules
    in ap (λ marks. throttle_of p.most p.stop p.dead p.progress.overs p.lost p.bodies.items marks)
    (c.take_reached.ensures.rest ∙ ap (λ n. without_reached n p.marks.items) over ∙ sym (without_same bodies p.marks.items c.self.invariant.ordered))
    ∙ ap plain.satisfied_taken c.self.view_is
