use Rattle.std.proofs.Common.{◌++◌, ◌∷◌, [], ap, ◌∙◌, refl, arith}
use Rattle.std.specs.Int.{w64}
use Rattle.std.proofs.lemmas.Int.{to_z-of_z}
use Rattle.ak_history.specs.declared.event.Event.TheVariants as event
use Rattle.ak_pool.specs.Askers.{with_answer}
use Rattle.ak_pool.proofs.AskedRules.{unanswered_from}
use Rattle.ak_pool.proofs.Pools.{is_open, pool_kept}
use Rattle.ak_pool.proofs.pool.Pool.answer.Goals as goal

pub answer-requires-clause-unanswered : goal.answer-requires-clause-unanswered
answer-requires-clause-unanswered c =
    let p = c.self.inside in
    unanswered_from p.askers p.events.items p.requests c.args.no c.self.invariant.asked (rw (← c.self.view_is) at c.requires.fetched)
    (rw (← c.self.view_is) at c.requires.unanswered)

pub invariant_of-self : goal.invariant_of-self
invariant_of-self c =
    let p = c.self.inside in
    let e = event.Answered c.args.no c.args.num in
    let free = unanswered_from p.askers p.events.items p.requests c.args.no c.self.invariant.asked
    (rw (← c.self.view_is) at c.requires.fetched) (rw (← c.self.view_is) at c.requires.unanswered) in
    pool_kept p _ e c.self.invariant (is_open p c.self.invariant (rw (← c.self.view_is) at c.requires.open)) free
    refl refl refl (c.push_reserved.ensures.items ∙ ap (λ z. p.events.items ++ event.Answered c.args.no z ∷ []) (to_z-of_z w64 c.args.num c.ranges.num))
    refl (c.answer.ensures.requests ∙ ap (λ z. with_answer c.args.no z p.requests) (to_z-of_z w64 c.args.num c.ranges.num))
    (λ b h le. omega (arith, h, le, c.answer.ensures.due))
