use Rattle.std.proofs.Common.{◌++◌, ◌∷◌, [], ap, ◌∙◌, refl, arith, w64, to_z, of_z}
use Rattle.std.proofs.lemmas.Int.{to_z-of_z}
use Rattle.ak_history.specs.declared.event.Event.TheVariants as event
use Rattle.ak_pool.specs.Askers.{with_request}
use Rattle.ak_pool.proofs.AskedRules.{idle_free}
use Rattle.ak_pool.proofs.Pools.{is_open, pool_kept}
use Rattle.ak_pool.proofs.pool.Pool.request.Goals as goal

pub request-requires : goal.request-requires
request-requires c =
    let p = c.self.inside in
    idle_free p.askers p.events.items p.requests c.args.asker c.self.invariant.asked (rw (← c.self.view_is) at c.requires.idle)

pub invariant_of-self-2 : goal.invariant_of-self-2
invariant_of-self-2 c =
    let p = c.self.inside in
    let e = event.Request c.in_ok-no.no c.args.asker c.args.num in
    let free = idle_free p.askers p.events.items p.requests c.args.asker c.self.invariant.asked (rw (← c.self.view_is) at c.requires.idle) in
    pool_kept p _ e c.self.invariant (is_open p c.self.invariant (rw (← c.self.view_is) at c.requires.open)) (c.in_ok-no.ensures.number, free)
    refl refl refl
    (c.push_reserved.ensures.items
    ∙ (ap (λ h. h ++ event.Request c.in_ok-no.no c.args.asker (to_z w64 (of_z w64 c.args.num)) ∷ []) c.in_ok-reserve.ensures.items
    ∙ ap (λ z. p.events.items ++ event.Request c.in_ok-no.no c.args.asker z ∷ []) (to_z-of_z w64 c.args.num c.ranges.num)))
    refl (c.in_ok-no.ensures.ok ∙ ap (λ z. with_request c.args.asker z p.requests) (to_z-of_z w64 c.args.num c.ranges.num))
    (λ b h le. omega (arith, h, le, c.in_ok-no.ensures.due, c.in_ok-reserve.ensures.ok, c.in_ok-reserve.ensures.len))
