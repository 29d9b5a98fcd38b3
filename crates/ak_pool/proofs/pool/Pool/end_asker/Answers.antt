use Rattle.std.proofs.Common.{refl, arith}
use Rattle.ak_history.specs.declared.event.Event.TheVariants as event
use Rattle.ak_pool.proofs.AskedRules.{idle_free}
use Rattle.ak_pool.proofs.Pools.{is_open, pool_kept}
use Rattle.ak_pool.proofs.pool.Pool.end_asker.Goals as goal

pub end-requires : goal.end-requires
end-requires c =
    let p = c.self.inside in
    idle_free p.askers p.events.items p.requests c.args.asker c.self.invariant.asked (rw (← c.self.view_is) at c.requires.idle)

pub invariant_of-self : goal.invariant_of-self
invariant_of-self c =
    let p = c.self.inside in
    let e = event.AskerEnd c.args.asker in
    let free = idle_free p.askers p.events.items p.requests c.args.asker c.self.invariant.asked (rw (← c.self.view_is) at c.requires.idle) in
    pool_kept p _ e c.self.invariant (is_open p c.self.invariant (rw (← c.self.view_is) at c.requires.open)) free
    refl refl refl c.push_reserved.ensures.items refl c.end.ensures.requests
    (λ b h le. omega (arith, h, le, c.end.ensures.due))
