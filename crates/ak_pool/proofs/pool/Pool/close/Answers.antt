use Rattle.std.proofs.Common.{ap, refl, arith}
use Rattle.ak_pool.specs.Desks.{due_of}
use Rattle.ak_pool.proofs.Pools.{is_open, pool_closed}
use Rattle.ak_pool.proofs.pool.Pool.close.Goals as goal

pub invariant_of-self : goal.invariant_of-self
invariant_of-self c =
    let p = c.self.inside in
    pool_closed p _ c.self.invariant (is_open p c.self.invariant (rw (← c.self.view_is) at c.requires)) refl refl
    c.push_reserved.ensures.items c.close.ensures refl
    (λ h. omega (arith, h, ap due_of c.close.ensures))
