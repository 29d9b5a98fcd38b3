use Rattle.std.proofs.Common.{◌<◌, refl, arith}
use Rattle.ak_pool.specs.Facts.{facts_of}
use Rattle.ak_history.specs.declared.event.Event.TheVariants as event
use Rattle.ak_pool.proofs.Legality.{active_served}
use Rattle.ak_pool.proofs.Pools.{is_open, pool_kept}
use Rattle.ak_pool.proofs.pool.Pool.end_helper.Goals as goal

pub invariant_of-self : goal.invariant_of-self
invariant_of-self c =
    let p = c.self.inside in
    let spare : 0 < p.spare = rw (← c.self.view_is) at c.requires.room in
    pool_kept p _ (event.HelperEnd c.args.no) c.self.invariant (
      is_open p c.self.invariant (rw (← c.self.view_is) at c.requires.open),
      active_served p.threads
          (facts_of p.events.items) p.desk c.args.no c.self.invariant.stands (rw (← c.self.view_is) at c.requires.active),
    )
    tt refl refl refl c.push_reserved.ensures.items c.end_helper.ensures.desk refl
    (λ b h le. omega (arith, h, spare, c.end_helper.ensures.due))
