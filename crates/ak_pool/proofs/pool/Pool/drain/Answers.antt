use Rattle.std.proofs.Common.{◌<◌, ◌++◌, ◌∷◌, [], ap, ◌∙◌, refl, arith}
use Rattle.ak_pool.specs.Desks.{due_of}
use Rattle.ak_history.specs.declared.event.Event.TheVariants as event
use Rattle.ak_pool.proofs.AskedRules.{unfetched_is}
use Rattle.ak_pool.proofs.Pools.{is_open, pool_kept, owed_ids, drain_brings}
use Rattle.ak_pool.proofs.pool.Pool.drain.Goals as goal

pub invariant_of-self : goal.invariant_of-self
invariant_of-self c =
    let p = c.self.inside in
    let spare : 0 < p.spare = rw (← c.self.view_is) at c.requires.room in
    pool_kept p _ (event.Drain c.in_ok-ids.ids c.in_ok-requests.requests) c.self.invariant
    (is_open p c.self.invariant (rw (← c.self.view_is) at c.requires.open), c.in_ok-ids.ensures) c.in_ok-requests.ensures
    refl refl refl c.push_reserved.ensures.items c.fetch.ensures c.fetch-2.ensures.requests
    (λ b h le. omega (arith, h, spare, ap due_of c.fetch.ensures, c.fetch-2.ensures.due))

pub returns-clause-brought : goal.returns-clause-brought
returns-clause-brought c =
    let p = c.self.inside in
    rw (← c.self.view_is)
    (drain_brings p.threads p.askers p.events.items p.desk p.requests _ _ _ c.clear.ensures c.in_ok-copy_owed.ensures
    c.in_ok-copy_unfetched.ensures c.self.invariant.stands c.self.invariant.asked)

pub returns-clause-ok : goal.returns-clause-ok
returns-clause-ok c =
    let p = c.self.inside in
    let ids = c.in_ok-ids.ensures ∙ owed_ids p.threads p.events.items p.desk c.self.invariant.stands in
    let requests = c.in_ok-requests.ensures ∙ unfetched_is p.askers p.events.items p.requests c.self.invariant.asked in
    rw (← c.self.view_is) (c.push_reserved.ensures.items ∙ (λ i. p.events.items ++ event.Drain (ids i) (requests i) ∷ []))
