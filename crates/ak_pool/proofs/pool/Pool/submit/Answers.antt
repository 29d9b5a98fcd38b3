use Rattle.std.proofs.Common.{◌++◌, ◌∷◌, [], ap, ◌∙◌, refl, arith}
use Rattle.ak_history.specs.declared.event.Event.TheVariants as event
use Rattle.ak_pool.proofs.Legality.{served_from}
use Rattle.ak_pool.proofs.Pools.{is_open, pool_kept}
use Rattle.ak_pool.proofs.pool.Pool.submit.Goals as goal

pub submit-requires-clause-served : goal.submit-requires-clause-served
submit-requires-clause-served c =
    let p = c.self.inside in
    served_from p.threads p.events.items p.desk c.args.helper c.self.invariant.stands (rw (← c.self.view_is) at c.requires.served)

pub invariant_of-self-2 : goal.invariant_of-self-2
invariant_of-self-2 c =
    let p = c.self.inside in
    let served = served_from p.threads p.events.items p.desk c.args.helper c.self.invariant.stands (rw (← c.self.view_is) at c.requires.served) in
    let e = event.Submit c.new-id.result c.args.work c.args.helper in
    pool_kept p _ e c.self.invariant
    (is_open p c.self.invariant (rw (← c.self.view_is) at c.requires.open), c.new-id.ensures ∙ c.submits.ensures, served)
    tt refl refl refl (c.push_reserved.ensures.items ∙ ap (λ h. h ++ e ∷ []) c.in_ok-reserve.ensures.items) c.in_ok-submit.ensures.ok refl
    (λ b h le. omega (arith, h, le, c.in_ok-submit.ensures.due, c.in_ok-reserve.ensures.ok, c.in_ok-reserve.ensures.len))
