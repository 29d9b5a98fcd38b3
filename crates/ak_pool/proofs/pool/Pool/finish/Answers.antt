use Rattle.std.proofs.Common.{ap, ◌∙◌, refl, arith}
use Rattle.ak_history.specs.declared.event.Event.TheVariants as event
use Rattle.ak_pool.specs.Desks.{thread_at, finished_by}
use Rattle.ak_pool.proofs.Legality.{legal_fits}
use Rattle.ak_pool.proofs.Pools.{ends_some, pool_kept}
use Rattle.ak_pool.proofs.pool.Pool.finish.Goals as goal

pub finish-requires-clause-place : goal.finish-requires-clause-place
finish-requires-clause-place c =
    let p = c.self.inside in
    let fits = legal_fits p.threads p.askers p.events.items p.desk (event.Finish c.args.thread c.args.id c.args.outcome)
    c.self.invariant.stands (rw (← c.self.view_is) at c.requires) in
    omega (arith, fits.0, c.number.ensures)

pub finish-requires-clause-runs : goal.finish-requires-clause-runs
finish-requires-clause-runs c =
    let p = c.self.inside in
    let fits = legal_fits p.threads p.askers p.events.items p.desk (event.Finish c.args.thread c.args.id c.args.outcome)
    c.self.invariant.stands (rw (← c.self.view_is) at c.requires) in
    rw c.number.ensures (ends_some c.args.id c.args.outcome (thread_at p.desk c.args.thread).running fits.1)

pub invariant_of-self : goal.invariant_of-self
invariant_of-self c =
    let p = c.self.inside in
    let e = event.Finish c.args.thread c.args.id c.args.outcome in
    let fits = legal_fits p.threads p.askers p.events.items p.desk e c.self.invariant.stands (rw (← c.self.view_is) at c.requires) in
    pool_kept p _ e c.self.invariant fits tt refl refl refl c.push_reserved.ensures.items
    (c.finish.ensures.desk ∙ ap (λ n. finished_by n c.args.id c.args.outcome p.desk) c.number.ensures) refl
    (λ b h le. omega (arith, h, c.finish.ensures.due))
