use Rattle.std.proofs.Common.{◌≡◌, ◌<◌, cond, Some, None, ap, sym, ◌∙◌, refl, arith}
use Rattle.std.specs.Prelude.{is_some}
use Rattle.ak_history.specs.declared.event.Event.TheVariants as event
use Rattle.ak_pool.specs.Desks.{next_of, begun_by}
use Rattle.ak_pool.proofs.Pools.{idle_of, none_starts, start_fits, may_fit, next_work, pool_kept, some_bit}
use Rattle.ak_pool.proofs.pool.Pool.take.Goals as goal

pub begin-requires-clause-idle : goal.begin-requires-clause-idle
begin-requires-clause-idle c =
    let p = c.self.inside in
    rw c.number.ensures (idle_of p.threads p.events.items p.desk c.args.thread c.self.invariant.stands
    (rw (← c.self.view_is) at c.requires.exists) (rw (← c.self.view_is) at c.requires.idle))

pub invariant_of-self-in-Some : goal.invariant_of-self-in-Some
invariant_of-self-in-Some c =
    let p = c.self.inside in
    let t = c.args.thread in
    let lt : t < p.threads = rw (← c.self.view_is) at c.requires.exists in
    let idle = idle_of p.threads p.events.items p.desk t c.self.invariant.stands lt (rw (← c.self.view_is) at c.requires.idle) in
    let next : next_of p.desk t ≡ Some c.in-Some.task =
    ap (next_of p.desk) (sym c.number.ensures) ∙ sym c.begin.ensures.task ∙ c.in-Some.is in
    let bit : cond (is_some c.begin.result) 1 0 ≡ 1 = ap some_bit c.in-Some.is in
    pool_kept p _ (event.Start t c.in-Some.task.id) c.self.invariant
    (start_fits p.desk t c.in-Some.task (sym c.is_closed.ensures ∙ c.if-is_closed.false) (omega (arith, lt, c.self.invariant.stands.size)) idle next)
    tt refl refl refl c.push_reserved.ensures.items (c.begin.ensures.desk ∙ ap (λ n. begun_by (next_of p.desk n) n p.desk) c.number.ensures) refl
    (λ b h le. omega (arith, h, bit, c.begin.ensures.due))

pub returns-in-None-clause-taken : goal.returns-in-None-clause-taken
returns-in-None-clause-taken c =
    let p = c.self.inside in
    let next : next_of p.desk c.args.thread ≡ None =
    ap (next_of p.desk) (sym c.number.ensures) ∙ sym c.begin.ensures.task ∙ c.in-None.is in
    rw (← c.self.view_is) (
      sym c.self.invariant.stands.closed ∙ sym c.is_closed.ensures ∙ c.if-is_closed.false,
      none_starts p.threads p.events.items p.desk c.args.thread c.self.invariant.stands next,
      refl,
    )

pub returns-in-Some-clause-taken : goal.returns-in-Some-clause-taken
returns-in-Some-clause-taken c =
    let p = c.self.inside in
    let t = c.args.thread in
    let lt : t < p.threads = rw (← c.self.view_is) at c.requires.exists in
    let idle = idle_of p.threads p.events.items p.desk t c.self.invariant.stands lt (rw (← c.self.view_is) at c.requires.idle) in
    let next : next_of p.desk t ≡ Some c.in-Some.task =
    ap (next_of p.desk) (sym c.number.ensures) ∙ sym c.begin.ensures.task ∙ c.in-Some.is in
    rw (← c.self.view_is) (
      may_fit p.threads p.events.items p.desk t c.in-Some.task.id c.self.invariant.stands
          (start_fits p.desk t c.in-Some.task (sym c.is_closed.ensures ∙ c.if-is_closed.false)
          (omega (arith, lt, c.self.invariant.stands.size)) idle next),
      next_work p.threads p.events.items p.desk t c.in-Some.task c.self.invariant.stands lt next,
      c.push_reserved.ensures.items,
    )
