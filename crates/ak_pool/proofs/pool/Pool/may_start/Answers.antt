use Rattle.std.proofs.Common.{◌≡◌, ◌<◌, Some, None, ap, sym, ◌∙◌}
use Rattle.ak_pool.specs.Desks.{next_of}
use Rattle.ak_pool.proofs.Pools.{idle_of, may_given, task_id}
use Rattle.ak_pool.proofs.pool.Pool.may_start.Goals as goal

pub returns-in-None : goal.returns-in-None
returns-in-None c =
    let p = c.self.inside in
    let t = c.args.thread in
    let lt : t < p.threads = rw (← c.self.view_is) at c.requires.exists in
    let idle = idle_of p.threads p.events.items p.desk t c.self.invariant.stands lt (rw (← c.self.view_is) at c.requires.idle) in
    let next : next_of p.desk t ≡ None = ap (next_of p.desk) (sym c.number.ensures) ∙ sym c.next.ensures ∙ c.in-None.is in
    rw (← c.self.view_is)
    (may_given p.threads p.events.items p.desk t None c.self.invariant.stands (sym c.is_closed.ensures ∙ c.if-is_closed.false) lt idle (ap task_id next))

pub returns-in-Some : goal.returns-in-Some
returns-in-Some c =
    let p = c.self.inside in
    let t = c.args.thread in
    let lt : t < p.threads = rw (← c.self.view_is) at c.requires.exists in
    let idle = idle_of p.threads p.events.items p.desk t c.self.invariant.stands lt (rw (← c.self.view_is) at c.requires.idle) in
    let next : next_of p.desk t ≡ Some c.in-Some.task = ap (next_of p.desk) (sym c.number.ensures) ∙ sym c.next.ensures ∙ c.in-Some.is in
    rw (← c.self.view_is)
    (may_given p.threads p.events.items p.desk t (Some c.in-Some.task.id) c.self.invariant.stands
    (sym c.is_closed.ensures ∙ c.if-is_closed.false) lt idle (ap task_id next))
