use Rattle.std.proofs.Common.{sym, ◌∙◌}
use Rattle.ak_pool.proofs.AskedRules.{waiting_is}
use Rattle.ak_pool.proofs.pool.Pool.waiting.Goals as goal

pub returns : goal.returns
returns c =
    let p = c.self.inside in
    rw (← c.self.view_is) (c.waiting.ensures ∙ sym (waiting_is p.askers p.events.items p.requests c.args.asker c.self.invariant.asked))
