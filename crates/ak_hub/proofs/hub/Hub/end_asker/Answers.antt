use Rattle.std.proofs.Common.{ap, ◌∙◌}
use Rattle.ak_hub.proofs.Holds.{ends_asker}
use Rattle.ak_hub.proofs.hub.Hub.end_asker.Goals as goal

pub returns-clause-ended : goal.returns-clause-ended
returns-clause-ended g c =
    let found = ap (λ p. p.history) (c.deref_mut.ensures.value ∙ ap (λ s. s.pool.value) c.value_mut.ensures.value) ∙ c.enter-held.ensures.pool.1 in
    ends_asker c.args.self.now c.args.pass.now c.enter-held.new.pass c.leave.new.pass c.enter-held.result.was c.args.asker c.end_asker-ended.result _ _
    c.enter-held.ensures.hold c.enter-held.ensures.pass found c.end_asker-ended.ensures.ends c.end_asker-ended.ensures.cannot
    c.end_asker-ended.ensures.stays c.leave.ensures.log c.leave.ensures.seen c.leave.ensures.legal
