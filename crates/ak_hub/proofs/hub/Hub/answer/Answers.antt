use Rattle.std.proofs.Common.{ap, ◌∙◌}
use Rattle.ak_hub.proofs.Holds.{open_now, fetched_now, unanswered_now}
use Rattle.ak_hub.proofs.hub.Hub.answer.Goals as goal

pub answer-requires-clause-open : goal.answer-requires-clause-open
answer-requires-clause-open g c =
    let found = ap (λ p. p.history) (c.deref_mut.ensures.value ∙ ap (λ s. s.pool.value) c.value_mut.ensures.value) ∙ c.enter-held.ensures.pool.1 in
    open_now c.args.self.now c.args.pass.now c.enter-held.result.was _ c.enter-held.ensures.hold found c.requires.pass.1 c.requires.open

pub answer-requires-clause-fetched : goal.answer-requires-clause-fetched
answer-requires-clause-fetched g c =
    let found = ap (λ p. p.history) (c.deref_mut.ensures.value ∙ ap (λ s. s.pool.value) c.value_mut.ensures.value) ∙ c.enter-held.ensures.pool.1 in
    fetched_now c.args.self.now c.args.pass.now c.enter-held.result.was _ c.enter-held.ensures.hold found c.args.no c.requires.pass.1 c.requires.fetched

pub answer-requires-clause-unanswered : goal.answer-requires-clause-unanswered
answer-requires-clause-unanswered g c =
    let found = ap (λ p. p.history) (c.deref_mut.ensures.value ∙ ap (λ s. s.pool.value) c.value_mut.ensures.value) ∙ c.enter-held.ensures.pool.1 in
    unanswered_now c.args.self.now c.args.pass.now c.enter-held.result.was _ c.enter-held.ensures.hold found c.args.no c.requires.pass.1 c.requires.unanswered
