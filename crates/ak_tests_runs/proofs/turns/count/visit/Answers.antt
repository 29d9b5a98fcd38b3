use Rattle.std.proofs.Common.{ap, sym, ◌∙◌, append-nil, []}
use Rattle.ak_tests_runs.proofs.turns.count.visit.Goals as goal

pub returns-clause-mine : goal.returns-clause-mine
returns-clause-mine g c =
    ap (λ p. p.mine) (c.leave.ensures.log [] (c.enter-held.ensures.value.1 ∙ sym (append-nil _)))
    ∙ (append-nil _ ∙ ap (λ p. p.mine) c.enter-held.ensures.pass)
