use Rattle.std.proofs.Common.{rules, ap, ◌∙◌}
use Rattle.ak_turn.proofs.Keeps.{looks_keep}
use Rattle.ak_turn.proofs.steps.await_turn.Goals as goal

pub load-served-requires : goal.load-served-requires
load-served-requires g c = let w = c.requires.waits in let same = ap (λ m. m.0) c.loop.invariant.2 in
    (search rules, search rules, looks_keep _ _ _ _ _ _ _ w.0.0 (ap (λ v. v.ticket) same ∙ w.0.1) (ap (λ v. v.has_turn) same ∙ w.1))
