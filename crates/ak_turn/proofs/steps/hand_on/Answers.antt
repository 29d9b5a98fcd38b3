use Rattle.std.proofs.Common.{rules, refl}
use Rattle.ak_turn.proofs.Keeps.{hands_after}
use Rattle.ak_turn.proofs.steps.hand_on.Goals as goal

pub store-requires : goal.store-requires
store-requires g c = (search rules, search rules, hands_after _ _ _ _ _ _ _ _ _ c.requires.holds.0 c.requires.holds.1 c.requires.value refl)
