use Rattle.std.proofs.Common.{rules}
use Rattle.ak_turn.proofs.Ends.{splits_keep}
use Rattle.ak_turn.proofs.steps.split.Goals as goal

pub split_seat-requires : goal.split_seat-requires
split_seat-requires g c = let h = c.requires.spare in (search rules, search rules, splits_keep _ _ _ _ _ _ h.0 h.1 h.2 h.3 h.4)
