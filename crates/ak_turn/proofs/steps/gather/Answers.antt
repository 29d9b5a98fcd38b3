use Rattle.std.proofs.Common.{rules}
use Rattle.ak_turn.proofs.Ends.{joins_keep}
use Rattle.ak_turn.proofs.steps.gather.Goals as goal

pub join_seat-requires : goal.join_seat-requires
join_seat-requires g c = let h = c.requires.idle in (search rules, search rules, search rules, search rules, joins_keep _ _ _ _ _ _ _ _ h.0 h.1.0 h.1.1)
