use Rattle.std.proofs.Common.{rules}
use Rattle.ak_turn.proofs.Keeps.{logs_keep}
use Rattle.ak_turn.proofs.steps.write_log.Goals as goal

pub store-requires : goal.store-requires
store-requires g c = let v = c.requires.value in
    (search rules, search rules, logs_keep _ _ _ _ _ _ _ v.0 v.1 _ _ c.requires.turn v.2 v.3 v.4.1 v.4.2 v.5 v.6)
