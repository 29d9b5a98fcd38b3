use Rattle.std.proofs.Common.{rules}
use Rattle.ak_turn.proofs.Keeps.{draws_keep}
use Rattle.ak_turn.proofs.steps.draw.Goals as goal

pub fetch_add-requires : goal.fetch_add-requires
fetch_add-requires g c = (search rules, search rules, draws_keep _ _ _ _ _ _ _ c.requires.idle.0.0 c.requires.idle.0.1 c.requires.idle.1)
