use Rattle.std.proofs.Common.{rules}
use Rattle.ak_turn.proofs.Ends.{shows_keep}
use Rattle.ak_turn.proofs.steps.show.Goals as goal

pub split_seat-requires : goal.split_seat-requires
split_seat-requires g c = (search rules, search rules, shows_keep _ _ _ _ _ _)
