use Rattle.std.proofs.Common.{refl}
use Rattle.ak_meets.proofs.law.closed_too_early.Goals as goal

pub returns : goal.returns
returns c = (1, record { agree = refl; wants = refl; there = refl; of_scheduler = refl; behind = refl; differs = λ same. cc })
