use Rattle.std.proofs.Common.{refl}
use Rattle.ak_meets.proofs.law.cut_off.Goals as goal

pub returns : goal.returns
returns c = (1, record { agree = refl; wants = refl; none_left = refl })
