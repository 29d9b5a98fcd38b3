use Rattle.std.proofs.Common.{refl}
use Rattle.ak_meets.proofs.law.whole_record.Goals as goal

pub returns : goal.returns
returns c = (3, record { agree = refl; ended = refl })
