use Rattle.ak_again.proofs.Cutting.{cut_behind}
use Rattle.ak_again.proofs.law.is_cut_behind_the_script.Goals as goal

pub returns : goal.returns
returns c = cut_behind
