use Rattle.ak_let_reader.proofs.Right.{functions_are_within}
use Rattle.ak_let_reader.proofs.law.functions_are_within.Goals as goal

pub returns : goal.returns
returns c = functions_are_within
