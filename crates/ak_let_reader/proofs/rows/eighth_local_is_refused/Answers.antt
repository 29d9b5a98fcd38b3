use Rattle.ak_let_reader.proofs.Worked.{many_refused}
use Rattle.ak_let_reader.proofs.rows.eighth_local_is_refused.Goals as goal

pub returns : goal.returns
returns c = many_refused
