use Rattle.ak_let_reader.proofs.Worked.{open_refused}
use Rattle.ak_let_reader.proofs.rows.open_function_is_refused.Goals as goal

pub returns : goal.returns
returns c = open_refused
