use Rattle.ak_let_reader.proofs.Worked.{unknown_refused}
use Rattle.ak_let_reader.proofs.rows.unknown_function_is_refused.Goals as goal

pub returns : goal.returns
returns c = unknown_refused
