use Rattle.ak_let_reader.proofs.Worked.{mainless_refused}
use Rattle.ak_let_reader.proofs.rows.text_without_main_is_refused.Goals as goal

pub returns : goal.returns
returns c = mainless_refused
