use Rattle.ak_let_reader.proofs.Worked.{wide_refused}
use Rattle.ak_let_reader.proofs.rows.wide_number_is_refused.Goals as goal

pub returns : goal.returns
returns c = wide_refused
