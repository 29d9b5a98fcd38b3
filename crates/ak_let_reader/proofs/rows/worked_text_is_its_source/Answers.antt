use Rattle.ak_let_reader.proofs.Worked.{worked_is_source}
use Rattle.ak_let_reader.proofs.rows.worked_text_is_its_source.Goals as goal

pub returns : goal.returns
returns c = worked_is_source
