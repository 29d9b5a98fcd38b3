use Rattle.ak_row.proofs.ReadBack.{reads_back, none_skipped}
use Rattle.ak_row.proofs.laws.rows_read_back.Goals as goal

pub returns-clause-rows : goal.returns-clause-rows
returns-clause-rows c = reads_back

pub returns-clause-lines : goal.returns-clause-lines
returns-clause-lines c = none_skipped
