use Rattle.ak_let_reader.proofs.Short.{read_source_compiles}
use Rattle.ak_let_reader.proofs.law.source_compiles.Goals as goal

pub returns : goal.returns
returns c = read_source_compiles
