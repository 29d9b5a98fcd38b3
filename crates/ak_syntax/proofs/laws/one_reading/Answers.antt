use Rattle.ak_syntax.proofs.Parsed.{one_script}
use Rattle.ak_syntax.proofs.laws.one_reading.Goals as goal

pub returns : goal.returns
returns c = one_script
