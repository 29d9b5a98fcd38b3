use Rattle.ak_syntax.proofs.Parsed.{either}
use Rattle.ak_syntax.proofs.laws.script_or_fault.Goals as goal

pub returns : goal.returns
returns c = either
