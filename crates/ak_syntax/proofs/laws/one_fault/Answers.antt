use Rattle.ak_syntax.proofs.Parsed.{one_fault_at}
use Rattle.ak_syntax.proofs.laws.one_fault.Goals as goal

pub returns : goal.returns
returns c = one_fault_at
