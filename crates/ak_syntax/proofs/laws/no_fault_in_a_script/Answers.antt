use Rattle.ak_syntax.proofs.Parsed.{never_both}
use Rattle.ak_syntax.proofs.laws.no_fault_in_a_script.Goals as goal

pub returns : goal.returns
returns c = never_both
