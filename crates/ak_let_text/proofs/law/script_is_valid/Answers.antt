use Rattle.ak_let_text.proofs.Validity.{script_is_valid}
use Rattle.ak_let_text.proofs.law.script_is_valid.Goals as goal

-- src/law.rt:1:1
pub returns : goal.returns
returns c = script_is_valid
