use Rattle.ak_let_text.proofs.Size.{text_is_read}
use Rattle.ak_let_text.proofs.law.text_is_read.Goals as goal

-- src/law.rt:1:1
pub returns : goal.returns
returns c = text_is_read
