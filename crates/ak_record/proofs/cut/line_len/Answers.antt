use Rattle.ak_record.proofs.Lines.{found, not_found}
use Rattle.ak_record.proofs.cut.line_len.Goals as goal

pub returns-in-Some : goal.returns-in-Some
returns-in-Some c = found c.args.bytes.now c.in-Some.end c.in-Some.ensures

pub returns-in-None : goal.returns-in-None
returns-in-None c = not_found c.args.bytes.now c.requires c.in-None.ensures
