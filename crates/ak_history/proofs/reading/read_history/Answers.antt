use Rattle.ak_history.proofs.Readings.{tells_right, tells_history, tells_bad}
use Rattle.ak_history.proofs.reading.read_history.Goals as goal

pub returns-clause-right : goal.returns-clause-right
returns-clause-right c = tells_right c.args.bytes.now c.args.first c.read_lines.result c.read_lines.ensures

pub returns-clause-history : goal.returns-clause-history
returns-clause-history c = λ events lines h. tells_history c.args.bytes.now c.args.first events lines c.read_lines.result c.read_lines.ensures h

pub returns-clause-bad_line : goal.returns-clause-bad_line
returns-clause-bad_line c = λ number h. tells_bad c.args.bytes.now c.args.first number c.read_lines.result c.read_lines.ensures h
