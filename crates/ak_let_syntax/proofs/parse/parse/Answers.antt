use Rattle.ak_let_syntax.proofs.Parsed.{tells_right, tells_funs, tells_fault}
use Rattle.ak_let_syntax.proofs.parse.parse.Goals as goal

pub returns-clause-right : goal.returns-clause-right
returns-clause-right c = tells_right c.args.bytes.now c.parse_lines.result c.parse_lines.ensures

pub returns-clause-funs : goal.returns-clause-funs
returns-clause-funs c = λ funs reads. tells_funs c.args.bytes.now c.parse_lines.result funs c.parse_lines.ensures reads

pub returns-clause-fault : goal.returns-clause-fault
returns-clause-fault c = λ line kind fault. tells_fault c.args.bytes.now c.parse_lines.result line kind c.parse_lines.ensures fault
