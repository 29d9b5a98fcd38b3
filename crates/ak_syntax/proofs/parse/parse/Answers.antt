use Rattle.std.proofs.Common.{◌≤◌, length, arith}
use Rattle.ak_syntax.proofs.Parsed.{tells_right, tells_script, tells_fault}
use Rattle.ak_syntax.proofs.parse.parse.Goals as goal

pub returns-clause-right : goal.returns-clause-right
returns-clause-right c =
    let small : length c.args.bytes.now ≤ 1048576 = omega arith in
    tells_right c.args.bytes.now c.parse_lines.result small c.parse_lines.ensures

pub returns-clause-script : goal.returns-clause-script
returns-clause-script c = λ script h. tells_script c.args.bytes.now c.parse_lines.result script c.parse_lines.ensures h

pub returns-clause-fault : goal.returns-clause-fault
returns-clause-fault c = λ line kind fault.
    let small : length c.args.bytes.now ≤ 1048576 = omega arith in
    tells_fault c.args.bytes.now c.parse_lines.result line kind small c.parse_lines.ensures fault
