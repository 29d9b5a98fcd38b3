use Rattle.std.proofs.Common.{◌≡◌, ◌+◌, ◌-◌, length, take, drop, arith}
use Rattle.std.proofs.lemmas.Grind.{common_steps}
use Rattle.std.specs.Str.Lines.{strip_carriage_return}
use Rattle.ak_text.proofs.Pieces.{first_line_of}
use Rattle.ak_text.proofs.line.first_line.Goals as goal

pub returns-in-Some-clause-lines : goal.returns-in-Some-clause-lines
returns-in-Some-clause-lines c =
    let text = c.args.bytes.now in
    let front : c.without_carriage_return.result.now ≡ strip_carriage_return (take c.in-Some.end text) =
    grind (arith, common_steps, c.without_carriage_return.ensures) in
    first_line_of text c.without_carriage_return.result.now (take (length text - (c.in-Some.end + 1)) (drop (c.in-Some.end + 1) text))
    c.in-Some.end c.in-Some.ensures front (grind (arith, common_steps))
