use Rattle.std.proofs.Common.{take, drop, length, ◌-◌, arith, refl}
use Rattle.std.proofs.lemmas.Grind.{common_steps}
use Rattle.ak_text.proofs.Pieces.{first_word}
use Rattle.ak_text.proofs.line.split_word.Goals as goal

pub returns-in-Some : goal.returns-in-Some
returns-in-Some c =
    let text = c.args.text.now in
    first_word text (take c.in-Some.end text) (take (length text - c.in-Some.end) (drop c.in-Some.end text)) c.in-Some.end c.requires
    c.in-Some.ensures refl (grind (arith, common_steps))
