use Rattle.std.proofs.Common.{◌≡◌, take, drop, length, ◌-◌, arith}
use Rattle.std.proofs.lemmas.Grind.{common_steps}
use Rattle.ak_text.proofs.Pieces.{skip_gap}
use Rattle.ak_text.proofs.line.from_word.Goals as goal

pub returns-in-Some-clause-same : goal.returns-in-Some-clause-same
returns-in-Some-clause-same c =
    let whole : take (length c.args.text.now - c.in-Some.start) (drop c.in-Some.start c.args.text.now)
    ≡ drop c.in-Some.start c.args.text.now = grind (arith, common_steps) in
    rw whole ((skip_gap c.args.text.now c.in-Some.start c.in-Some.ensures).0)

pub returns-in-Some-clause-word : goal.returns-in-Some-clause-word
returns-in-Some-clause-word c =
    let whole : take (length c.args.text.now - c.in-Some.start) (drop c.in-Some.start c.args.text.now)
    ≡ drop c.in-Some.start c.args.text.now = grind (arith, common_steps) in
    rw whole ((skip_gap c.args.text.now c.in-Some.start c.in-Some.ensures).1)
