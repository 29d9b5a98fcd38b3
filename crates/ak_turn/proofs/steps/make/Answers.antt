use Rattle.std.proofs.Common.{arith}
use Rattle.ak_turn.proofs.Ends.{opens}
use Rattle.ak_turn.proofs.steps.make.Goals as goal

pub new-requires : goal.new-requires
new-requires g c = rw (c.in-Ok.ensures.items, c.in_default-push.ensures.items, c.in-Ok-with_capacity.ensures.items)
    (opens _ _ _ _ c.args.value c.requires.value.0 c.requires.value.1 c.requires.numbers.0
    (omega (arith, c.requires.numbers.1)) c.requires.numbers.2)
