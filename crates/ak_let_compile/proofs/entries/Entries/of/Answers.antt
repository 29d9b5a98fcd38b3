use Rattle.ak_let_compile.proofs.Places.{finished}
use Rattle.std.proofs.Common.{arith}
use Rattle.ak_let_compile.proofs.entries.Entries.of.Goals as goal

pub returns : goal.returns
returns c =
    finished c.loop-fun.places.items c.loop-fun.behind c.loop-fun.fun-index c.args.funs.now (omega arith) c.loop-fun.invariant.places
    c.loop-fun.invariant.behind
