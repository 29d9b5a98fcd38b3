use Rattle.std.proofs.Common.{sym, ◌∙◌, arith}
use Rattle.ak_let_reader.proofs.Firsts.{twice_told}
use Rattle.ak_let_reader.proofs.faults.named_twice.Goals as goal

pub returns-then-stands : goal.returns-then-stands
returns-then-stands c =
    twice_told c.args.params.now c.loop-i.i c.index-params-i.result (omega arith) c.index-params-i.is c.loop-i.invariant
    (sym c.stands.ensures ∙ c.if-stands.true)
