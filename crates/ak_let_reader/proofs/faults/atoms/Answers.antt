use Rattle.std.proofs.Common.{◌≡◌, take, ◌∙◌, arith}
use Rattle.std.proofs.lemmas.List.{take_all}
use Rattle.ak_valid.proofs.LeastKinds.{least_by_next}
use Rattle.ak_let_syntax.specs.Faults.{kind_number}
use Rattle.ak_let_reader.specs.NameFaults.{use_faults}
use Rattle.ak_let_reader.proofs.faults.atoms.Goals as goal

pub loop-a-preserved : goal.loop-a-preserved
loop-a-preserved c =
    least_by_next kind_number (use_faults c.args.known.now) c.args.atoms.now c.loop-a.a-index c.a-item.result
    c.loop-a.fault _ c.atom.result (omega arith) c.a-item.is c.loop-a.invariant c.atom.ensures c.lesser-fault.ensures

pub returns : goal.returns
returns c =
    let whole : take c.loop-a.a-index c.args.atoms.now ≡ c.args.atoms.now = take_all c.loop-a.a-index c.args.atoms.now (omega arith) in
    rw whole at c.loop-a.invariant
