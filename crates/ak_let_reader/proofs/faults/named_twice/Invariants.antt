use Rattle.ak_let_reader.proofs.Firsts.{OnceSo}
use Rattle.ak_let_reader.proofs.faults.named_twice.Given as goal

abbrev pub invariant-loop-i : goal.invariant-loop-i
invariant-loop-i l = OnceSo l.params l.i
