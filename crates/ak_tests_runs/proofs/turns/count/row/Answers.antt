use Rattle.std.proofs.Common.{refl, arith}
use Rattle.std.specs.List.{IsDistinct}
use Rattle.ak_tests_runs.proofs.turns.count.row.Goals as goal

pub make-requires-clause-numbers : goal.make-requires-clause-numbers
unfolding IsDistinct
make-requires-clause-numbers g c κs = (omega arith, omega arith, ((refl, tt), (tt, tt)))
