use Rattle.std.proofs.Common.{arith}
use Rattle.std.specs.List.{IsDistinct}
use Rattle.ak_tests_runs.proofs.turns.diary.number_0_writes_a_heading.Goals as goal

pub make-requires-2-clause-numbers : goal.make-requires-2-clause-numbers
unfolding IsDistinct
make-requires-2-clause-numbers g c κs = (omega arith, omega arith, (tt, tt))
