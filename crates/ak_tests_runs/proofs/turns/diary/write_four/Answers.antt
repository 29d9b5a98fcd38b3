use Rattle.std.proofs.Common.{refl, arith}
use Rattle.std.specs.List.{IsDistinct}
use Rattle.ak_tests_runs.proofs.turns.diary.write_four.Goals as goal

pub make-requires-2-clause-numbers : goal.make-requires-2-clause-numbers
unfolding IsDistinct
make-requires-2-clause-numbers g c κs = (omega arith, omega arith, ((refl, (refl, (refl, tt))), ((refl, (refl, tt)), ((refl, tt), (tt, tt)))))
