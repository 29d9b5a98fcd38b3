use Rattle.std.proofs.Common.{◌≡◌, length}
use Rattle.ak_tests_cells.proofs.linked.woken.Given as goal

-- nothing but the woken handlers changes
abbrev pub invariant-loop-woken : goal.invariant-loop-woken
invariant-loop-woken l = l.cells.named.cells ≡ l.initial.cells.named.cells

abbrev pub decreases-loop-woken : goal.decreases-loop-woken
decreases-loop-woken l = length l.cells.named.woken
