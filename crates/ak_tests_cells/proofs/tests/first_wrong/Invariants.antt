use Rattle.std.proofs.Common.{◌≡◌, [], length}
use Rattle.ak_tests_cells.proofs.tests.first_wrong.Given as goal

-- four ivars are there, and no handler is woken
abbrev pub invariant-loop-call : goal.invariant-loop-call
invariant-loop-call g l = record {
  drawn : length l.cells.named.cells.ivars ≡ 4;
  unwoken : l.cells.named.woken ≡ [];
}
