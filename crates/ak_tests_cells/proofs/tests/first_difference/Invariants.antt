use Rattle.std.proofs.Common.{◌≡◌, [], length}
use Rattle.ak_tests_cells.proofs.tests.first_difference.Given as goal

-- so many ivars are there, and no handler is woken
abbrev pub invariant-loop : goal.invariant-loop
invariant-loop g l = record {
  drawn : length l.linked.named.cells.ivars ≡ l.fn.ivars;
  unwoken : l.linked.named.woken ≡ [];
}
