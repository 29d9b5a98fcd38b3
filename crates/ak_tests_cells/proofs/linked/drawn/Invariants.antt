use Rattle.std.proofs.Common.{◌≡◌, [], length}
use Rattle.ak_tests_cells.proofs.linked.drawn.Given as goal

-- so many were drawn, and no handler is woken
abbrev pub invariant-loop : goal.invariant-loop
invariant-loop l = record {
  drawn : length l.cells.named.cells.ivars ≡ l.counter;
  unwoken : l.cells.named.woken ≡ [];
}
