use Rattle.std.proofs.Common.{◌≡◌, ◌-◌, ◌+◌, List, ℕ, length}
use Rattle.std.specs.List.{AllByRecursion}
use Rattle.ak_record.specs.Cuts.{IsPool}
use Rattle.ak_record.specs.Walks.{IsWalked}
use Rattle.ak_record.proofs.cut.cut_at_pool.Given as goal

-- the lines before are those that were walked, and none is `%pool`
abbrev pub invariant-loop-start : goal.invariant-loop-start
invariant-loop-start l = record {
  before : List (List ℕ);
  walked : IsWalked l.source l.start before;
  none : AllByRecursion (λ line. IsPool line → ⊥) before;
  number : l.number ≡ length before + 1;
}

abbrev pub decreases-loop-start : goal.decreases-loop-start
decreases-loop-start l = length l.source - l.start
