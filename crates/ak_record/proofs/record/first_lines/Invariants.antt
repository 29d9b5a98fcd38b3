use Rattle.std.proofs.Common.{◌≡◌, ◌+◌, List, ℕ, length}
use Rattle.ak_record.specs.Walks.{IsWalked}
use Rattle.ak_record.proofs.record.first_lines.Given as goal

-- the lines before are those that were walked
abbrev pub invariant-loop-left : goal.invariant-loop-left
invariant-loop-left l = record {
  before : List (List ℕ);
  walked : IsWalked l.bytes l.end before;
  counted : length before + l.left ≡ l.count;
}

abbrev pub decreases-loop-left : goal.decreases-loop-left
decreases-loop-left l = l.left
