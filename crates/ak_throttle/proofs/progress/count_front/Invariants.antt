use Rattle.std.proofs.Common.{◌≡◌, ◌≤◌, ◌+◌, ◌++◌, replicate}
use Rattle.std.specs.Prelude.{true, not, count_by}
use Rattle.std.specs.VecDeque.{deque_len, deque_capacity}
use Rattle.ak_throttle.proofs.progress.count_front.Given as goal

-- those in front that are over are counted, and no others
abbrev pub invariant-loop-others : goal.invariant-loop-others
invariant-loop-others l = record {
  overs : replicate l.count true ++ l.others.items ≡ replicate l.initial.count true ++ l.initial.others.items;
  running : count_by not l.others.items ≡ count_by not l.initial.others.items;
  len : l.count + deque_len l.others ≡ l.initial.count + deque_len l.initial.others;
  more : l.initial.count ≤ l.count;
  room : deque_capacity l.others ≡ deque_capacity l.initial.others;
}

abbrev pub decreases-loop-others : goal.decreases-loop-others
decreases-loop-others l = deque_len l.others
