use Rattle.std.proofs.Common.{◌≡◌, length}
use Rattle.ak_history.specs.Taking.{longs_of}
use Rattle.ak_history.proofs.Things.{with_front}
use Rattle.ak_history.proofs.form.requests.Given as goal

-- the numbers so far and those of the words that are left are all numbers
abbrev pub invariant-loop-word : goal.invariant-loop-word
invariant-loop-word l = with_front l.requests (longs_of l.row) ≡ longs_of l.fn.row

abbrev pub decreases-loop-word : goal.decreases-loop-word
decreases-loop-word l = length l.row
