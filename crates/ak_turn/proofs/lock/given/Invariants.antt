use Rattle.std.proofs.Common.{◌≡◌, sum_by, min, take}
use Rattle.ak_turn.specs.Seen.{number_count}
use Rattle.ak_turn.proofs.lock.given.Given as goal

abbrev pub invariant-loop-pass : goal.invariant-loop-pass
invariant-loop-pass g l = l.sum ≡ min (sum_by number_count (take l.pass-index l.passes)) 4294967295
