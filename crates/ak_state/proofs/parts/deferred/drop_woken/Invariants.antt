use Rattle.std.proofs.Common.{◌≡◌, [], length}
use Rattle.ak_state.proofs.parts.deferred.drop_woken.Given as goal

-- nothing but the woken handlers changes
abbrev pub invariant-loop-woken : goal.invariant-loop-woken
invariant-loop-woken l = record l.cells.named { woken = [] } ≡ record l.initial.cells.named { woken = [] }

abbrev pub decreases-loop-woken : goal.decreases-loop-woken
decreases-loop-woken l = length l.cells.named.woken
