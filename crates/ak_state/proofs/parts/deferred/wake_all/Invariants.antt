use Rattle.std.proofs.Common.{◌≡◌, [], length, fold}
use Rattle.ak_machine.specs.State.{State}
use Rattle.ak_state.specs.Seen.{enqueued_for, with_jobs}
use Rattle.ak_state.proofs.parts.deferred.wake_all.Given as goal

-- the jobs so far and those of what is woken are those of all
abbrev pub invariant-loop-woken : goal.invariant-loop-woken
invariant-loop-woken l =
    record {
      cells : record l.cells.named { woken = [] } ≡ record l.initial.cells.named { woken = [] };
      jobs : (s : State) → fold enqueued_for (with_jobs l.queues.queues l.trace s) l.cells.named.woken ≡ fold enqueued_for
          (with_jobs l.initial.queues.queues l.initial.trace s) l.initial.cells.named.woken;
    }

abbrev pub decreases-loop-woken : goal.decreases-loop-woken
decreases-loop-woken l = length l.cells.named.woken
