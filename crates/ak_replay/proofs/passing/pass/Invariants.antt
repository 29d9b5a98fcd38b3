use Rattle.std.proofs.Common.{◌-◌, length}
use Rattle.ak_replay.specs.Passing.{IsPassed}
use Rattle.ak_replay.proofs.passing.pass.Given as goal

abbrev pub invariant-loop-event : goal.invariant-loop-event
invariant-loop-event l = IsPassed l.history l.initial.passed l.passed l.initial.due l.due

abbrev pub decreases-loop-event : goal.decreases-loop-event
decreases-loop-event l = length l.history - l.passed
