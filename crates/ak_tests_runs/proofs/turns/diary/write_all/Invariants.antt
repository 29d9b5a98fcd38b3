use Rattle.std.proofs.Common.{◌≡◌}
use Rattle.ak_turn.specs.Seen.{IsIdleOf}
use Rattle.ak_tests_runs.proofs.turns.diary.write_all.Given as goal

abbrev pub invariant-loop-place : goal.invariant-loop-place
invariant-loop-place g l = IsIdleOf l.turn l.pass × (l.pass.number ≡ l.by) × (l.pass.spare ≡ l.initial.pass.spare)
