use Rattle.std.proofs.Common.{◌≡◌, ◌≤◌}
use Rattle.std.specs.Prelude.{count_by}
use Rattle.ak_history.specs.Events.{is_submit}
use Rattle.ak_pool.specs.Pools.{IsOpen}
use Rattle.ak_hub.specs.Hubs.{IsPassOf, seen_by}
use Rattle.ak_tests_runs.proofs.works.hand_in_all.Given as goal

abbrev pub invariant-loop-place : goal.invariant-loop-place
invariant-loop-place g l =
    IsPassOf l.hub 0 l.pass
    × (l.pass.spare ≡ l.initial.pass.spare)
    × IsOpen (seen_by l.pass)
    × (count_by is_submit (seen_by l.pass) ≤ l.place)

abbrev pub invariant-loop : goal.invariant-loop
invariant-loop g l =
    IsPassOf l.hub 0 l.pass
    × (l.pass.spare ≡ l.initial.pass.spare)
    × IsOpen (seen_by l.pass)
