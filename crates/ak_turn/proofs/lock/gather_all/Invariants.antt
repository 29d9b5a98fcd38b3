use Rattle.std.proofs.Common.{◌≡◌, ◌≤◌, ◌++◌, [], None, false, vec_len}
use Rattle.ak_turn.specs.Entries.{Each}
use Rattle.ak_turn.specs.Rule.{shares}
use Rattle.ak_turn.specs.Seen.{IsIdleOf, idle_passes}
use Rattle.ak_turn.proofs.lock.gather_all.Given as goal

abbrev pub invariant-loop-pass : goal.invariant-loop-pass
invariant-loop-pass g l =
    (l.passes.items ++ idle_passes record { id = l.table.shared.table_id; numbers = l.table.shared.key.items } l.seat.me.0.passes ≡ l.fn.passes.items)
    × (l.seat.table_id ≡ l.table.shared.table_id)
    × (l.seat.me.0.ticket ≡ None)
    × (l.seat.me.0.has_turn ≡ false)
    × (l.seat.me.1 ≡ [])
    × (1 ≤ shares l.seat.me.0)
    × Each (IsIdleOf record { id = l.table.shared.table_id; numbers = l.table.shared.key.items }) l.passes.items

abbrev pub decreases-loop-pass : goal.decreases-loop-pass
decreases-loop-pass g l = vec_len l.passes
