use Rattle.std.proofs.Common.{◌≡◌, ◌≤◌, replicate, vec_len}
use Rattle.std.specs.Vec.{vec_capacity}
use Rattle.ak_pool.specs.Askers.{no_asker}
use Rattle.ak_pool.proofs.requests.idle_askers.Given as goal

abbrev pub invariant-loop : goal.invariant-loop
invariant-loop l =
    (l.rows.items ≡ replicate l.counter no_asker) × (vec_len l.rows ≡ l.counter) × (l.askers ≤ vec_capacity l.rows)
