use Rattle.std.proofs.Common.{◌≡◌, ◌≤◌, replicate, vec_len}
use Rattle.std.specs.Vec.{vec_capacity}
use Rattle.ak_pool.specs.Threads.{idle_thread}
use Rattle.ak_pool.proofs.desk.idle_threads.Given as goal

abbrev pub invariant-loop : goal.invariant-loop
invariant-loop l =
    (l.rows.items ≡ replicate l.counter idle_thread) × (vec_len l.rows ≡ l.counter) × (l.threads ≤ vec_capacity l.rows)
