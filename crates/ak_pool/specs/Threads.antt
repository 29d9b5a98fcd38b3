-- One thread of a pool: what it runs, the helper for which it is reserved, and the helper's works that wait. Own.
use Rattle.std.specs.Prelude.{ℕ, ◌+◌, ◌*◌, List, [], ◌∷◌, ◌++◌, length, Bool, true, false, not, ◌&&◌, Option, Some, None, is_some, is_none, if◌then◌else◌}
use Rattle.ak_base.specs.Lists.{rest_of, is_empty_list}
use Rattle.ak_history.specs.Events.{is_that}
use Rattle.ak_pool.specs.declared.task.Task.{Task}

-- what a thread runs, the helper for which it is reserved, whether that helper is ended, and its works that wait
pub record ThreadState : Type 0 where
  pub running : Option Task
  pub helper : Option ℕ
  pub ended : Bool
  pub queue : List Task

abbrev pub idle_thread : ThreadState
idle_thread = record { running = None; helper = None; ended = false; queue = [] }

abbrev pub is_idle : ThreadState → Bool
is_idle t = is_none t.running && is_none t.helper

-- a thread that is not reserved runs general works alone
abbrev pub runs_general : ThreadState → Bool
runs_general t = is_some t.running && is_none t.helper

abbrev pub is_taken : ThreadState → Bool
is_taken t = is_some t.helper

-- the thread is the helper's, which is not ended
abbrev pub serves : ℕ → ThreadState → Bool
serves helper t = is_that helper t.helper && not t.ended

-- the helper is ended, and nothing of it is left to do
abbrev pub is_left : ThreadState → Bool
is_left t = t.ended && is_none t.running && is_empty_list t.queue

-- a thread whose helper is over is given back
abbrev pub vacated : ThreadState → ThreadState
vacated t = if is_left t then record t { helper = None; ended = false } else t

abbrev pub with_own : Task → ThreadState → ThreadState
with_own task t = record t { queue = t.queue ++ task ∷ [] }

abbrev pub with_running : Task → ThreadState → ThreadState
with_running task t = record t { running = Some task }

abbrev pub with_own_running : Task → ThreadState → ThreadState
with_own_running task t = record t { running = Some task; queue = rest_of t.queue }

-- the thread after it was to begin its helper's next work
abbrev pub run_own_by : Option Task → ThreadState → ThreadState
run_own_by None t = t
run_own_by (Some task) t = with_own_running task t

abbrev pub without_running : ThreadState → ThreadState
without_running t = vacated (record t { running = None })

abbrev pub with_end : ThreadState → ThreadState
with_end t = vacated (record t { ended = true })

abbrev pub reserved_for : ℕ → ThreadState → ThreadState
reserved_for helper t = record t { helper = Some helper }

-- how many events are still to come of the works that the thread has
abbrev pub thread_due : ThreadState → ℕ
thread_due t = 2 * length t.queue + (if is_some t.running then 1 else 0)
