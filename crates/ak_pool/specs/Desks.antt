-- What a pool keeps beside its history, so that it need not look at the history again. Own.
use Rattle.std.specs.Prelude.{ℕ, ◌+◌, ◌-◌, ◌*◌, List, [], ◌∷◌, ◌++◌, length, sum_by, count_by, slice_index_or, slice_set, replicate, Bool, true, false, ◌==◌, Option, Some, None, is_some, if◌then◌else◌}
use Rattle.std.specs.List.{position}
use Rattle.ak_base.specs.Lists.{first_of, rest_of}
use Rattle.ak_labor.specs.declared.work.Work.{Work}
use Rattle.ak_labor.specs.declared.work.Outcome.{Outcome}
use Rattle.ak_pool.specs.declared.task.Task.{Task}
use Rattle.ak_pool.specs.Threads.{ThreadState, idle_thread, is_idle, runs_general, is_taken, serves, with_own, with_running, with_own_running, without_running, with_end, reserved_for, thread_due}

-- the threads, the general works that wait, the finished works that were not fetched, how many works and helpers were
-- asked for, and whether nothing more is asked
pub record DeskState : Type 0 where
  pub threads : List ThreadState
  pub waiting : List Task
  pub owed : List (ℕ × Outcome)
  pub submits : ℕ
  pub helpers : ℕ
  pub closed : Bool

abbrev pub no_works : ℕ → DeskState
no_works threads =
    record { threads = replicate threads idle_thread; waiting = []; owed = []; submits = 0; helpers = 0; closed = false }

abbrev pub thread_at : DeskState → ℕ → ThreadState
thread_at s t = slice_index_or s.threads t idle_thread

abbrev pub thread_put : ℕ → ThreadState → DeskState → DeskState
thread_put t thread s = record s { threads = slice_set s.threads t thread }

-- the work that is handed in next
abbrev pub next_task : Work → DeskState → Task
next_task work s = record { id = s.submits; work = work }

abbrev pub with_general : Work → DeskState → DeskState
with_general work s = record s { waiting = s.waiting ++ next_task work s ∷ []; submits = s.submits + 1 }

abbrev pub with_helped : Work → ℕ → DeskState → DeskState
with_helped work t s =
    record s { threads = slice_set s.threads t (with_own (next_task work s) (thread_at s t)); submits = s.submits + 1 }

-- the work that a thread may start which runs nothing, by its helper
abbrev pub next_by : Option ℕ → DeskState → ℕ → Option Task
next_by None s t = first_of s.waiting
next_by (Some helper) s t = first_of (thread_at s t).queue

abbrev pub next_of : DeskState → ℕ → Option Task
next_of s t = next_by (thread_at s t).helper s t

abbrev pub general_begun : Task → ℕ → DeskState → DeskState
general_begun task t s =
    record s { threads = slice_set s.threads t (with_running task (thread_at s t)); waiting = rest_of s.waiting }

abbrev pub own_begun : Task → ℕ → DeskState → DeskState
own_begun task t s = thread_put t (with_own_running task (thread_at s t)) s

abbrev pub begun_of : Option ℕ → Task → ℕ → DeskState → DeskState
begun_of None task t s = general_begun task t s
begun_of (Some helper) task t s = own_begun task t s

-- the desk when the thread has begun the work, if there is one
abbrev pub begun_by : Option Task → ℕ → DeskState → DeskState
begun_by None t s = s
begun_by (Some task) t s = begun_of (thread_at s t).helper task t s

abbrev pub finished_by : ℕ → ℕ → Outcome → DeskState → DeskState
finished_by t id outcome s =
    record s { threads = slice_set s.threads t (without_running (thread_at s t)); owed = s.owed ++ (id, outcome) ∷ [] }

abbrev pub fetched : DeskState → DeskState
fetched s = record s { owed = [] }

-- how many threads a further helper may choose from, never below 0
abbrev pub free_of : DeskState → ℕ
free_of s = length s.threads - count_by is_taken s.threads - count_by runs_general s.threads - length s.waiting

abbrev pub answer_of : DeskState → Option ℕ
answer_of s = if free_of s == 0 then None else position is_idle s.threads

abbrev pub answered : Option ℕ → DeskState → DeskState
answered None s = record s { helpers = s.helpers + 1 }
answered (Some t) s =
    record s { threads = slice_set s.threads t (reserved_for s.helpers (thread_at s t)); helpers = s.helpers + 1 }

abbrev pub helper_left : ℕ → DeskState → DeskState
helper_left t s = thread_put t (with_end (thread_at s t)) s

-- the desk when the helper of the thread is ended, if there is one
abbrev pub ended_at : Option ℕ → DeskState → DeskState
ended_at None s = s
ended_at (Some t) s = helper_left t s

abbrev pub submitted_at : Work → Option ℕ → DeskState → DeskState
submitted_at work None s = s
submitted_at work (Some t) s = with_helped work t s

abbrev pub submitted : Work → Option ℕ → DeskState → DeskState
submitted work None s = with_general work s
submitted work (Some helper) s = submitted_at work (position (serves helper) s.threads) s

-- the helper that is named is granted and not ended
abbrev pub is_served : Option ℕ → DeskState → Bool
is_served None s = true
is_served (Some helper) s = is_some (position (serves helper) s.threads)

-- how many events are still to come of the works that were handed in
abbrev pub due_of : DeskState → ℕ
due_of s = 2 * length s.waiting + sum_by thread_due s.threads
