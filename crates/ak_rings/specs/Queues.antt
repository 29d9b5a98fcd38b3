-- The jobs that wait, by priority, and which of them is next. From Async's scheduler in outline; the limits of a cycle
-- are own.
use Rattle.std.specs.Prelude.{ℕ, ◌+◌, List, [], ◌∷◌, ◌++◌, Bool, true, false, ◌&&◌, nat_lt, if◌then◌else◌, Option, Some, None}
use Rattle.ak_base.specs.declared.number.Ctx.{Ctx}
use Rattle.ak_base.specs.Lists.{rest_of, is_empty_list}
use Rattle.ak_rings.specs.declared.job.Job.{Job}

-- the jobs that wait, oldest first, how many of each priority ran in this cycle, the limit of both, and the number of the
-- next job
pub record Queues (F : Type 0) : Type 0 where
  pub normal : List (Job F)
  pub low : List (Job F)
  pub normal_ran : ℕ
  pub low_ran : ℕ
  pub limit : ℕ
  pub next : ℕ

-- the queues, and how many jobs each has room for
pub record QueueRooms (F : Type 0) : Type 0 where
  pub queues : Queues F
  pub spare : ℕ

-- nothing waits, and nothing ran
abbrev pub no_jobs : {F : Type 0} → ℕ → Queues F
no_jobs limit = record { normal = []; low = []; normal_ran = 0; low_ran = 0; limit = limit; next = 0 }

-- one more job, last in the queue of its context's priority, under the next number
abbrev pub with_job : {F : Type 0} → Ctx → F → Queues F → Queues F
with_job {F} ctx frame q =
    let job : Job F = record { no = q.next; ctx = ctx; frame = frame }
    in if ctx.low
    then record q { low = q.low ++ job ∷ []; next = q.next + 1 }
    else record q { normal = q.normal ++ job ∷ []; next = q.next + 1 }

-- the front job of a queue of which fewer than the limit ran
abbrev pub first_under : {F : Type 0} → ℕ → ℕ → List (Job F) → Option (Job F)
first_under ran limit [] = None
first_under ran limit (job ∷ jobs) = if nat_lt ran limit then Some job else None

-- the first of two that is there
abbrev pub pick_or : {F : Type 0} → Option (Job F) → Option (Job F) → Option (Job F)
pick_or (Some job) other = Some job
pick_or None other = other

-- the next job: the front normal one, or else the front low one, where fewer of its priority than the limit ran
abbrev pub pick_of : {F : Type 0} → Queues F → Option (Job F)
pick_of q = pick_or (first_under q.normal_ran q.limit q.normal) (first_under q.low_ran q.limit q.low)

-- the queues without the pick, given the front jobs that may run
abbrev pub picked_by : {F : Type 0} → Option (Job F) → Option (Job F) → Queues F → Queues F
picked_by (Some job) other q = record q { normal = rest_of q.normal; normal_ran = q.normal_ran + 1 }
picked_by None (Some job) q = record q { low = rest_of q.low; low_ran = q.low_ran + 1 }
picked_by None None q = q

-- the queues when the next job has left
abbrev pub picked_from : {F : Type 0} → Queues F → Queues F
picked_from q = picked_by (first_under q.normal_ran q.limit q.normal) (first_under q.low_ran q.limit q.low) q

-- whether there is a job
abbrev pub is_some_job : {F : Type 0} → Option (Job F) → Bool
is_some_job None = false
is_some_job (Some job) = true

-- whether a job can be picked
abbrev pub has_pick : {F : Type 0} → Queues F → Bool
has_pick q = is_some_job (pick_of q)

-- a cycle begins: none of its jobs ran
abbrev pub recounted : {F : Type 0} → Queues F → Queues F
recounted q = record q { normal_ran = 0; low_ran = 0 }

-- whether both queues are empty
abbrev pub has_no_job : {F : Type 0} → Queues F → Bool
has_no_job q = is_empty_list q.normal && is_empty_list q.low
