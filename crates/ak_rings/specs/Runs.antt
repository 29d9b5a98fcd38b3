-- Runs of calls of the queues, and what they push and pick of a priority.
use Rattle.std.specs.Prelude.{List, [], ◌∷◌, ◌++◌, Bool, true, false, not, Option, Some, None, if◌then◌else◌}
use Rattle.ak_base.specs.declared.number.Ctx.{Ctx}
use Rattle.ak_rings.specs.declared.job.Job.{Job}
use Rattle.ak_rings.specs.Queues.{Queues, with_job, pick_of, picked_from, recounted}

-- a call that changes the queues
pub data Call (F : Type 0) : Type 0 where
  Push : (ctx : Ctx) → (frame : F) → Call F
  Pick : Call F
  Reset : Call F

-- the queues after a call
abbrev pub called : {F : Type 0} → Call F → Queues F → Queues F
called (Push ctx frame) q = with_job ctx frame q
called Pick q = picked_from q
called Reset q = recounted q

-- the queues after calls
abbrev pub after : {F : Type 0} → List (Call F) → Queues F → Queues F
after [] q = q
after (call ∷ calls) q = after calls (called call q)

-- the jobs that wait, of the low priority or of the normal one
abbrev pub waiting : {F : Type 0} → (low : Bool) → Queues F → List (Job F)
waiting true q = q.low
waiting false q = q.normal

-- whether a job is of the priority
abbrev pub has_priority : {F : Type 0} → (low : Bool) → Job F → Bool
has_priority true job = job.ctx.low
has_priority false job = not job.ctx.low

-- a job, where it is of the priority
abbrev pub of_priority : {F : Type 0} → (low : Bool) → Job F → List (Job F)
of_priority {F} low job =
    let one : List (Job F) = job ∷ []
    in if has_priority low job then one else []

-- the job that was picked, where it is of the priority
abbrev pub picked_of : {F : Type 0} → (low : Bool) → Option (Job F) → List (Job F)
picked_of low None = []
picked_of low (Some job) = of_priority low job

-- the jobs of a priority that a call pushes
abbrev pub pushed : {F : Type 0} → (low : Bool) → Call F → Queues F → List (Job F)
pushed low (Push ctx frame) q = of_priority low (record { no = q.next; ctx = ctx; frame = frame })
pushed low Pick q = []
pushed low Reset q = []

-- the jobs of a priority that a call picks
abbrev pub picked : {F : Type 0} → (low : Bool) → Call F → Queues F → List (Job F)
picked low (Push ctx frame) q = []
picked low Pick q = picked_of low (pick_of q)
picked low Reset q = []

-- the jobs of a priority that calls push, in order
abbrev pub pushes : {F : Type 0} → (low : Bool) → List (Call F) → Queues F → List (Job F)
pushes low [] q = []
pushes low (call ∷ calls) q = pushed low call q ++ pushes low calls (called call q)

-- the jobs of a priority that calls pick, in order
abbrev pub picks : {F : Type 0} → (low : Bool) → List (Call F) → Queues F → List (Job F)
picks low [] q = []
picks low (call ∷ calls) q = picked low call q ++ picks low calls (called call q)
