-- A throttle: how far each of its bodies came. From Async's documentation of `Throttle`, which runs at most so many jobs at
-- once and starts them in order; the two modes and the order of the steps are own.
use Rattle.std.specs.Prelude.{ℕ, ◌+◌, nat_lt, List, [], ◌∷◌, ◌++◌, map, Bool, true, false, not, Option, Some, None, length, slice_get, slice_set, take, filter, count_by, if◌then◌else◌}
use Rattle.std.specs.List.{list_all}
use Rattle.ak_base.specs.Lists.{first_of, rest_of, without_first}
use Rattle.ak_throttle.specs.declared.stage.Stage.{Stage}
use Rattle.ak_throttle.specs.declared.stage.Stage.TheVariants.{Waiting, Running, Over}
use Rattle.ak_throttle.specs.declared.stage.Mark.{Mark}
use Rattle.ak_throttle.specs.declared.answer.Enqueued.{Enqueued}
use Rattle.ak_throttle.specs.declared.answer.Enqueued.TheVariants.{Start, Waits}
use Rattle.ak_throttle.specs.declared.answer.EnqueueRefused.{EnqueueRefused}
use Rattle.ak_throttle.specs.declared.answer.EnqueueRefused.TheVariants.{Dead, NoMemory}

-- how many bodies run at the most, whether a failure stops it, whether one did, each body in order of its number, the
-- bodies that were dropped and not fetched, front first, and the deferreds that wait for bodies to be over, oldest first
pub record Throttle (B : Type 0) : Type 0 where
  pub most : ℕ
  pub stop : Bool
  pub dead : Bool
  pub bodies : List (Stage B)
  pub dropped : List B
  pub marks : List Mark

-- a throttle without bodies
abbrev pub fresh_throttle : {B : Type 0} → ℕ → Bool → Throttle B
fresh_throttle most stop = record { most = most; stop = stop; dead = false; bodies = []; dropped = []; marks = [] }

-- whether a body runs
abbrev pub is_running : {B : Type 0} → Stage B → Bool
is_running (Waiting body) = false
is_running Running = true
is_running Over = false

-- whether a body ended, failed or was dropped
abbrev pub is_over : {B : Type 0} → Stage B → Bool
is_over (Waiting body) = false
is_over Running = false
is_over Over = true

-- how many bodies run
abbrev pub running_count : {B : Type 0} → Throttle B → ℕ
running_count t = count_by is_running t.bodies

-- whether one more body starts at once: fewer than the most run
abbrev pub has_room : {B : Type 0} → Throttle B → Bool
has_room t = nat_lt (running_count t) t.most

-- one more body, which runs at once or waits last; its number is how many there were
abbrev pub enqueued : {B : Type 0} → B → Throttle B → Throttle B
enqueued body t = record t { bodies = t.bodies ++ (if has_room t then Running else Waiting body) ∷ [] }

-- a body came so far
abbrev pub with_stage : {B : Type 0} → ℕ → Stage B → Throttle B → Throttle B
with_stage n stage t = record t { bodies = slice_set t.bodies n stage }

-- the first body that waits, of those from number k on
abbrev pub front_waiting : {B : Type 0} → ℕ → List (Stage B) → Option (ℕ × B)
front_waiting k [] = None
front_waiting k (Waiting body ∷ stages) = Some (k, body)
front_waiting k (Running ∷ stages) = front_waiting (k + 1) stages
front_waiting k (Over ∷ stages) = front_waiting (k + 1) stages

-- the front body runs, where there is one
abbrev pub started_at : {B : Type 0} → Option (ℕ × B) → Throttle B → Throttle B
started_at None t = t
started_at (Some front) t = with_stage front.0 Running t

-- a running body is over
abbrev pub body_over : {B : Type 0} → ℕ → Throttle B → Throttle B
body_over n t = with_stage n Over t

-- the body that starts when this one ends: the first that waits
abbrev pub started_by_end : {B : Type 0} → ℕ → Throttle B → Option (ℕ × B)
started_by_end n t = front_waiting 0 (body_over n t).bodies

-- a running body ends: it runs no longer, and the first that waits starts
abbrev pub after_end : {B : Type 0} → ℕ → Throttle B → Throttle B
after_end n t = started_at (started_by_end n t) (body_over n t)

-- a body that waits never starts
abbrev pub never_started : {B : Type 0} → Stage B → Stage B
never_started (Waiting body) = Over
never_started Running = Running
never_started Over = Over

-- the bodies that wait, front first
abbrev pub waiting_bodies : {B : Type 0} → List (Stage B) → List B
waiting_bodies [] = []
waiting_bodies (Waiting body ∷ stages) = body ∷ waiting_bodies stages
waiting_bodies (Running ∷ stages) = waiting_bodies stages
waiting_bodies (Over ∷ stages) = waiting_bodies stages

-- the throttle is dead, and the bodies that wait are dropped
abbrev pub killed : {B : Type 0} → Throttle B → Throttle B
killed t =
    record t { dead = true; bodies = map never_started t.bodies; dropped = t.dropped ++ waiting_bodies t.bodies }

-- the body that starts when this one fails: none where that stops the throttle
abbrev pub started_by_failure : {B : Type 0} → ℕ → Throttle B → Option (ℕ × B)
started_by_failure n t = if t.stop then None else started_by_end n t

-- a running body fails: it ends, or stops the throttle
abbrev pub after_failure : {B : Type 0} → ℕ → Throttle B → Throttle B
after_failure n t = if t.stop then killed (body_over n t) else after_end n t

-- every dropped body was fetched
abbrev pub without_dropped : {B : Type 0} → Throttle B → Throttle B
without_dropped t = record t { dropped = [] }

-- the front dropped body is fetched
abbrev pub dropped_taken : {B : Type 0} → Throttle B → Throttle B
dropped_taken t = record t { dropped = rest_of t.dropped }

-- whether every body so far is over
abbrev pub is_done : {B : Type 0} → Throttle B → Bool
is_done t = list_all is_over t.bodies

-- a deferred waits until every body so far is over
abbrev pub with_mark : {B : Type 0} → ℕ → Throttle B → Throttle B
with_mark i t = record t { marks = t.marks ++ record { ivar = i; count = length t.bodies } ∷ [] }

-- whether the bodies before a mark are over
abbrev pub is_satisfied : {B : Type 0} → List (Stage B) → Mark → Bool
is_satisfied bodies mark = list_all is_over (take mark.count bodies)

-- whether one of them is not over
abbrev pub is_unsatisfied : {B : Type 0} → List (Stage B) → Mark → Bool
is_unsatisfied bodies mark = not (is_satisfied bodies mark)

-- the marks before which every body is over, oldest first
abbrev pub satisfied_marks : {B : Type 0} → Throttle B → List Mark
satisfied_marks t = filter (is_satisfied t.bodies) t.marks

-- only the other marks are left
abbrev pub without_satisfied : {B : Type 0} → Throttle B → Throttle B
without_satisfied t = record t { marks = filter (is_unsatisfied t.bodies) t.marks }

-- the oldest satisfied mark, where there is one
abbrev pub next_satisfied : {B : Type 0} → Throttle B → Option Mark
next_satisfied t = first_of (satisfied_marks t)

-- the throttle without the oldest satisfied mark
abbrev pub satisfied_taken : {B : Type 0} → Throttle B → Throttle B
satisfied_taken t = record t { marks = without_first (is_satisfied t.bodies) t.marks }

-- how far a body came, where there is one of that number
abbrev pub stage_in : {B : Type 0} → ℕ → Throttle B → Option (Stage B)
stage_in n t = slice_get t.bodies n

-- what becomes of a body: it starts, or waits, under the next number
abbrev pub placed : {B : Type 0} → B → Throttle B → Enqueued B
placed body t = if has_room t then Start (length t.bodies) body else Waits (length t.bodies)

-- why a body is refused
abbrev pub refusal : {B : Type 0} → B → Throttle B → EnqueueRefused B
refusal body t = if t.dead then Dead body else NoMemory body

-- a deferred waits until every body so far is over, where one is not
abbrev pub awaited : {B : Type 0} → ℕ → Throttle B → Throttle B
awaited i t = if is_done t then t else with_mark i t

-- the deferred of a mark, where there is one
abbrev pub ivar_of : Option Mark → Option ℕ
ivar_of None = None
ivar_of (Some mark) = Some mark.ivar
