-- Runs of calls of a throttle, and the bodies that they start.
use Rattle.std.specs.Prelude.{ℕ, ◌≡◌, ◌+◌, zero, suc, List, [], ◌∷◌, ◌++◌, length, Option, Some, None, if◌then◌else◌}
use Rattle.ak_throttle.specs.declared.stage.Stage.TheVariants.{Running}
use Rattle.ak_throttle.specs.Throttle.{Throttle, stage_in, has_room, enqueued, started_by_end, after_end, started_by_failure, after_failure, dropped_taken, awaited, satisfied_taken}

-- a call that changes a throttle
pub data Call (B : Type 0) : Type 0 where
  Enqueue : (body : B) → Call B
  Ended : (n : ℕ) → Call B
  Failed : (n : ℕ) → Call B
  NextDropped : Call B
  DoneWhen : (i : ℕ) → Call B
  NextDone : Call B

-- a body that ends or fails runs
abbrev pub IsAllowed : {B : Type 0} → Call B → Throttle B → Type 0
IsAllowed (Enqueue body) t = Unit
IsAllowed (Ended n) t = stage_in n t ≡ Some Running
IsAllowed (Failed n) t = stage_in n t ≡ Some Running
IsAllowed NextDropped t = Unit
IsAllowed (DoneWhen i) t = Unit
IsAllowed NextDone t = Unit

-- the throttle after a call: where it is dead, no body is taken
abbrev pub called : {B : Type 0} → Call B → Throttle B → Throttle B
called (Enqueue body) t = if t.dead then t else enqueued body t
called (Ended n) t = after_end n t
called (Failed n) t = after_failure n t
called NextDropped t = dropped_taken t
called (DoneWhen i) t = awaited i t
called NextDone t = satisfied_taken t

-- each call is allowed where it is made
abbrev pub AreAllowed : {B : Type 0} → List (Call B) → Throttle B → Type 0
AreAllowed [] t = Unit
AreAllowed (call ∷ calls) t = IsAllowed call t × AreAllowed calls (called call t)

-- the throttle after calls
abbrev pub after : {B : Type 0} → List (Call B) → Throttle B → Throttle B
after [] t = t
after (call ∷ calls) t = after calls (called call t)

-- the number of a body that starts, where one does
abbrev pub number_of : {B : Type 0} → Option (ℕ × B) → List ℕ
number_of None = []
number_of (Some front) = front.0 ∷ []

-- the numbers of the bodies that a call starts
abbrev pub starts : {B : Type 0} → Call B → Throttle B → List ℕ
starts (Enqueue body) t = if t.dead then [] else if has_room t then length t.bodies ∷ [] else []
starts (Ended n) t = number_of (started_by_end n t)
starts (Failed n) t = number_of (started_by_failure n t)
starts NextDropped t = []
starts (DoneWhen i) t = []
starts NextDone t = []

-- the numbers of the bodies that calls start, in order
abbrev pub all_starts : {B : Type 0} → List (Call B) → Throttle B → List ℕ
all_starts [] t = []
all_starts (call ∷ calls) t = starts call t ++ all_starts calls (called call t)

-- so many numbers from one on
abbrev pub numbers_from : ℕ → ℕ → List ℕ
numbers_from n zero = []
numbers_from n (suc count) = n ∷ numbers_from (n + 1) count
