-- Whether an event is legal next, and what is left after it, by what a pool keeps beside its history. Own.
use Rattle.std.specs.Prelude.{ℕ, List, ◌<◌, ◌≡◌, map, Bool, true, false, MatchBool, Option, Some, None, is_some, length}
use Rattle.std.specs.Option.{option_map}
use Rattle.std.specs.List.{position}
use Rattle.ak_labor.specs.declared.work.Outcome.{Outcome}
use Rattle.ak_history.specs.declared.event.Event.{Event}
use Rattle.ak_history.specs.declared.event.Event.TheVariants as event
use Rattle.ak_labor.specs.Value.{value_of}
use Rattle.ak_pool.specs.declared.task.Task.{Task}
use Rattle.ak_pool.specs.Threads.{serves}
use Rattle.ak_pool.specs.Askers.{RequestsState, with_request, with_answer, with_end, all_fetched, unfetched_of, IsFree, IsUnanswered}
use Rattle.ak_pool.specs.Desks.{DeskState, thread_at, submitted, is_served, next_of, begun_by, finished_by, fetched, answer_of, answered, ended_at}

-- the answer is whether it is so
abbrev pub Says : Bool → Type 0 → Type 0
Says answer P = MatchBool answer P (P → ⊥)

-- the requests after an event that is legal
abbrev pub requests_noted : Event → RequestsState → RequestsState
requests_noted (event.Request q asker n) s = with_request asker n s
requests_noted (event.AskerEnd asker) s = with_end asker s
requests_noted (event.Drain ids requests) s = all_fetched s
requests_noted (event.Answered q v) s = with_answer q v s
requests_noted e s = s

-- the desk after an event that is legal
abbrev pub noted : Event → DeskState → DeskState
noted (event.Submit id work helper) s = submitted work helper s
noted (event.Start thread id) s = begun_by (next_of s thread) thread s
noted (event.Finish thread id outcome) s = finished_by thread id outcome s
noted (event.Request q asker n) s = s
noted (event.AskerEnd asker) s = s
noted (event.Drain ids requests) s = fetched s
noted (event.Answered q v) s = s
noted (event.HelperNew h answer) s = answered answer s
noted (event.HelperEnd h) s = ended_at (position (serves h) s.threads) s
noted event.Close s = record s { closed = true }

-- the thread runs the work, and the outcome is its value
abbrev pub Ends : ℕ → Outcome → Option Task → Type 0
Ends id outcome None = ⊥
Ends id outcome (Some task) = (task.id ≡ id) × (outcome ≡ value_of task.work)

-- a work may be handed in next under the number, for the helper if one is named
abbrev pub FitsSubmit : DeskState → ℕ → Option ℕ → Type 0
FitsSubmit s id helper = (s.closed ≡ false) × (id ≡ s.submits) × (is_served helper s ≡ true)

-- the thread may begin the work next
abbrev pub FitsStart : DeskState → ℕ → ℕ → Type 0
FitsStart s thread id =
    (s.closed ≡ false)
    × (thread < length s.threads)
    × ((thread_at s thread).running ≡ None)
    × (option_map (λ (task : Task). task.id) (next_of s thread) ≡ Some id)

abbrev pub FitsFinish : DeskState → ℕ → ℕ → Outcome → Type 0
FitsFinish s thread id outcome = (thread < length s.threads) × Ends id outcome (thread_at s thread).running

-- these are the finished works that were not fetched
abbrev pub FitsDrain : DeskState → List ℕ → Type 0
FitsDrain s ids = (s.closed ≡ false) × (ids ≡ map (λ pair. pair.0) s.owed)

-- a helper may be asked for next under the number, with the answer
abbrev pub FitsHelper : DeskState → ℕ → Option ℕ → Type 0
FitsHelper s h answer = (s.closed ≡ false) × (h ≡ s.helpers) × (answer ≡ answer_of s)

-- the helper may be ended next
abbrev pub FitsEnd : DeskState → ℕ → Type 0
FitsEnd s h = (s.closed ≡ false) × (is_some (position (serves h) s.threads) ≡ true)

-- the event is legal next, by the requests
abbrev pub FitsRequests : RequestsState → Event → Type 0
FitsRequests s (event.Request q asker n) = (q ≡ length s.made) × IsFree s asker
FitsRequests s (event.AskerEnd asker) = IsFree s asker
FitsRequests s (event.Drain ids requests) = requests ≡ map (λ r. r.no) (unfetched_of s)
FitsRequests s (event.Answered q v) = IsUnanswered s q
FitsRequests s e = Unit {0}

-- the event is legal next, by the desk
abbrev pub Fits : DeskState → Event → Type 0
Fits s (event.Submit id work helper) = FitsSubmit s id helper
Fits s (event.Start thread id) = FitsStart s thread id
Fits s (event.Finish thread id outcome) = FitsFinish s thread id outcome
Fits s (event.Request q asker n) = s.closed ≡ false
Fits s (event.AskerEnd asker) = s.closed ≡ false
Fits s (event.Drain ids requests) = FitsDrain s ids
Fits s (event.Answered q v) = s.closed ≡ false
Fits s (event.HelperNew h answer) = FitsHelper s h answer
Fits s (event.HelperEnd h) = FitsEnd s h
Fits s event.Close = s.closed ≡ false
