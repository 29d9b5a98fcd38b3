-- What threads and askers may do next, by the history alone. Own; after the outline of Async's thread pool and of its `Thread_safe`.
use Rattle.std.specs.Prelude.{ℕ, pos, ◌+◌, ◌*◌, List, ◌++◌, length, find, Bool, not, ◌||◌, ◌&&◌, ◌==◌, nat_lt, Option, Some, None, if◌then◌else◌}
use Rattle.std.specs.Option.{option_map}
use Rattle.std.specs.List.{filter_map}
use Rattle.ak_labor.specs.Value.{value_of}
use Rattle.ak_labor.specs.Waits.{Handed}
use Rattle.ak_history.specs.declared.event.Event.{Event}
use Rattle.ak_history.specs.declared.event.Event.TheVariants as event
use Rattle.ak_history.specs.Events.{handed, begun, asked, work_at, reserved_in, is_begun, is_finished, is_over, is_for, is_general, has_left, is_served, numbers_below}
use Rattle.ak_history_laws.specs.Asked.{requests_of}

-- so many threads, so many askers, and how many requests each asker makes
pub record Crowd : Type 0 where
  pub threads : ℕ
  pub askers : ℕ
  pub each : ℕ

-- the work that a thread has begun and not finished
abbrev pub work_on : List Event → ℕ → Option ℕ
work_on history thread =
    option_map (λ b. b.id) (find (λ b. b.thread == thread && not (is_finished history b.id)) (begun history))

-- the helper that has a thread
abbrev pub helper_on : List Event → ℕ → Option ℕ
helper_on history thread =
    option_map (λ r. r.helper)
    (find (λ r. r.thread == thread && not (is_over history r.helper)) (filter_map reserved_in history))

-- a work for the helper, or a general one where none is named
abbrev pub is_work_of : Option ℕ → Handed → Bool
is_work_of None w = is_general w
is_work_of (Some helper) w = is_for helper w

-- the least such work that is not begun
abbrev pub work_for : List Event → Option ℕ → Option ℕ
work_for history helper =
    option_map (λ w. w.id) (find (λ w. is_work_of helper w && not (is_begun history w.id)) (handed history))

-- a thread ends a work, whose value is the outcome
abbrev pub ends_work : List Event → ℕ → ℕ → Option Event
ends_work history thread id = option_map (λ w. event.Finish thread id (value_of w.work)) (work_at history id)

-- a thread ends the work that it runs; or else it begins the least that waits for its helper, or, where it has none, the least
-- general one
abbrev pub thread_acts : List Event → ℕ → Option ℕ → Option Event
thread_acts history thread (Some id) = ends_work history thread id
thread_acts history thread None =
    option_map (λ id. event.Start thread id) (work_for history (helper_on history thread))

-- what a thread does next
abbrev pub thread_next : List Event → ℕ → Option Event
thread_next history thread = thread_acts history thread (work_on history thread)

-- an asker that has made some of its requests makes the next one, with a thousand times its own number and on by one; or it ends
abbrev pub asker_acts : Crowd → List Event → ℕ → ℕ → Event
asker_acts crowd history asker made =
    if nat_lt made crowd.each then event.Request (length (asked history)) asker (pos (asker * 1000 + made))
    else event.AskerEnd asker

-- what an asker does next, which has not ended and has an answer to each of its requests
abbrev pub asker_next : Crowd → List Event → ℕ → Option Event
asker_next crowd history asker =
    if has_left history asker || not (is_served history asker) then None
    else Some (asker_acts crowd history asker (length (requests_of asker history)))

-- what may happen next: what each thread does, by their numbers, and then what each asker does
abbrev pub may_happen : Crowd → List Event → List Event
may_happen crowd history =
    filter_map (thread_next history) (numbers_below crowd.threads)
    ++ filter_map (asker_next crowd history) (numbers_below crowd.askers)
