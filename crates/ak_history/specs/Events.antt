-- What a list of events says: which works were handed in, begun, finished and fetched, which helpers there are, and which
-- requests were made, fetched and answered. After Async's thread pool in outline, with the numbers and the requests own. Each is a filter
-- or a count over the list.
use Rattle.std.specs.Prelude.{ℕ, ℤ, ◌-◌, zero, suc, List, [], ◌∷◌, ◌++◌, length, filter, find, map, count_by, Bool, true, false, not, ◌&&◌, ◌==◌, Option, Some, None, is_none, if◌then◌else◌}
use Rattle.std.specs.Option.{option_map}
use Rattle.std.specs.List.{filter_map, flat_map, list_any, list_all}
use Rattle.ak_labor.specs.declared.work.Outcome.{Outcome}
use Rattle.ak_labor.specs.Waits.{Handed}
use Rattle.ak_history.specs.declared.event.Event.{Event}
use Rattle.ak_history.specs.declared.event.Event.TheVariants as event

-- a thread with the work that it begins
pub record Begun : Type 0 where
  pub thread : ℕ
  pub id : ℕ

-- a helper with the thread that is reserved for it
pub record Reserved : Type 0 where
  pub helper : ℕ
  pub thread : ℕ

-- a request: its number, its asker, and the number that it asks with
pub record Asking : Type 0 where
  pub no : ℕ
  pub asker : ℕ
  pub num : ℤ

abbrev pub handed_in : Event → Option Handed
handed_in (event.Submit id work helper) = Some (record { id = id; work = work; helper = helper })
handed_in e = None

abbrev pub begun_in : Event → Option Begun
begun_in (event.Start thread id) = Some (record { thread = thread; id = id })
begun_in e = None

abbrev pub finished_in : Event → Option (ℕ × Outcome)
finished_in (event.Finish thread id outcome) = Some (id, outcome)
finished_in e = None

abbrev pub drained_in : Event → List ℕ
drained_in (event.Drain ids requests) = ids
drained_in e = []

abbrev pub reserved_at : ℕ → Option ℕ → Option Reserved
reserved_at h None = None
reserved_at h (Some thread) = Some (record { helper = h; thread = thread })

abbrev pub reserved_in : Event → Option Reserved
reserved_in (event.HelperNew h answer) = reserved_at h answer
reserved_in e = None

abbrev pub ended_in : Event → Option ℕ
ended_in (event.HelperEnd h) = Some h
ended_in e = None

abbrev pub asked_in : Event → Option Asking
asked_in (event.Request q asker n) = Some (record { no = q; asker = asker; num = n })
asked_in e = None

abbrev pub fetched_in : Event → List ℕ
fetched_in (event.Drain ids requests) = requests
fetched_in e = []

abbrev pub answered_in : Event → Option (ℕ × ℤ)
answered_in (event.Answered q v) = Some (q, v)
answered_in e = None

abbrev pub left_in : Event → Option ℕ
left_in (event.AskerEnd asker) = Some asker
left_in e = None

abbrev pub is_submit : Event → Bool
is_submit (event.Submit id work helper) = true
is_submit e = false

abbrev pub is_helper_new : Event → Bool
is_helper_new (event.HelperNew h answer) = true
is_helper_new e = false

abbrev pub is_asker_end : Event → Bool
is_asker_end (event.AskerEnd asker) = true
is_asker_end e = false

abbrev pub is_drain : Event → Bool
is_drain (event.Drain ids requests) = true
is_drain e = false

abbrev pub is_close : Event → Bool
is_close event.Close = true
is_close e = false

abbrev pub is_among : List ℕ → ℕ → Bool
is_among ids id = list_any (λ other. other == id) ids

-- the works handed in, the works begun with their threads, the works finished with their outcomes, each in order
abbrev pub handed : List Event → List Handed
handed events = filter_map handed_in events

abbrev pub begun : List Event → List Begun
begun events = filter_map begun_in events

abbrev pub finished : List Event → List (ℕ × Outcome)
finished events = filter_map finished_in events

abbrev pub is_begun : List Event → ℕ → Bool
is_begun events id = list_any (λ b. b.id == id) (begun events)

abbrev pub is_finished : List Event → ℕ → Bool
is_finished events id = list_any (λ f. f.0 == id) (finished events)

-- the works finished and not fetched, in the order in which they were finished
abbrev pub owed : List Event → List ℕ
owed events = filter (λ id. not (is_among (flat_map drained_in events) id)) (map (λ f. f.0) (finished events))

abbrev pub work_at : List Event → ℕ → Option Handed
work_at events id = find (λ w. w.id == id) (handed events)

-- whether a thread has begun a work that it has not finished
abbrev pub is_running : List Event → ℕ → Bool
is_running events thread = list_any (λ b. b.thread == thread && not (is_finished events b.id)) (begun events)

abbrev pub is_granted : List Event → ℕ → Bool
is_granted events helper = list_any (λ r. r.helper == helper) (filter_map reserved_in events)

abbrev pub is_ended : List Event → ℕ → Bool
is_ended events helper = is_among (filter_map ended_in events) helper

-- granted and not ended
abbrev pub is_active : List Event → ℕ → Bool
is_active events helper = is_granted events helper && not (is_ended events helper)

abbrev pub is_that : ℕ → Option ℕ → Bool
is_that helper None = false
is_that helper (Some other) = other == helper

-- a work that was handed in for the helper
abbrev pub is_for : ℕ → Handed → Bool
is_for helper w = is_that helper w.helper

-- a general work may run on any thread that is not reserved
abbrev pub is_general : Handed → Bool
is_general w = is_none w.helper

-- ended, with all its works finished
abbrev pub is_over : List Event → ℕ → Bool
is_over events helper =
    is_ended events helper && list_all (λ w. is_finished events w.id) (filter (is_for helper) (handed events))

-- whether some helper still has the thread: it was granted this one, and has not ended or has works left
abbrev pub is_reserved : List Event → ℕ → Bool
is_reserved events thread =
    list_any (λ r. r.thread == thread && not (is_over events r.helper)) (filter_map reserved_in events)

-- the thread that a helper was granted
abbrev pub thread_of : List Event → ℕ → Option ℕ
thread_of events helper = option_map (λ r. r.thread) (find (λ r. r.helper == helper) (filter_map reserved_in events))

-- the numbers below n, in order
abbrev pub numbers_below : ℕ → List ℕ
numbers_below zero = []
numbers_below (suc n) = numbers_below n ++ n ∷ []

-- how many general works are begun and not finished, and how many are not begun
abbrev pub general_running : List Event → ℕ
general_running events =
    count_by (λ w. is_general w && is_begun events w.id && not (is_finished events w.id)) (handed events)

abbrev pub general_waiting : List Event → ℕ
general_waiting events = count_by (λ w. is_general w && not (is_begun events w.id)) (handed events)

-- how many threads a further helper may choose from, never below 0
abbrev pub free_threads : ℕ → List Event → ℕ
free_threads threads events =
    threads - count_by (is_reserved events) (numbers_below threads) - general_running events - general_waiting events

-- the least thread that is neither running nor reserved
abbrev pub least_idle : ℕ → List Event → Option ℕ
least_idle threads events =
    find (λ t. not (is_running events t) && not (is_reserved events t)) (numbers_below threads)

-- what a further helper is answered: none exactly where no thread is free
abbrev pub helper_answer : ℕ → List Event → Option ℕ
helper_answer threads events = if free_threads threads events == 0 then None else least_idle threads events

-- the requests made, and those answered with their answers, each in order
abbrev pub asked : List Event → List Asking
asked events = filter_map asked_in events

abbrev pub answers : List Event → List (ℕ × ℤ)
answers events = filter_map answered_in events

-- the requests not fetched, in order
abbrev pub unfetched : List Event → List ℕ
unfetched events = filter (λ q. not (is_among (flat_map fetched_in events) q)) (map (λ r. r.no) (asked events))

abbrev pub is_fetched : List Event → ℕ → Bool
is_fetched events q = is_among (flat_map fetched_in events) q

abbrev pub is_answered : List Event → ℕ → Bool
is_answered events q = list_any (λ x. x.0 == q) (answers events)

abbrev pub has_left : List Event → ℕ → Bool
has_left events asker = is_among (filter_map left_in events) asker

-- a request of the asker
abbrev pub is_of_asker : ℕ → Asking → Bool
is_of_asker asker request = request.asker == asker

-- whether every request of an asker is answered
abbrev pub is_served : List Event → ℕ → Bool
is_served events asker = list_all (λ r. is_answered events r.no) (filter (is_of_asker asker) (asked events))

-- how many of so many askers have not ended; each of them ends at most once
abbrev pub askers_left : ℕ → List Event → ℕ
askers_left askers events = askers - length (filter_map left_in events)
