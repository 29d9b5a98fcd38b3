-- A pool: its threads, its askers and its history, and what each call answers by the history. Own; after Async's thread pool.
use Rattle.std.specs.Prelude.{ℕ, ℤ, List, [], ◌∷◌, ◌≡◌, filter, find, map, take, slice_get, Bool, false, not, ◌||◌, ◌&&◌, ◌==◌, Option, Some}
use Rattle.std.specs.Option.{option_map}
use Rattle.std.specs.List.{list_any, flat_map}
use Rattle.ak_base.specs.Lists.{is_empty_list}
use Rattle.ak_labor.specs.declared.work.Outcome.{Outcome}
use Rattle.ak_labor.specs.Arrived.{Arrived}
use Rattle.ak_history.specs.declared.event.Event.{Event}
use Rattle.ak_history.specs.Events.{drained_in, finished, is_among, is_close, is_drain, is_asker_end, owed, work_at, asked, answers, is_answered, is_fetched, unfetched, askers_left}
use Rattle.ak_history.specs.Legal.{Legal, IsLegalAfter, Starts}

-- the numbers of threads and askers, the history, and for how many more calls of `drain`, `helper` and `end_helper` there is room
pub record PoolState : Type 0 where
  pub threads : ℕ
  pub askers : ℕ
  pub history : List Event
  pub spare : ℕ

abbrev pub IsOpen : List Event → Type 0
IsOpen history = list_any is_close history ≡ false

-- the finished works that were not fetched, with their outcomes, in the order in which they were finished
abbrev pub owed_pairs : List Event → List (ℕ × Outcome)
owed_pairs history = filter (λ f. not (is_among (flat_map drained_in history) f.0)) (finished history)

-- the requests that were not fetched, with their numbers, in the order in which they were made
abbrev pub request_pairs : List Event → List (ℕ × ℤ)
request_pairs history = map (λ r. (r.no, r.num)) (filter (λ r. not (is_fetched history r.no)) (asked history))

-- what a drain brings now, where there are so many askers
abbrev pub brought : ℕ → List Event → Arrived
brought askers history =
    record { works = owed_pairs history; requests = request_pairs history; left = askers_left askers history }

-- whether an asker has ended and no drain has come since
abbrev pub has_untold_end : List Event → Bool
has_untold_end [] = false
has_untold_end (e ∷ events) = (is_asker_end e && not (list_any is_drain events)) || has_untold_end events

-- whether a drain has something to tell: a finished work, a request, or the end of an asker
abbrev pub owes : List Event → Bool
owes history = not (is_empty_list (owed history)) || not (is_empty_list (unfetched history)) || has_untold_end history

-- the thread may start the work now
abbrev pub MayStart : ℕ → List Event → ℕ → ℕ → Type 0
MayStart threads history thread id = IsOpen history × Starts threads history thread id (work_at history id)

-- no work can be started on the thread now
abbrev pub StartsNone : ℕ → List Event → ℕ → Type 0
StartsNone threads history thread = (id : ℕ) → MayStart threads history thread id → ⊥

-- the answer to a request
abbrev pub answer_to : List Event → ℕ → Option ℤ
answer_to history q = option_map (λ x. x.1) (find (λ x. x.0 == q) (answers history))

-- the request for whose answer an asker waits
abbrev pub waiting_for : List Event → ℕ → Option ℕ
waiting_for history asker =
    option_map (λ r. r.no) (find (λ r. r.asker == asker && not (is_answered history r.no)) (asked history))

-- the event at this place is the first that is not legal
abbrev pub IsFirstIllegal : ℕ → ℕ → List Event → ℕ → Type 0
IsFirstIllegal threads askers history place =
    Legal threads askers (take place history)
    × ((e : Event) × (slice_get history place ≡ Some e) × (IsLegalAfter threads askers (take place history) e → ⊥))
