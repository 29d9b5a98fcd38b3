-- What one asker asked, and what it was told. Own; after Async's `Thread_safe`.
use Rattle.std.specs.Prelude.{ℕ, ℤ, ◌==◌, List, filter, map, Bool}
use Rattle.std.specs.List.{list_any}
use Rattle.ak_history.specs.declared.event.Event.{Event}
use Rattle.ak_history.specs.Events.{Asking, asked, answers, is_of_asker}

-- the requests of an asker, in order, and the numbers that it asked with
abbrev pub requests_of : ℕ → List Event → List Asking
requests_of asker history = filter (is_of_asker asker) (asked history)

abbrev pub nums_of : ℕ → List Event → List ℤ
nums_of asker history = map (λ r. r.num) (requests_of asker history)

-- an answer to one of these requests
abbrev pub answers_one : List Asking → ℕ × ℤ → Bool
answers_one requests answer = list_any (λ r. answer.0 == r.no) requests

-- the answers to the requests of an asker, in the order in which they were given
abbrev pub told_to : ℕ → List Event → List (ℕ × ℤ)
told_to asker history = filter (answers_one (requests_of asker history)) (answers history)
