-- Histories with one more call that asks for room. Own.
use Rattle.std.specs.Prelude.{ℕ, Bool, List, [], ◌∷◌, ◌++◌, count_by, is_some}
use Rattle.ak_history.specs.declared.event.Event.{Event}
use Rattle.ak_history.specs.declared.event.Event.TheVariants as event
use Rattle.ak_history.specs.Events.{is_helper_new, helper_answer, owed, unfetched}

-- with a drain of what is owed and of the requests that were not fetched
abbrev pub with_drain : List Event → List Event
with_drain history = history ++ event.Drain (owed history) (unfetched history) ∷ []

-- with the next helper, and its answer
abbrev pub with_helper : ℕ → List Event → List Event
with_helper threads history =
    history ++ event.HelperNew (count_by is_helper_new history) (helper_answer threads history) ∷ []

-- whether the next helper gets a thread
abbrev pub gets_helper : ℕ → List Event → Bool
gets_helper threads history = is_some (helper_answer threads history)
