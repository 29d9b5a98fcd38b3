-- When the outside is quiet: no further request can come. Own; after Async's `Thread_safe`.
use Rattle.std.specs.Prelude.{ℕ, ◌≡◌, ◌==◌, true, false, List, [], ◌∷◌, ◌++◌, count_by, length}
use Rattle.std.specs.List.{flat_map}
use Rattle.ak_labor.specs.declared.ask.Ask.{Ask}
use Rattle.ak_labor.specs.Calls.{Reply}
use Rattle.ak_labor.specs.Waits.{unanswered, left_after}
use Rattle.ak_history.specs.declared.event.Event.{Event}
use Rattle.ak_history.specs.Events.{Asking, asked, fetched_in, is_fetched, is_answered}
use Rattle.ak_history_laws.specs.Asked.{requests_of}

-- as many requests have no answer as askers are left, by the calls and their replies
abbrev pub IsQuiet : ℕ → List Ask → List Reply → Type 0
IsQuiet askers asked replies = length (unanswered asked replies) ≡ left_after askers replies

-- the asker's last request was fetched, and has no answer
pub record WaitsForLast (history : List Event) (asker : ℕ) : Type 0 where
  pub before : List Asking
  pub last : Asking
  pub requests : requests_of asker history ≡ before ++ last ∷ []
  pub fetched : is_fetched history last.no ≡ true
  pub unanswered : is_answered history last.no ≡ false

-- how often a request was fetched
abbrev pub fetches_of : List Event → ℕ → ℕ
fetches_of history q = count_by (λ n. n == q) (flat_map fetched_in history)

abbrev pub FetchedOnce : List Event → Asking → Type 0
FetchedOnce history request = fetches_of history request.no ≡ 1
