-- That what a pool keeps of its askers and their requests is what the history leaves.
use Rattle.std.specs.Prelude.{ℕ, ℤ, ◌+◌, ◌<◌, ◌≤◌, ◌≡◌, List, length, find, map, count_by, Bool, true, false, ◌==◌, Option}
use Rattle.std.specs.Option.{option_map}
use Rattle.std.specs.List.{filter_map, flat_map}
use Rattle.ak_history.specs.declared.event.Event.{Event}
use Rattle.ak_history.specs.Events.{Asking, asked, fetched_in, answers, left_in, is_among, numbers_below}
use Rattle.ak_pool.specs.Pools.{has_untold_end}
use Rattle.ak_pool.specs.Askers.{RequestsState, AreTied, asker_at, made_at, left_of, asking_of, is_bare, is_waiting}

-- what the rules of requests read of the events before, list by list
pub record RequestFacts : Type 0 where
  pub asked : List Asking
  pub fetched : List ℕ
  pub answers : List (ℕ × ℤ)
  pub left : List ℕ
  pub untold : Bool

abbrev pub request_facts : List Event → RequestFacts
request_facts history =
    record {
      asked = asked history;
      fetched = flat_map fetched_in history;
      answers = answers history;
      left = filter_map left_in history;
      untold = has_untold_end history;
    }

abbrev pub answer_among : List (ℕ × ℤ) → ℕ → Option ℤ
answer_among answers q = option_map (λ x. x.1) (find (λ x. x.0 == q) answers)

pub record AskersStand (askers : ℕ) (f : RequestFacts) (s : RequestsState) : Type 0 where
  pub size : length s.askers ≡ askers
  pub asked : f.asked ≡ map asking_of s.made
  pub numbered : (q : ℕ) → q < length s.made → (made_at s q).no ≡ q
  pub answers : (q : ℕ) → answer_among f.answers q ≡ (made_at s q).answer
  pub fetched : f.fetched ≡ numbers_below s.fetched
  pub few : s.fetched ≤ length s.made
  pub ended : (a : ℕ) → is_among f.left a ≡ (asker_at s a).ended
  pub left : length f.left + left_of s ≡ askers
  pub tied : AreTied s
  pub counted : count_by is_bare s.made ≡ count_by is_waiting s.askers
  pub lasting : (a : ℕ) → is_waiting (asker_at s a) ≡ true → (asker_at s a).ended ≡ false
  pub untold : f.untold ≡ s.untold
