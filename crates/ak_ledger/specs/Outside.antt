-- What a state keeps of the pool and of the askers outside, and when the calls of a run and their replies say the same. Own.
use Rattle.std.specs.Prelude.{ℕ, ◌+◌, ◌<◌, ◌≡◌, List, [], ◌∷◌, ◌++◌, map, filter, length, Bool, true, not, ◌==◌, Option, Some, if◌then◌else◌}
use Rattle.std.specs.List.{AllByRecursion, list_any, filter_map, flat_map}
use Rattle.ak_labor.specs.declared.ask.Ask.{Ask}
use Rattle.ak_labor.specs.declared.ask.Ask.TheVariants as ask
use Rattle.ak_labor.specs.declared.work.Outcome.{Outcome}
use Rattle.ak_labor.specs.Calls.{Reply, Granted, Done}
use Rattle.ak_labor.specs.Waits.{Handed, handed_by, pairs_in, outstanding, helper_in, active_helpers, came, unanswered, answered_by, left_after, IsServedBy, IsAnswerable}
use Rattle.ak_machine.specs.declared.held.HelperState.{HelperState}
use Rattle.ak_machine.specs.declared.held.Outstanding.{Outstanding}
use Rattle.ak_machine.specs.declared.held.Requested.{Requested}
use Rattle.ak_machine.specs.State.{State}
use Rattle.ak_machine.specs.Works.{is_active, with_helper}

-- a work that is out: its number, and its helper
abbrev pub work_kept : Outstanding → ℕ × Option ℕ
work_kept work = (work.number, work.helper)

abbrev pub work_handed : Handed → ℕ × Option ℕ
work_handed handed = (handed.id, handed.helper)

-- a request: its number, and whether it is answered
abbrev pub request_kept : Requested → ℕ × Bool
request_kept request = (request.number, request.answered)

abbrev pub waits_for_answer : ℕ × Bool → Bool
waits_for_answer request = not request.1

-- the works that are out, how many works there were, the helpers, the requests, and how many askers are left
pub record Outside : Type 0 where
  pub works : List (ℕ × Option ℕ)
  pub next_work : ℕ
  pub helpers : List HelperState
  pub requests : List (ℕ × Bool)
  pub left : ℕ

abbrev pub outside_of : State → Outside
outside_of s = record {
  works = map work_kept s.works;
  next_work = s.next_work;
  helpers = s.helpers;
  requests = map request_kept s.requests;
  left = s.left;
}

-- whether a work that is out has the number, or another
abbrev pub has_number : ℕ → ℕ × Option ℕ → Bool
has_number w work = work.0 == w

abbrev pub has_other_number : ℕ → ℕ × Option ℕ → Bool
has_other_number w work = not (work.0 == w)

-- each of these outcomes is of one of these works, and no two are of the same
abbrev pub AreOut : List (ℕ × Option ℕ) → List (ℕ × Outcome) → Type 0
AreOut works [] = Unit {0}
AreOut works (pair ∷ pairs) =
    (list_any (has_number pair.0) works ≡ true) × AreOut (filter (has_other_number pair.0) works) pairs

-- the numbers, from h on, of the helpers that are granted and have not ended
abbrev pub active_from : ℕ → List HelperState → List ℕ
active_from h [] = []
active_from h (helper ∷ helpers) =
    let rest : List ℕ = active_from (h + 1) helpers
    in if is_active helper then h ∷ rest else rest

-- the calls and their replies say the same; the numbers of all works that are out or came are below the next one, and what was
-- answered was requested
pub record IsSaid (askers : ℕ) (asked : List Ask) (replies : List Reply) (outside : Outside) : Type 0 where
  pub works : outside.works ≡ map work_handed (outstanding asked replies)
  pub next_work : outside.next_work ≡ length (filter_map handed_by asked)
  pub below : AllByRecursion (λ work. work.0 < outside.next_work) outside.works
  pub brought : AllByRecursion (λ pair. pair.0 < outside.next_work) (flat_map pairs_in replies)
  pub helpers : length outside.helpers ≡ length (filter_map helper_in asked)
  pub active : active_from 0 outside.helpers ≡ active_helpers asked replies
  pub requests : length outside.requests ≡ length (came replies)
  pub unanswered : map (λ request. request.0) (filter waits_for_answer outside.requests) ≡ map (λ request. request.0) (unanswered asked replies)
  pub answered : AllByRecursion (λ q. q < length outside.requests) (filter_map answered_by asked)
  pub left : outside.left ≡ left_after askers replies

-- a state is in step with these calls and their replies
abbrev pub IsInStep : ℕ → List Ask → List Reply → State → Type 0
IsInStep askers asked replies s = IsSaid askers asked replies (outside_of s)

-- in step with one more call and its reply
abbrev pub IsInStepWith : ℕ → List Ask → List Reply → Ask → Reply → State → Type 0
IsInStepWith askers asked replies a reply s = IsInStep askers (asked ++ a ∷ []) (replies ++ reply ∷ []) s

-- what a job asks behind these calls, where it leaves the state: the pool takes the call, and after the reply the state is in step
abbrev pub IsAskable : ℕ → List Ask → List Reply → Ask → State → Type 0
IsAskable askers asked replies (ask.Submit id work helper) s =
    (id ≡ length (filter_map handed_by asked)) × IsServedBy asked replies helper
    × IsInStepWith askers asked replies (ask.Submit id work helper) Done s
IsAskable askers asked replies (ask.HelperNew h) s =
    (h ≡ length (filter_map helper_in asked))
    × ((granted : Bool) → IsInStepWith askers asked replies (ask.HelperNew h) (Granted granted) (with_helper granted s))
IsAskable askers asked replies (ask.HelperEnd h) s =
    IsServedBy asked replies (Some h) × IsInStepWith askers asked replies (ask.HelperEnd h) Done s
IsAskable askers asked replies (ask.Answer q v) s =
    IsAnswerable asked replies q × IsInStepWith askers asked replies (ask.Answer q v) Done s
IsAskable askers asked replies ask.Drain s = ⊥
IsAskable askers asked replies ask.Close s = ⊥
