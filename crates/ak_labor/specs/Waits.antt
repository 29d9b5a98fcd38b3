-- Which works are out and which requests wait, by the calls and the replies alone, and when a wait makes sense. Own.
use Rattle.std.specs.Prelude.{ℕ, ℤ, ◌<◌, ◌≤◌, List, [], ◌∷◌, ◌++◌, ◌≡◌, ◌≢◌, length, map, drop, filter, fold, Bool, true, false, not, ◌==◌, Option, Some, None, is_some, ◌⊎◌, Contains}
use Rattle.std.specs.List.{list_any, filter_map, flat_map, zip, range_with_len}
use Rattle.ak_labor.specs.declared.work.Work.{Work}
use Rattle.ak_labor.specs.declared.work.Outcome.{Outcome}
use Rattle.ak_labor.specs.declared.ask.Ask.{Ask}
use Rattle.ak_labor.specs.declared.ask.Ask.TheVariants as ask
use Rattle.ak_labor.specs.Arrived.{Arrived}
use Rattle.ak_labor.specs.Calls.{Reply, Drained, Granted, Done}
use Rattle.ak_labor.specs.Value.{value_of}

-- a work that was handed in, under its number, perhaps for a helper
pub record Handed : Type 0 where
  pub id : ℕ
  pub work : Work
  pub helper : Option ℕ

abbrev pub handed_by : Ask → Option Handed
handed_by (ask.Submit id work helper) = Some (record { id = id; work = work; helper = helper })
handed_by ask.Drain = None
handed_by (ask.HelperNew h) = None
handed_by (ask.HelperEnd h) = None
handed_by (ask.Answer q v) = None
handed_by ask.Close = None

abbrev pub pairs_in : Reply → List (ℕ × Outcome)
pairs_in (Drained arrived) = arrived.works
pairs_in (Granted granted) = []
pairs_in Done = []

abbrev pub is_pair_of : ℕ → ℕ × Outcome → Bool
is_pair_of id pair = pair.0 == id

-- whether no reply has brought the work
abbrev pub is_out : List Reply → Handed → Bool
is_out replies handed = not (list_any (is_pair_of handed.id) (flat_map pairs_in replies))

-- the works that were handed in and that no reply has brought
abbrev pub outstanding : List Ask → List Reply → List Handed
outstanding asked replies = filter (is_out replies) (filter_map handed_by asked)

abbrev pub is_other : ℕ → Handed → Bool
is_other id handed = not (handed.id == id)

-- each pair is one of these works with its value, and no work stands in two pairs
abbrev pub Arrive : List Handed → List (ℕ × Outcome) → Type 0
Arrive works [] = Unit {0}
Arrive works (pair ∷ pairs) =
    ((work : Work) × (helper : Option ℕ) × Contains works (record { id = pair.0; work = work; helper = helper }) × (pair.1 ≡ value_of work))
    × Arrive (filter (is_other pair.0) works) pairs

abbrev pub is_other_helper : ℕ → ℕ → Bool
is_other_helper ended helper = not (helper == ended)

-- the helpers that are granted and not ended, after one more call with its reply
abbrev pub helped_by : List ℕ → Ask → Reply → List ℕ
helped_by active (ask.HelperNew h) (Granted true) = active ++ h ∷ []
helped_by active (ask.HelperEnd h) reply = filter (is_other_helper h) active
helped_by active a reply = active

abbrev pub helped : List ℕ → Ask × Reply → List ℕ
helped active call = helped_by active call.0 call.1

-- the helpers that are granted and not ended
abbrev pub active_helpers : List Ask → List Reply → List ℕ
active_helpers asked replies = fold helped [] (zip asked replies)

abbrev pub is_number : ℕ → ℕ → Bool
is_number h k = k == h

-- the helper that is named is granted and not ended
abbrev pub IsServedBy : List Ask → List Reply → Option ℕ → Type 0
IsServedBy asked replies None = Unit {0}
IsServedBy asked replies (Some h) = list_any (is_number h) (active_helpers asked replies) ≡ true

-- the helper that is asked for
abbrev pub helper_in : Ask → Option ℕ
helper_in (ask.Submit id work helper) = None
helper_in ask.Drain = None
helper_in (ask.HelperNew h) = Some h
helper_in (ask.HelperEnd h) = None
helper_in (ask.Answer q v) = None
helper_in ask.Close = None

abbrev pub is_for_helper : Handed → Bool
is_for_helper handed = is_some handed.helper

abbrev pub requests_in : Reply → List (ℕ × ℤ)
requests_in (Drained arrived) = arrived.requests
requests_in (Granted granted) = []
requests_in Done = []

-- the requests that replies have brought, with their numbers, oldest first
abbrev pub came : List Reply → List (ℕ × ℤ)
came replies = flat_map requests_in replies

abbrev pub answered_by : Ask → Option ℕ
answered_by (ask.Submit id work helper) = None
answered_by ask.Drain = None
answered_by (ask.HelperNew h) = None
answered_by (ask.HelperEnd h) = None
answered_by (ask.Answer q v) = Some q
answered_by ask.Close = None

-- whether no call has answered the request
abbrev pub is_unanswered : List Ask → ℕ × ℤ → Bool
is_unanswered asked request = not (list_any (λ q. q == request.0) (filter_map answered_by asked))

-- the requests that replies have brought and no call has answered
abbrev pub unanswered : List Ask → List Reply → List (ℕ × ℤ)
unanswered asked replies = filter (is_unanswered asked) (came replies)

-- how many askers are left after one more reply: what the last drain says
abbrev pub left_by : ℕ → Reply → ℕ
left_by left (Drained arrived) = arrived.left
left_by left (Granted granted) = left
left_by left Done = left

-- how many of so many askers are left after the replies
abbrev pub left_after : ℕ → List Reply → ℕ
left_after askers replies = fold left_by askers replies

-- what a drain brings from outside: its requests are numbered on, askers only end, and each asker that is left has at most one
-- request without an answer
pub record Serves (askers : ℕ) (asked : List Ask) (replies : List Reply) (arrived : Arrived) : Type 0 where
  pub numbered : map (λ request. request.0) arrived.requests ≡ range_with_len (length (came replies)) (length arrived.requests)
  pub fewer : arrived.left ≤ left_after askers replies
  pub one_each : length (unanswered asked (replies ++ Drained arrived ∷ [])) ≤ arrived.left

-- something has come: a work, or a request, or the end of an asker
abbrev pub HasCome : ℕ → List Reply → Arrived → Type 0
HasCome askers replies arrived =
    (arrived.works ≢ []) ⊎ (arrived.requests ≢ []) ⊎ (arrived.left < left_after askers replies)

-- a request that a reply has brought and no call has answered
abbrev pub IsAnswerable : List Ask → List Reply → ℕ → Type 0
IsAnswerable asked replies q = Contains (map (λ request. request.0) (unanswered asked replies)) q

-- some work is out, and a thread can do one that is: it is a helper's, or not every thread is a helper's
abbrev pub CanWork : ℕ → List Ask → List Reply → Type 0
CanWork threads asked replies =
    (outstanding asked replies ≢ [])
    × ((list_any is_for_helper (outstanding asked replies) ≡ true) ⊎ (length (active_helpers asked replies) < threads))

-- some asker that is left has no request without an answer
abbrev pub CanAsk : ℕ → List Ask → List Reply → Type 0
CanAsk askers asked replies = length (unanswered asked replies) < left_after askers replies

-- something may come: a work or a request
abbrev pub CanWait : ℕ → ℕ → List Ask → List Reply → Type 0
CanWait threads askers asked replies = CanWork threads asked replies ⊎ CanAsk askers asked replies

-- a drain was replied
abbrev pub is_drained : Reply → Bool
is_drained (Drained arrived) = true
is_drained (Granted granted) = false
is_drained Done = false

abbrev pub is_drain : Ask → Bool
is_drain (ask.Submit id work helper) = false
is_drain ask.Drain = true
is_drain (ask.HelperNew h) = false
is_drain (ask.HelperEnd h) = false
is_drain (ask.Answer q v) = false
is_drain ask.Close = false

-- the place in the list of calls at which the scheduler waited last
abbrev pub last_wait : List ℕ → Option ℕ
last_wait [] = None
last_wait (n ∷ []) = Some n
last_wait (n ∷ m ∷ waits) = last_wait (m ∷ waits)

abbrev pub IsUndrainedFrom : List Ask → Option ℕ → Type 0
IsUndrainedFrom asked None = ⊥
IsUndrainedFrom asked (Some n) = list_any is_drain (drop n asked) ≡ false

-- the scheduler has waited, and has not drained since
abbrev pub HasWaited : List Ask → List ℕ → Type 0
HasWaited asked waits = IsUndrainedFrom asked (last_wait waits)
