-- A record that is replayed: what was passed of it, and what comes of a call. Own.
use Rattle.std.specs.Prelude.{ℕ, ◌≤◌, ◌<◌, ◌^◌, ◌≡◌, ◌-◌, List, [], ◌∷◌, ◌++◌, take, length, count_by, slice_get, Bool, true, Option, Some, None, is_some}
use Rattle.ak_labor.specs.declared.ask.Ask.{Ask}
use Rattle.ak_labor.specs.declared.ask.Ask.TheVariants as ask
use Rattle.ak_labor.specs.declared.port.PortError.{PortError}
use Rattle.ak_labor.specs.Arrived.{Arrived}
use Rattle.ak_labor.specs.Calls.{Reply, Granted, Done, FailsAt}
use Rattle.ak_history.specs.declared.event.Event.{Event}
use Rattle.ak_history.specs.Events.{is_submit, is_helper_new}
use Rattle.ak_history.specs.Legal.{Legal}
use Rattle.ak_history.specs.Scheduler.{ask_of, asks, replies}
use Rattle.ak_history_laws.specs.Behind.{IsNotByScheduler, Behind}
use Rattle.ak_pool.specs.Pools.{brought}
use Rattle.ak_replay.specs.Passing.{IsCall, is_grant}
use Rattle.ak_replay.specs.declared.passing.Progress.{Progress}
use Rattle.ak_replay.specs.declared.port.Departure.{Departure}
use Rattle.ak_replay.specs.declared.port.Departure.TheVariants.{Stray, Short}

-- a record: the numbers of threads and askers of its pool, and its history
pub record Recording : Type 0 where
  pub threads : ℕ
  pub askers : ℕ
  pub history : List Event

-- no record: what a name stands for that names none
abbrev pub no_recording : Recording
no_recording = record { threads = 0; askers = 0; history = [] }

-- the numbers of threads and askers, the record, how many of its events were passed, the call that was missed, and the waits
pub record ReplayState : Type 0 where
  pub threads : ℕ
  pub askers : ℕ
  pub history : List Event
  pub passed : ℕ
  pub missed : Option Ask
  pub waits : List ℕ

-- the record that is replayed
abbrev pub recording_of : ReplayState → Recording
recording_of s = record { threads = s.threads; askers = s.askers; history = s.history }

-- the events that were passed
abbrev pub passed_by : ReplayState → List Event
passed_by s = take s.passed s.history

abbrev pub with_missed : List Ask → Option Ask → List Ask
with_missed asked None = asked
with_missed asked (Some a) = asked ++ a ∷ []

-- the calls that were made: those that were passed, and last the one that was missed
abbrev pub asked_of : ReplayState → List Ask
asked_of s = with_missed (asks (passed_by s)) s.missed

-- the replies to the calls that were passed
abbrev pub replied_of : ReplayState → List Reply
replied_of s = replies s.askers (passed_by s)

-- the next event is another call, or there is none
abbrev pub IsOther : Option Event → Ask → Type 0
IsOther None a = Unit {0}
IsOther (Some e) a = (is_some (ask_of e) ≡ true) × (IsCall a (Some e) → ⊥)

abbrev pub IsMissed : Option Event → Option Ask → Type 0
IsMissed next None = Unit {0}
IsMissed next (Some a) = IsOther next a

-- What is kept beside a legal record is what was passed of it: how many calls, submits and new helpers, and what the next drain
-- brings. A call that was missed is not the next one.
pub record IsReplay (threads askers : ℕ) (history : List Event) (at : Progress) (owes : Arrived) (lost : Option Ask) : Type 0 where
  pub legal : Legal threads askers history
  pub within : at.events ≤ length history
  pub short : length history < 2 ^ 63
  pub calls : at.calls ≡ length (asks (take at.events history))
  pub submits : at.submits ≡ count_by is_submit (take at.events history)
  pub helpers : at.helpers ≡ count_by is_helper_new (take at.events history)
  pub due : owes ≡ brought askers (take at.events history)
  pub missed : IsMissed (slice_get history at.events) lost

-- the record is this one, and what is kept beside it is what was passed of it
pub record IsReplayOf (of : Recording) (threads askers : ℕ) (history : List Event) (at : Progress) (owes : Arrived) (lost : Option Ask) : Type 0 where
  pub named : record { threads = threads; askers = askers; history = history } ≡ of
  pub kept : IsReplay threads askers history at owes lost

-- nothing but events of threads and askers was passed
pub record HasWalked (s s' : ReplayState) : Type 0 where
  pub behind : Behind IsNotByScheduler (passed_by s) (passed_by s')
  pub on : s.passed ≤ s'.passed

-- the next event is this call
abbrev pub IsNext : ReplayState → Ask → Type 0
IsNext s a = IsCall a (slice_get s.history s.passed)

-- there is room to count the call
abbrev pub HasRoom : Ask → ReplayState → Type 0
HasRoom (ask.Submit id work helper) s = count_by is_submit (passed_by s) < 2 ^ 32 - 1
HasRoom (ask.HelperNew h) s = count_by is_helper_new (passed_by s) < 2 ^ 32 - 1
HasRoom a s = Unit {0}

-- a call failed: it was missed, or there was no memory to come to it
abbrev pub HasFailed : {F : Type 0} → Ask → PortError F → ReplayState → ReplayState → Type 0
HasFailed a e s s' = FailsAt a (asked_of s) (asked_of s') e × (replied_of s' ≡ replied_of s)

-- the reply to a call that is no drain, by whether a helper is granted
abbrev pub reply_for : Ask → Bool → Reply
reply_for (ask.HelperNew h) granted = Granted granted
reply_for a granted = Done

-- one call was passed and has its reply, with the events of threads and askers before it
pub record HasPassed (a : Ask) (e : Event) (reply : Reply) (s s' : ReplayState) : Type 0 where
  pub last : slice_get s'.history (s'.passed - 1) ≡ Some e
  pub on : s.passed < s'.passed
  pub within : s'.passed ≤ length s'.history
  pub asked : asked_of s' ≡ asked_of s ++ a ∷ []
  pub replied : replied_of s' ≡ replied_of s ++ reply ∷ []

-- one call that is no drain was passed
abbrev pub HasPassedCall : Ask → ReplayState → ReplayState → Type 0
HasPassedCall a s s' = (e : Event) × HasPassed a e (reply_for a (is_grant e)) s s'

-- what a replay departs by: at a place stands another call than the one that was made, or no call is left
abbrev pub DepartsBy : ReplayState → Option Departure → Type 0
DepartsBy s None = s.missed ≡ None
DepartsBy s (Some (Stray place asked kept)) =
    (s.missed ≡ Some asked) × (place ≡ s.passed) × (slice_get s.history place ≡ Some kept) × IsOther (Some kept) asked
DepartsBy s (Some (Short asked)) = (s.missed ≡ Some asked) × (slice_get s.history s.passed ≡ None)
