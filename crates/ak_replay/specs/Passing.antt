-- How the events of a record are passed. Own.
use Rattle.std.specs.Prelude.{ℕ, ◌+◌, ◌<◌, ◌≤◌, ◌^◌, ◌-◌, ◌≡◌, List, ◌++◌, take, length, fold, Bool, true, false, Option, Some, None, is_some}
use Rattle.std.specs.List.{AllByRecursion}
use Rattle.ak_labor.specs.Arrived.{Arrived}
use Rattle.ak_labor.specs.declared.ask.Ask.{Ask}
use Rattle.ak_labor.specs.declared.ask.Ask.TheVariants as ask
use Rattle.ak_history.specs.declared.event.Event.{Event}
use Rattle.ak_history.specs.declared.event.Event.TheVariants as event
use Rattle.ak_history.specs.Scheduler.{ask_of}
use Rattle.ak_history_laws.specs.Behind.{IsNotByScheduler}
use Rattle.ak_history_laws.specs.Brought.{brought_then}
use Rattle.ak_replay.specs.declared.passing.Progress.{Progress}

-- one more event was passed, which is this call
abbrev pub counted : Ask → Progress → Progress
counted (ask.Submit id work helper) p = record p { events = p.events + 1; calls = p.calls + 1; submits = p.submits + 1 }
counted (ask.HelperNew h) p = record p { events = p.events + 1; calls = p.calls + 1; helpers = p.helpers + 1 }
counted a p = record p { events = p.events + 1; calls = p.calls + 1 }

-- the counts have room for it
abbrev pub CanCountAsk : Ask → Progress → Type 0
CanCountAsk (ask.Submit id work helper) p = p.submits < 2 ^ 32 - 1
CanCountAsk (ask.HelperNew h) p = p.helpers < 2 ^ 32 - 1
CanCountAsk a p = Unit {0}

abbrev pub CanCount : Ask → Progress → Type 0
CanCount a p = (p.events < 2 ^ 63) × (p.calls < 2 ^ 63) × CanCountAsk a p

-- a helper is granted a thread
abbrev pub is_grant : Event → Bool
is_grant (event.HelperNew h answer) = is_some answer
is_grant e = false

-- an event of a thread or of an asker brings its part, and one of the scheduler nothing
abbrev pub IsNoted : Bool → Event → Arrived → Arrived → Type 0
IsNoted true e due due' = IsNotByScheduler e × (due' ≡ brought_then due e)
IsNoted false e due due' = (is_some (ask_of e) ≡ true) × (due' ≡ due)

-- from one place to another stand only events of threads and askers, which bring their parts
pub record IsPassed (history : List Event) (from to : ℕ) (due due' : Arrived) : Type 0 where
  pub others : List Event
  pub by_others : AllByRecursion IsNotByScheduler others
  pub taken : take to history ≡ take from history ++ others
  pub brought : due' ≡ fold brought_then due others
  pub on : from ≤ to
  pub within : to ≤ length history

-- the next event is this call
abbrev pub IsCall : Ask → Option Event → Type 0
IsCall a None = ⊥
IsCall a (Some e) = ask_of e ≡ Some a

-- the end, or an event of the scheduler
abbrev pub IsAtCall : Option Event → Type 0
IsAtCall None = Unit {0}
IsAtCall (Some e) = is_some (ask_of e) ≡ true
