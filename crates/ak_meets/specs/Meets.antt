-- How far the machine and the history of a pool go together: whether a history is one that a program's run may have. Own.
use Rattle.std.specs.Prelude.{ℕ, List, ◌≡◌, ◌≢◌, true, Bool, map, filter, take, length, slice_get, Option, Some, None, is_some}
use Rattle.ak_labor.specs.declared.ask.Ask.{Ask}
use Rattle.ak_history.specs.declared.event.Event.{Event}
use Rattle.ak_history.specs.Events.{numbers_below}
use Rattle.ak_history.specs.Scheduler.{ask_of, asks, replies}
use Rattle.ak_program.specs.Programs.{NumProgram}
use Rattle.ak_labor.specs.declared.config.Config.{Config}
use Rattle.ak_machine.specs.Run.{Run, Ran, HasEnded, Wants, IsWrong, run_of}

-- an event of the scheduler: all but those of workers and askers
abbrev pub is_scheduler : Event → Bool
is_scheduler e = is_some (ask_of e)

-- the scheduler's events of a history, in order
abbrev pub sched : List Event → List Event
sched history = filter is_scheduler history

-- the call whose reply a run waits for
abbrev pub wanted : Ran → Option Ask
wanted HasEnded = None
wanted (Wants a) = Some a
wanted IsWrong = None

-- the machine's run on the first k replies of a history
abbrev pub run_to : NumProgram → Config → List Event → ℕ → Run
run_to program config history k = run_of program config (take k (replies config.askers history))

abbrev pub wanted_at : NumProgram → Config → List Event → ℕ → Option Ask
wanted_at program config history k = wanted (run_to program config history k).outcome

-- each of the first k calls of the history is the one that the machine makes after the replies before it
abbrev pub Agree : NumProgram → Config → List Event → ℕ → Type 0
Agree program config history k =
    map (wanted_at program config history) (numbers_below k) ≡ map Some (take k (asks history))

-- what comes of it: they go together to the run's end; or at a place of the history stands another event than the one that
-- the machine asks for; or the history ends before the machine's call
pub data Meeting : Type 0 where
  Yes : Meeting
  Stray : (place : ℕ) (asked : Ask) (kept : Event) → Meeting
  Short : (asked : Ask) → Meeting

-- the machine has ended after the first k calls
pub record MeetsTo (program : NumProgram) (config : Config) (history : List Event) (k : ℕ) : Type 0 where
  pub agree : Agree program config history k
  pub ended : (run_to program config history k).outcome ≡ HasEnded

-- the event behind the first k calls, at its place, is not the call that the machine makes then
pub record StraysAt (program : NumProgram) (config : Config) (history : List Event) (place : ℕ) (asked : Ask) (kept : Event) (k : ℕ) : Type 0 where
  pub agree : Agree program config history k
  pub wants : wanted_at program config history k ≡ Some asked
  pub there : slice_get history place ≡ Some kept
  pub of_scheduler : is_scheduler kept ≡ true
  pub behind : length (sched (take place history)) ≡ k
  pub differs : ask_of kept ≢ Some asked

-- no call is left behind the first k, and the machine makes one more
pub record EndsAt (program : NumProgram) (config : Config) (history : List Event) (asked : Ask) (k : ℕ) : Type 0 where
  pub agree : Agree program config history k
  pub wants : wanted_at program config history k ≡ Some asked
  pub none_left : length (asks history) ≡ k

-- how a history meets the run of a program under these settings
abbrev pub Meets : NumProgram → Config → List Event → Meeting → Type 0
Meets program config history Yes = (k : ℕ) × MeetsTo program config history k
Meets program config history (Stray place asked kept) =
    (k : ℕ) × StraysAt program config history place asked kept k
Meets program config history (Short asked) = (k : ℕ) × EndsAt program config history asked k
