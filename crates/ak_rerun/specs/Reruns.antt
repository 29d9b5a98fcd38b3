-- What comes of a program that is run again over a record. Own.
use Rattle.std.specs.Prelude.{◌≡◌, List, Result, Ok, Err}
use Rattle.ak_labor.specs.declared.config.Config.{Config}
use Rattle.ak_trace.specs.declared.entry.Entry.{Entry}
use Rattle.ak_history.specs.declared.event.Event.{Event}
use Rattle.ak_history.specs.Scheduler.{asks, replies}
use Rattle.ak_history_laws.specs.Once.{StartOnce}
use Rattle.ak_program.specs.Programs.{NumProgram}
use Rattle.ak_machine.specs.Run.{Run, HasEnded, run_of}
use Rattle.ak_machine.specs.Status.{status_of}
use Rattle.ak_laws.specs.Laws.{ObeysLaws}
use Rattle.ak_cycle.specs.Turns.{IsFinished}
use Rattle.ak_meets.specs.Meets.{Meeting, Yes, Stray, Short, Meets}
use Rattle.ak_replay.specs.declared.port.Departure.{Departure}
use Rattle.ak_replay.specs.declared.port.Departure.TheVariants as departure
use Rattle.ak_rerun.specs.declared.rerun.Replayed.{Replayed}
use Rattle.ak_rerun.specs.declared.rerun.RerunRefused.{RerunRefused}
use Rattle.ak_rerun.specs.declared.rerun.RerunRefused.TheVariants.{Departs, NoMemory}

-- the machine on the replies of a record
abbrev pub run_over : NumProgram → Config → List Event → Run
run_over program config history = run_of program config (replies config.askers history)

-- The run and the record go together to the run's end. The trace is the machine's for the replies of the record, whose calls are
-- those that the machine makes. Each work is begun at most once, and exactly once where the run ended idle. The trace has its
-- end, and obeys the laws of traces.
pub record IsRerun (program : NumProgram) (config : Config) (history : List Event) (trace : List Entry) : Type 0 where
  pub meets : Meets program config history Yes
  pub ended : (run_over program config history).outcome ≡ HasEnded
  pub trace_is : (run_over program config history).trace ≡ trace
  pub asks_are : (run_over program config history).asks ≡ asks history
  pub once : StartOnce trace history
  pub finished : IsFinished (status_of trace)
  pub laws : ObeysLaws config.limit trace

abbrev pub meeting_of : Departure → Meeting
meeting_of (departure.Stray place asked kept) = Stray place asked kept
meeting_of (departure.Short asked) = Short asked

-- the run departs from the record so
abbrev pub DepartsFrom : NumProgram → Config → List Event → RerunRefused → Type 0
DepartsFrom program config history (Departs d) = Meets program config history (meeting_of d)
DepartsFrom program config history NoMemory = Unit {0}

-- the answer tells how the run and the record meet, or there was no memory
abbrev pub Tells : Result Replayed RerunRefused → Meeting → Type 0
Tells (Ok ran) m = m ≡ Yes
Tells (Err (Departs d)) m = m ≡ meeting_of d
Tells (Err NoMemory) m = Unit {0}
