-- What a run is: the theorem that the contract of the top call carries. Own.
use Rattle.std.specs.Prelude.{ℕ, List, ◌≡◌, Option}
use Rattle.ak_trace.specs.declared.entry.Entry.{Entry}
use Rattle.ak_history.specs.declared.event.Event.{Event}
use Rattle.ak_history.specs.Legal.{Legal}
use Rattle.ak_history.specs.Scheduler.{asks, replies}
use Rattle.ak_script.specs.declared.script.Proc.{Proc}
use Rattle.ak_syntax.specs.Grammar.{Reads}
use Rattle.ak_valid.specs.Valid.{Valid}
use Rattle.ak_program.specs.Programs.{NumProgram}
use Rattle.ak_valid.specs.Numbered.{numbered, main_of, ask_of}
use Rattle.ak_labor.specs.declared.config.Config.{Config}
use Rattle.ak_machine.specs.State.{State}
use Rattle.ak_machine.specs.Run.{Run, HasEnded, run_of, machine_after}
use Rattle.ak_history_laws.specs.Once.{StartOnce}
use Rattle.ak_laws.specs.Laws.{ObeysLaws}
use Rattle.ak_exec.specs.Worlds.{ServesAskers}
use Rattle.ak_laws.specs.Executed.{Executed, executed}
use Rattle.ak_laws.specs.Reads.{ReadsGetWhatWasWritten}
use Rattle.ak_reading.specs.Reading.{Had}

-- the bytes are a valid script
pub record IsScript (bytes : List ℕ) (script : List Proc) : Type 0 where
  pub reads : Reads bytes script
  pub valid : Valid script

-- the program of a script
abbrev pub program_of : List Proc → NumProgram
program_of script = record { procs = numbered script; main = main_of script; ask = ask_of script }

-- the run of the machine for a script, on the replies that a history gave its scheduler
abbrev pub run_on : List Proc → Config → List Event → Run
run_on script config history = run_of (program_of script) config (replies config.askers history)

-- the statements that this run executes, and the state that it leaves
abbrev pub executed_on : List Proc → Config → List Event → List Executed
executed_on script config history = executed (program_of script) config (replies config.askers history)

abbrev pub state_on : List Proc → Config → List Event → State
state_on script config history = (machine_after (program_of script) config (replies config.askers history)).state

-- The headline, for a script's bytes: this trace and this history are those of a run of the script under these settings.
pub record RunsTo (config : Config) (bytes : List ℕ) (trace : List Entry) (history : List Event) : Type 0 where
  pub script : List Proc
  pub is_script : IsScript bytes script
  -- a procedure of the script serves those who ask from outside, who are 16 at the most
  pub serves : ServesAskers (program_of script) config.askers
  -- the history is legal for the pool's threads and those who ask from outside
  pub legal : Legal config.threads config.askers history
  -- the machine has ended, the trace is the machine's, and the history holds exactly the calls that the machine makes
  pub ended : (run_on script config history).outcome ≡ HasEnded
  pub trace_is : (run_on script config history).trace ≡ trace
  pub asks_are : (run_on script config history).asks ≡ asks history
  -- each accepted work is begun at most once, and exactly once where the run ended idle
  pub once : StartOnce trace history
  -- the trace obeys the laws of traces that are proved
  pub laws : ObeysLaws config.limit trace
  -- what the reads of each pipe got is what was written to it, in order, each number once
  pub reads : (p : ℕ) → ReadsGetWhatWasWritten p (executed_on script config history) (state_on script config history)

-- The headline, for the settings of a command and what a source had.
pub record IsRun (config : Config) (told : Option (List ℕ)) (trace : List Entry) (history : List Event) : Type 0 where
  -- all the bytes of the source
  pub bytes : List ℕ
  pub had : Had told bytes
  pub run : RunsTo config bytes trace history

-- what a source had is a valid script
pub record IsValidSource (told : Option (List ℕ)) : Type 0 where
  pub bytes : List ℕ
  pub had : Had told bytes
  pub script : List Proc
  pub is_script : IsScript bytes script
