-- What a run over a port has to do with the machine.
use Rattle.std.specs.Prelude.{ℕ, ◌+◌, List, [], ◌∷◌, ◌++◌, ◌≡◌, ◌⊎◌, length}
use Rattle.ak_labor.specs.declared.ask.Ask.{Ask}
use Rattle.ak_labor.specs.declared.ask.Ask.TheVariants as ask
use Rattle.ak_labor.specs.Calls.{Reply, IsOpen}
use Rattle.ak_labor.specs.Waits.{unanswered, left_after}
use Rattle.ak_trace.specs.declared.entry.Entry.{Entry}
use Rattle.ak_trace.specs.declared.entry.Entry.TheVariants as entry
use Rattle.ak_trace.specs.declared.entry.Ending.TheVariants as ending
use Rattle.ak_machine.specs.Run.{Run, HasEnded, Wants}

-- the machine's run has ended with this trace, and asked and waited as the port says
pub record HasEndedWith (run : Run) (trace : List Entry) (asked : List Ask) (waits : List ℕ) : Type 0 where
  pub ended : run.outcome ≡ HasEnded
  pub trace_is : run.trace ≡ trace
  pub asks_are : run.asks ≡ asked
  pub waits_are : run.waits ≡ waits

-- the machine's run wants the reply to the last of the calls that the port was asked, and the others have theirs
pub record WantsLast (run : Run) (asked : List Ask) (replies : List Reply) (waits : List ℕ) : Type 0 where
  pub last : Ask
  pub before : List Ask
  pub wants : run.outcome ≡ Wants last
  pub asked_is : asked ≡ before ++ last ∷ []
  pub one_more : length asked ≡ length replies + 1
  pub asks_are : run.asks ≡ asked
  pub waits_are : run.waits ≡ waits

-- the waits of the machine are those of the port, or one more, for which there was no memory
abbrev pub WaitsAre : List ℕ → List ℕ → ℕ → Type 0
WaitsAre waits of_port asked = (waits ≡ of_port) ⊎ (waits ≡ of_port ++ asked ∷ [])

-- the machine's run wants the reply to a call that comes next and that the port was not asked; each call before it has its
-- reply, and none was the close
pub record WantsNext (run : Run) (asked : List Ask) (replies : List Reply) (waits : List ℕ) : Type 0 where
  pub next : Ask
  pub wants : run.outcome ≡ Wants next
  pub opened : IsOpen asked replies
  pub asks_are : run.asks ≡ asked ++ next ∷ []
  pub waits_are : WaitsAre run.waits waits (length asked)

-- the last call was the close
abbrev pub EndsClosed : List Ask → Type 0
EndsClosed asked = (before : List Ask) × (asked ≡ before ++ ask.Close ∷ [])

-- the trace ends idle
abbrev pub EndsIdle : List Entry → Type 0
EndsIdle trace = (before : List Entry) × (trace ≡ before ++ entry.End ending.Idle ∷ [])

-- the outside is quiet: as many requests have no answer as askers are left
abbrev pub IsQuiet : ℕ → List Ask → List Reply → Type 0
IsQuiet askers asked replies = length (unanswered asked replies) ≡ left_after askers replies
