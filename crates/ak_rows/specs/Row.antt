-- Worked scripts: each with the run that it must have.
use Rattle.std.specs.Prelude.{ℕ, ℤ, List, [], ◌++◌, ◌≡◌, Some, None, replicate}
use Rattle.ak_labor.specs.declared.ask.Ask.{Ask}
use Rattle.ak_labor.specs.declared.ask.Ask.TheVariants as ask
use Rattle.ak_labor.specs.declared.work.Outcome.{Outcome}
use Rattle.ak_labor.specs.declared.work.WorkKind.{WorkKind}
use Rattle.ak_labor.specs.declared.work.Work.{Work}
use Rattle.ak_labor.specs.Calls.{Reply, Drained}
use Rattle.ak_trace.specs.declared.entry.Entry.{Entry}
use Rattle.ak_program.specs.declared.statement.NumChoice.{NumChoice}
use Rattle.ak_program.specs.declared.statement.NumStmt.{NumStmt}
use Rattle.ak_program.specs.declared.program.NumPrefix.{NumPrefix}
use Rattle.ak_program.specs.declared.program.NumStatement.{NumStatement}
use Rattle.ak_program.specs.declared.program.NumProc.{NumProc}
use Rattle.ak_program.specs.Programs.{NumProgram}
use Rattle.ak_labor.specs.declared.config.Config.{Config}
use Rattle.ak_machine.specs.Run.{Run, HasEnded, run_of}
use Rattle.ak_history.specs.declared.event.Event.{Event}
use Rattle.ak_history.specs.Legal.{Legal}
use Rattle.ak_history.specs.Scheduler.{asks, replies}

-- a program, the settings, the replies, and the trace and asks that they must give
pub record Row : Type 0 where
  pub program : NumProgram
  pub config : Config
  pub replies : List Reply
  pub trace : List Entry
  pub asks : List Ask

-- the machine's run of a row
abbrev pub run_on : Row → Run
run_on row = run_of row.program row.config row.replies

-- the machine's run has ended, with the trace and asks of the row and with these waits
abbrev pub MeetsWithWaits : Row → List ℕ → Type 0
MeetsWithWaits row waits =
    run_on row ≡ record { trace = row.trace; asks = row.asks; waits = waits; outcome = HasEnded }

-- a run, but for its waits
abbrev pub unwaited : Run → Run
unwaited run = record run { waits = [] }

-- the machine's run has ended, with the trace and asks of the row
abbrev pub Meets : Row → Type 0
Meets row = unwaited (run_on row) ≡ record { trace = row.trace; asks = row.asks; waits = []; outcome = HasEnded }

-- a procedure; the machine reads no name, line or parameter
abbrev pub proc : List NumStatement → NumProc
proc body = record { name = 0; line = 0; params = []; body = body }

-- a statement
abbrev pub line : NumStmt → NumStatement
line s = record { line = 0; prefix = None; stmt = s }

-- a statement behind a prefix
abbrev pub line_when : NumPrefix → NumStmt → NumStatement
line_when prefix s = record { line = 0; prefix = Some prefix; stmt = s }

-- one deferred of a choice, with its procedure
abbrev pub choice : ℕ → ℕ → NumChoice
choice d proc = record { d = d; proc = proc }

-- the settings where none are given
abbrev pub usual : Config
usual = record { threads = 4; limit = 500; jobs = 100000; askers = 0 }

-- a program that serves no requests, of these procedures, with the number of its main one
abbrev pub without_ask : List NumProc → ℕ → NumProgram
without_ask procs main = record { procs = procs; main = main; ask = None }

-- a program that serves requests, of these procedures, with the numbers of its main one and of the one that serves
abbrev pub with_ask : List NumProc → ℕ → ℕ → NumProgram
with_ask procs main ask = record { procs = procs; main = main; ask = Some ask }

-- the reply to a drain that brings works and requests, while so many askers are left
abbrev pub brings_left : List (ℕ × Outcome) → List (ℕ × ℤ) → ℕ → Reply
brings_left works requests left = Drained (record { works = works; requests = requests; left = left })

-- the reply to a drain that brings works alone, where no asker is left
abbrev pub brings : List (ℕ × Outcome) → Reply
brings works = brings_left works [] 0

-- so many replies to drains that bring nothing, before others
abbrev pub empty : ℕ → List Reply → List Reply
empty n replies = replicate n (brings []) ++ replies

-- the same while so many askers are left
abbrev pub empty_left : ℕ → ℕ → List Reply → List Reply
empty_left left n replies = replicate n (brings_left [] [] left) ++ replies

-- so many drains, before other asks
abbrev pub drains : ℕ → List Ask → List Ask
drains n asks = replicate n ask.Drain ++ asks

-- a work
abbrev pub work : WorkKind → ℤ → Work
work kind num = record { kind = kind; num = num }

-- the submit of a general work
abbrev pub general : ℕ → WorkKind → ℤ → Ask
general id kind num = ask.Submit id (work kind num) None

-- the submit of a work for a helper
abbrev pub for_helper : ℕ → ℕ → WorkKind → ℤ → Ask
for_helper h id kind num = ask.Submit id (work kind num) (Some h)

-- the history of a row's run: it is legal, and the scheduler's calls in it and their replies are those of the row
pub record IsHistoryOf (row : Row) (history : List Event) : Type 0 where
  pub legal : Legal row.config.threads row.config.askers history
  pub asks_are : asks history ≡ row.asks
  pub replies_are : replies row.config.askers history ≡ row.replies
