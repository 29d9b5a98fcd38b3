-- What becomes of the hands. Own.
use Rattle.std.specs.Prelude.{ℕ, List, ◌≡◌, length}
use Rattle.ak_history.specs.declared.event.Event.{Event}
use Rattle.ak_words.specs.declared.command.Command.{Command}
use Rattle.ak_words.specs.declared.command.Command.TheVariants as command
use Rattle.ak_crew.specs.Crews.{AreCounted}
use Rattle.ak_top.specs.declared.status.Status.{Status}
use Rattle.ak_top.specs.declared.status.Status.TheVariants.{Done, Unhandled, Usage, Refused, ReadFault, WriteFault, Jobs, NoMemory, BadHistory, Stray, Short, Stuck}
use Rattle.ak_top.specs.declared.status.Report.{Report}
use Rattle.ak_top.specs.declared.stop.Stop.{Stop}
use Rattle.ak_top.specs.declared.stop.Stop.TheVariants as stop

-- none is lost, and each has carried as many works as its thread finished in the history
abbrev pub HaveCarried : {L : Type 0} → (L → ℕ) → List L → List L → List Event → Type 0
HaveCarried carried old new history = (length new ≡ length old) × AreCounted carried 0 new history

-- the hands where a command goes no further than its script: as they came, but for want of memory
abbrev pub AreKept : {L : Type 0} → List L → List L → Stop → Type 0
AreKept old new stop.ReadFault = new ≡ old
AreKept old new (stop.Refused line kind) = new ≡ old
AreKept old new stop.NoMemory = Unit {0}

-- the hands after a run, by its status
abbrev pub AreAfterRun : {L : Type 0} → (L → ℕ) → List L → List L → List Event → Status → Type 0
AreAfterRun carried old new history Done = HaveCarried carried old new history
AreAfterRun carried old new history (Unhandled num) = HaveCarried carried old new history
AreAfterRun carried old new history (Usage place) = new ≡ old
AreAfterRun carried old new history (Refused line kind) = new ≡ old
AreAfterRun carried old new history ReadFault = new ≡ old
AreAfterRun carried old new history WriteFault = HaveCarried carried old new history
AreAfterRun carried old new history Jobs = HaveCarried carried old new history
AreAfterRun carried old new history NoMemory = Unit {0}
AreAfterRun carried old new history (BadHistory line) = new ≡ old
AreAfterRun carried old new history (Stray place asked kept) = new ≡ old
AreAfterRun carried old new history (Short asked) = new ≡ old
AreAfterRun carried old new history Stuck = HaveCarried carried old new history

-- the hands after a command
abbrev pub AreAfter : {L : Type 0} → (L → ℕ) → List L → List L → Command → Report → Type 0
AreAfter carried old new (command.Run config) report = AreAfterRun carried old new report.history report.status
AreAfter carried old new (command.Replay config) report = new ≡ old
AreAfter carried old new command.Check report = new ≡ old
