-- What a report tells, by its status. Own.
use Rattle.std.specs.Prelude.{ℕ, List, [], ◌≡◌, ◌⊎◌, Option, Bool, true, false}
use Rattle.ak_base.specs.Streams.{grown, TookBeginning}
use Rattle.ak_labor.specs.declared.config.Config.{Config}
use Rattle.ak_machine.specs.Status.{Stat, Well, ByError, AtJobLimit, status_of}
use Rattle.ak_machine.specs.Status as stat
use Rattle.ak_top.specs.declared.status.Status.{Status}
use Rattle.ak_top.specs.declared.status.Status.TheVariants.{Done, Unhandled, Usage, Refused, ReadFault, WriteFault, Jobs, NoMemory, BadHistory, Stray, Short, Stuck}
use Rattle.ak_top.specs.declared.status.Report.{Report}
use Rattle.ak_top.specs.Headline.{IsRun, IsValidSource}
use Rattle.ak_top.specs.Refusals.{IsRefused, TellsFault, TellsScript}

-- whether the command was carried out
abbrev pub is_carried_out : Status → Bool
is_carried_out Done = true
is_carried_out (Unhandled num) = true
is_carried_out (Usage place) = false
is_carried_out (Refused line kind) = false
is_carried_out ReadFault = false
is_carried_out WriteFault = true
is_carried_out Jobs = true
is_carried_out NoMemory = false
is_carried_out (BadHistory line) = false
is_carried_out (Stray place asked kept) = false
is_carried_out (Short asked) = false
is_carried_out Stuck = true

-- the status is that of the trace
abbrev pub Shows : Status → Stat → Type 0
Shows Done ended = ended ≡ Well
Shows (Unhandled num) ended = ended ≡ ByError num
Shows Jobs ended = ended ≡ AtJobLimit
Shows Stuck ended = ended ≡ stat.Stuck
Shows other ended = Unit {0}

-- what a sink took: all the text, a beginning of it after a fault, and nothing where the command was not carried out
abbrev pub Took : Status → Option (List ℕ) → Option (List ℕ) → List ℕ → Type 0
Took Done old new text = new ≡ grown old text
Took (Unhandled num) old new text = new ≡ grown old text
Took Jobs old new text = new ≡ grown old text
Took Stuck old new text = new ≡ grown old text
Took WriteFault old new text = TookBeginning old new text
Took other old new text = new ≡ old

-- the answer is this refusal, or a fault of reading, or want of memory
abbrev pub IsRefusal : ℕ → ℕ → Status → Type 0
IsRefusal line kind (Refused at number) = (at ≡ line) × (number ≡ kind)
IsRefusal line kind ReadFault = Unit {0}
IsRefusal line kind NoMemory = Unit {0}
IsRefusal line kind other = ⊥

-- the answer is no refusal
abbrev pub IsNoRefusal : Status → Type 0
IsNoRefusal (Refused line kind) = ⊥
IsNoRefusal (Usage place) = ⊥
IsNoRefusal other = Unit {0}

-- the statuses of a run: what a history does wrong is for replays alone
abbrev pub IsOfRun : Status → Type 0
IsOfRun (BadHistory line) = ⊥
IsOfRun (Stray place asked kept) = ⊥
IsOfRun (Short asked) = ⊥
IsOfRun other = Unit {0}

-- the statuses of a test of a script
abbrev pub IsVerdict : Status → Type 0
IsVerdict Done = Unit {0}
IsVerdict (Refused line kind) = Unit {0}
IsVerdict ReadFault = Unit {0}
IsVerdict WriteFault = Unit {0}
IsVerdict NoMemory = Unit {0}
IsVerdict other = ⊥

-- the report of a run under these settings, from a source that tells these bytes or none
pub record ReportsRun (config : Config) (told : Option (List ℕ)) (report : Report) : Type 0 where
  pub of_run : IsOfRun report.status
  -- the headline: the trace and the history are those of a run of the script
  pub run : is_carried_out report.status ≡ true → IsRun config told report.trace report.history
  pub shows : Shows report.status (status_of report.trace)
  -- there is no trace and no history without a run
  pub bare : is_carried_out report.status ≡ false → (report.trace ≡ []) × (report.history ≡ [])
  -- a refusal names the first fault of what was read, and a fault is refused
  pub refused : (line kind : ℕ) → report.status ≡ Refused line kind → IsRefused told line kind
  pub refuses : (line kind : ℕ) → TellsFault told line kind → IsRefusal line kind report.status
  -- a valid script is run
  pub completes : TellsScript told → IsNoRefusal report.status

-- the report of a test of a script
pub record ReportsCheck (told : Option (List ℕ)) (report : Report) : Type 0 where
  pub verdict : IsVerdict report.status
  pub valid : is_carried_out report.status ≡ true → IsValidSource told
  pub bare : (report.trace ≡ []) × (report.history ≡ [])
  pub refused : (line kind : ℕ) → report.status ≡ Refused line kind → IsRefused told line kind
  pub refuses : (line kind : ℕ) → TellsFault told line kind → IsRefusal line kind report.status
  pub completes : TellsScript told → IsNoRefusal report.status

-- the command was carried out to its end, or there was no memory
abbrev pub EndsWell : Status → Type 0
EndsWell Done = Unit {0}
EndsWell (Unhandled num) = Unit {0}
EndsWell Jobs = Unit {0}
EndsWell Stuck = Unit {0}
EndsWell NoMemory = Unit {0}
EndsWell other = ⊥
