-- What `replay` makes of a source: its script is run again over the history behind it. Own.
use Rattle.std.specs.Prelude.{ℕ, ◌+◌, ◌<◌, ◌≤◌, ◌^◌, ◌≡◌, ◌⊎◌, true, false, List, [], length, Option, Some, Result, Ok, Err}
use Rattle.ak_trace.specs.declared.entry.Entry.{Entry}
use Rattle.ak_history.specs.declared.event.Event.{Event}
use Rattle.ak_script.specs.declared.script.Proc.{Proc}
use Rattle.ak_labor.specs.declared.config.Config.{Config}
use Rattle.ak_machine.specs.Status.{status_of}
use Rattle.ak_meets.specs.Meets.{Meeting, Yes, Meets}
use Rattle.ak_meets.specs.Meets as meeting
use Rattle.ak_record.specs.Cuts.{IsCut, IsUncut}
use Rattle.ak_record.specs.Records.{IsRecord, IsFault}
use Rattle.ak_replay.specs.declared.port.Departure.{Departure}
use Rattle.ak_replay.specs.declared.port.Departure.TheVariants as departure
use Rattle.ak_top.specs.declared.running.Ran.{Ran}
use Rattle.ak_top.specs.declared.status.Status.{Status}
use Rattle.ak_top.specs.declared.status.Status.TheVariants as status
use Rattle.ak_top.specs.declared.status.Report.{Report}
use Rattle.ak_top.specs.Headline.{IsScript, RunsTo, program_of}
use Rattle.ak_reading.specs.Reading.{Had, WasReadTo}
use Rattle.ak_exec.specs.Worlds.{ServesAskers}
use Rattle.ak_top.specs.Refusals.{FaultWith}
use Rattle.ak_top.specs.Reports.{is_carried_out, Shows}

-- the most bytes of a source
abbrev pub source_limit : ℕ
source_limit = 67108864

-- what may come of a source: its script is refused; a line behind it is at fault; or its script and its history meet so
pub data Outcome : Type 0 where
  Refuses : (line kind : ℕ) → Outcome
  Spoils : (line : ℕ) → Outcome
  Goes : (m : Meeting) → Outcome

-- a valid script, which serves so many askers
pub record IsServing (askers : ℕ) (bytes : List ℕ) : Type 0 where
  pub script : List Proc
  pub is_script : IsScript bytes script
  pub serves : ServesAskers (program_of script) askers

-- such a script, and the first line at fault of a history
pub record IsSpoilt (config : Config) (bytes record_bytes : List ℕ) (first line : ℕ) : Type 0 where
  pub serving : IsServing config.askers bytes
  pub fault : IsFault config.threads config.askers record_bytes first line

-- such a script and a legal history meet so
pub record DoMeet (config : Config) (bytes record_bytes : List ℕ) (first : ℕ) (m : Meeting) : Type 0 where
  pub serving : IsServing config.askers bytes
  pub history : List Event
  pub recorded : IsRecord config.threads config.askers record_bytes first history
  pub meets : Meets (program_of serving.script) config history m

-- what comes of the bytes of a script and those of a history, the first of whose lines has the number `first`
abbrev pub GivesCut : Config → List ℕ → List ℕ → ℕ → Outcome → Type 0
GivesCut config bytes record_bytes first (Refuses line kind) = FaultWith config.askers bytes line kind
GivesCut config bytes record_bytes first (Spoils line) = IsSpoilt config bytes record_bytes first line
GivesCut config bytes record_bytes first (Goes m) = DoMeet config bytes record_bytes first m

-- what comes of the bytes of a script alone, where `after` is the number of the line after their last
abbrev pub GivesUncut : Config → List ℕ → ℕ → Outcome → Type 0
GivesUncut config bytes after (Refuses line kind) = FaultWith config.askers bytes line kind
GivesUncut config bytes after (Spoils line) = IsServing config.askers bytes × (line ≡ after)
GivesUncut config bytes after (Goes m) = ⊥

-- more bytes than a source may have are refused as a whole, by kind 2
pub record IsTooLong (source : List ℕ) (outcome : Outcome) : Type 0 where
  pub long : source_limit < length source
  pub outcome_is : outcome ≡ Refuses 0 2

-- what comes of a source that has a line `%pool`
pub record FromCut (config : Config) (source : List ℕ) (outcome : Outcome) : Type 0 where
  pub bytes : List ℕ
  pub number : ℕ
  pub record_bytes : List ℕ
  pub cut : IsCut source bytes number record_bytes
  pub gives : GivesCut config bytes record_bytes (number + 1) outcome

-- what comes of one that has none
pub record FromUncut (config : Config) (source : List ℕ) (outcome : Outcome) : Type 0 where
  pub after : ℕ
  pub uncut : IsUncut source after
  pub gives : GivesUncut config source after outcome

-- what comes of a source
abbrev pub Gives : Config → List ℕ → Outcome → Type 0
Gives config source outcome =
    IsTooLong source outcome
    ⊎ ((length source ≤ source_limit) × (FromCut config source outcome ⊎ FromUncut config source outcome))

-- the same of the bytes that were read of a source, and of a source that tells its bytes
pub record GivesFrom (config : Config) (told : Option (List ℕ)) (outcome : Outcome) : Type 0 where
  pub source : List ℕ
  pub read : WasReadTo source_limit told source
  pub gives : Gives config source outcome

pub record GivesTold (config : Config) (told : Option (List ℕ)) (outcome : Outcome) : Type 0 where
  pub source : List ℕ
  pub tells : told ≡ Some source
  pub gives : Gives config source outcome

-- The bytes are a script and a legal history. The trace is that of a run of the script on the replies of the history, which holds
-- exactly the calls that the script makes.
pub record RunsOver (config : Config) (bytes record_bytes : List ℕ) (first : ℕ) (trace : List Entry) (history : List Event) : Type 0 where
  pub recorded : IsRecord config.threads config.askers record_bytes first history
  pub run : RunsTo config bytes trace history

-- THE HEADLINE OF A REPLAY, for the bytes of a source.
pub record ReplaysTo (config : Config) (source : List ℕ) (trace : List Entry) (history : List Event) : Type 0 where
  pub bytes : List ℕ
  pub number : ℕ
  pub record_bytes : List ℕ
  pub cut : IsCut source bytes number record_bytes
  pub runs : RunsOver config bytes record_bytes (number + 1) trace history

-- The headline of a replay, for what a source had.
pub record IsReplay (config : Config) (told : Option (List ℕ)) (trace : List Entry) (history : List Event) : Type 0 where
  pub source : List ℕ
  pub had : Had told source
  pub replays : ReplaysTo config source trace history

-- a status is that of an outcome of which P holds; want of memory needs none
abbrev pub HasCause : (Outcome → Type 0) → Status → Type 0
HasCause P (status.Refused line kind) = P (Refuses line kind)
HasCause P (status.BadHistory line) = P (Spoils line)
HasCause P (status.Stray place asked kept) = P (Goes (meeting.Stray place asked kept))
HasCause P (status.Short asked) = P (Goes (meeting.Short asked))
HasCause P (status.Usage place) = ⊥
HasCause P other = Unit {0}

-- a status tells what comes of a source, but where a read failed or there was no memory
abbrev pub Tells : Status → Outcome → Type 0
Tells status.Done outcome = outcome ≡ Goes Yes
Tells (status.Unhandled num) outcome = outcome ≡ Goes Yes
Tells (status.Usage place) outcome = ⊥
Tells (status.Refused line kind) outcome = outcome ≡ Refuses line kind
Tells status.ReadFault outcome = Unit {0}
Tells status.WriteFault outcome = outcome ≡ Goes Yes
Tells status.Jobs outcome = outcome ≡ Goes Yes
Tells status.NoMemory outcome = Unit {0}
Tells (status.BadHistory line) outcome = outcome ≡ Spoils line
Tells (status.Stray place asked kept) outcome = outcome ≡ Goes (meeting.Stray place asked kept)
Tells (status.Short asked) outcome = outcome ≡ Goes (meeting.Short asked)
Tells status.Stuck outcome = outcome ≡ Goes Yes

-- the report of a replay under these settings, of a source that tells its bytes or none
pub record ReportsReplay (config : Config) (told : Option (List ℕ)) (report : Report) : Type 0 where
  -- the headline
  pub run : is_carried_out report.status ≡ true → IsReplay config told report.trace report.history
  pub shows : Shows report.status (status_of report.trace)
  -- there is no trace and no history without a run
  pub bare : is_carried_out report.status ≡ false → (report.trace ≡ []) × (report.history ≡ [])
  -- each answer has its cause, and each cause its answer
  pub caused : HasCause (GivesFrom config told) report.status
  pub tells : (outcome : Outcome) → GivesTold config told outcome → Tells report.status outcome

-- ---- of private calls
-- why there is no run
abbrev pub IsStop : Status → Type 0
IsStop (status.Refused line kind) = Unit {0}
IsStop (status.BadHistory line) = Unit {0}
IsStop (status.Stray place asked kept) = Unit {0}
IsStop (status.Short asked) = Unit {0}
IsStop status.NoMemory = Unit {0}
IsStop other = ⊥

-- an answer tells the outcome
abbrev pub AnswerTells : Result Ran Status → Outcome → Type 0
AnswerTells (Ok ran) outcome = outcome ≡ Goes Yes
AnswerTells (Err s) outcome = Tells s outcome

-- its place is a number of 32 bits
abbrev pub IsPlaced : Departure → Type 0
IsPlaced (departure.Stray place asked kept) = place < 2 ^ 32
IsPlaced (departure.Short asked) = Unit {0}

-- the status of a departure
abbrev pub status_departed : Departure → Status
status_departed (departure.Stray place asked kept) = status.Stray place asked kept
status_departed (departure.Short asked) = status.Short asked
