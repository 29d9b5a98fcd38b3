-- Why a command goes no further than its script. Own.
use Rattle.std.specs.Prelude.{ℕ, ◌≡◌, List, Option, Ok, Err}
use Rattle.std.specs.declared.result.Result.{Result}
use Rattle.ak_base.specs.Streams.{Rose}
use Rattle.ak_script.specs.declared.script.Proc.{Proc}
use Rattle.ak_syntax.specs.declared.refusal.ParseRefused.{ParseRefused}
use Rattle.ak_syntax.specs.declared.refusal.ParseRefused.TheVariants as parse
use Rattle.ak_valid.specs.declared.refusal.ValidRefused.{ValidRefused}
use Rattle.ak_valid.specs.declared.refusal.ValidRefused.TheVariants as valid
use Rattle.ak_syntax.specs.Grammar.{Reads}
use Rattle.ak_program.specs.Programs.{NumProgram}
use Rattle.ak_reading.specs.declared.reading.ReadError.{ReadError}
use Rattle.ak_reading.specs.declared.reading.ReadError.TheVariants as read
use Rattle.ak_top.specs.declared.status.Status.{Status}
use Rattle.ak_top.specs.declared.status.Status.TheVariants as status
use Rattle.ak_top.specs.declared.stop.Stop.{Stop}
use Rattle.ak_top.specs.declared.stop.Stop.TheVariants.{ReadFault, Refused, NoMemory}
use Rattle.ak_top.specs.Headline.{IsScript, program_of}
use Rattle.ak_top.specs.Refusals.{ScriptFault, FaultWith, IsRefused}

abbrev pub status_at : Stop → Status
status_at ReadFault = status.ReadFault
status_at (Refused line kind) = status.Refused line kind
status_at NoMemory = status.NoMemory

abbrev pub stop_by_read : ReadError → Stop
stop_by_read read.Failed = ReadFault
stop_by_read read.NoMemory = NoMemory

abbrev pub stop_by_parse : ParseRefused → Stop
stop_by_parse (parse.At line kind) = Refused line kind
stop_by_parse parse.NoMemory = NoMemory

abbrev pub stop_by_validity : ValidRefused → Stop
stop_by_validity (valid.At line kind) = Refused line kind
stop_by_validity valid.NoMemory = NoMemory

-- the program of a valid script
pub record IsProgramOf (bytes : List ℕ) (program : NumProgram) : Type 0 where
  pub script : List Proc
  pub is_script : IsScript bytes script
  pub only : (other : List Proc) → Reads bytes other → script ≡ other
  pub program_is : program ≡ program_of script

-- why bytes are no program
abbrev pub IsNoProgram : List ℕ → Stop → Type 0
IsNoProgram bytes ReadFault = ⊥
IsNoProgram bytes (Refused line kind) = ScriptFault bytes line kind
IsNoProgram bytes NoMemory = Unit {0}

-- why they are no program that serves so many askers
abbrev pub IsNoProgramWith : ℕ → List ℕ → Stop → Type 0
IsNoProgramWith askers bytes ReadFault = ⊥
IsNoProgramWith askers bytes (Refused line kind) = FaultWith askers bytes line kind
IsNoProgramWith askers bytes NoMemory = Unit {0}

-- why a source stops a command: its count of faults rose, its script is refused, or there was no memory
abbrev pub IsStop : Option (List ℕ) → ℕ → ℕ → Stop → Type 0
IsStop told before now ReadFault = Rose before now
IsStop told before now (Refused line kind) = IsRefused told line kind
IsStop told before now NoMemory = Unit {0}

-- the stop is this refusal, or a fault of reading, or want of memory
abbrev pub IsTheRefusal : ℕ → ℕ → Stop → Type 0
IsTheRefusal line kind ReadFault = Unit {0}
IsTheRefusal line kind (Refused at number) = (at ≡ line) × (number ≡ kind)
IsTheRefusal line kind NoMemory = Unit {0}

-- it is no refusal
abbrev pub IsNoRefusal : Stop → Type 0
IsNoRefusal ReadFault = Unit {0}
IsNoRefusal (Refused line kind) = ⊥
IsNoRefusal NoMemory = Unit {0}

abbrev pub Refuses : {T : Type 0} → ℕ → ℕ → Result T Stop → Type 0
Refuses line kind (Ok value) = ⊥
Refuses line kind (Err stop) = IsTheRefusal line kind stop

abbrev pub Accepts : {T : Type 0} → Result T Stop → Type 0
Accepts (Ok value) = Unit {0}
Accepts (Err stop) = IsNoRefusal stop
