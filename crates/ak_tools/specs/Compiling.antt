-- What the tool that compiles a source of the let dialect answers and writes. Own.
use Rattle.std.specs.Prelude.{ℕ, ◌<◌, ◌≤◌, List, ◌≡◌, ◌⊎◌, length, Option, Some}
use Rattle.ak_base.specs.Streams.{grown, TookBeginning}
use Rattle.ak_let.specs.declared.source.Source.{Source}
use Rattle.ak_let_syntax.specs.declared.refusal.LetFault.{LetFault}
use Rattle.ak_let_syntax.specs.Faults.{kind_number}
use Rattle.ak_let_reader.specs.Answers.{HasFault, IsSource}
use Rattle.ak_let_script.specs.Compiled.{IsCompiled}
use Rattle.ak_reading.specs.Reading.{Had, WasReadTo}
use Rattle.ak_tools.specs.declared.status.ToolStatus.{ToolStatus}
use Rattle.ak_tools.specs.declared.status.ToolStatus.TheVariants.{Done, Usage, Refused, ReadFault, WriteFault, NoMemory}
use Rattle.ak_tools.specs.declared.words.Tool.{Tool}
use Rattle.ak_tools.specs.declared.words.Tool.TheVariants.{Let}

-- the most bytes that a source may have
abbrev pub source_limit : ℕ
source_limit = 67108864

-- why the bytes are refused: there are too many of them, kind 20 at line 0; or they have a fault of the let dialect
abbrev pub IsFault : List ℕ → ℕ → ℕ → Type 0
IsFault bytes line kind =
    ((source_limit < length bytes) × (line ≡ 0) × (kind ≡ 20))
    ⊎ ((length bytes ≤ source_limit) × (fault : LetFault) × (kind ≡ kind_number fault) × HasFault bytes line fault)

-- ---- what was read, of a source that tells its bytes or none
-- the bytes of the source are compiled to the script
pub record IsScript (told : Option (List ℕ)) (script : List ℕ) : Type 0 where
  pub bytes : List ℕ
  pub had : Had told bytes
  pub few : length bytes ≤ source_limit
  pub compiled : IsCompiled bytes script

-- the bytes that were read have this fault
pub record IsRefused (told : Option (List ℕ)) (line kind : ℕ) : Type 0 where
  pub bytes : List ℕ
  pub read : WasReadTo source_limit told bytes
  pub fault : IsFault bytes line kind

-- the source tells bytes with this fault
pub record TellsFault (told : Option (List ℕ)) (line kind : ℕ) : Type 0 where
  pub bytes : List ℕ
  pub tells : told ≡ Some bytes
  pub fault : IsFault bytes line kind

-- the source tells a source of the let dialect
pub record TellsSource (told : Option (List ℕ)) : Type 0 where
  pub bytes : List ℕ
  pub tells : told ≡ Some bytes
  pub few : length bytes ≤ source_limit
  pub source : Source
  pub is : IsSource bytes source

-- ---- the report
-- what the sink took, by the status: the script, a beginning of it after a fault, and else nothing
abbrev pub Took : ToolStatus → Option (List ℕ) → Option (List ℕ) → Option (List ℕ) → Type 0
Took Done told old new = (script : List ℕ) × IsScript told script × (new ≡ grown old script)
Took WriteFault told old new = (script : List ℕ) × IsScript told script × TookBeginning old new script
Took (Refused line kind) told old new = IsRefused told line kind × (new ≡ old)
Took other told old new = new ≡ old

-- the answer is this refusal, or a fault of reading, or want of memory
abbrev pub IsRefusal : ℕ → ℕ → ToolStatus → Type 0
IsRefusal line kind (Refused at number) = (at ≡ line) × (number ≡ kind)
IsRefusal line kind ReadFault = Unit {0}
IsRefusal line kind NoMemory = Unit {0}
IsRefusal line kind other = ⊥

-- the answer is no refusal
abbrev pub IsNoRefusal : ToolStatus → Type 0
IsNoRefusal (Refused line kind) = ⊥
IsNoRefusal (Usage place) = ⊥
IsNoRefusal other = Unit {0}

-- the report of the compiler: a fault that the source tells is refused, and a source without one is compiled
pub record ReportsScript (told old new : Option (List ℕ)) (status : ToolStatus) : Type 0 where
  pub took : Took status told old new
  pub refuses : (line kind : ℕ) → TellsFault told line kind → IsRefusal line kind status
  pub completes : TellsSource told → IsNoRefusal status

-- the report of a tool
abbrev pub Reports : Tool → Option (List ℕ) → Option (List ℕ) → Option (List ℕ) → ToolStatus → Type 0
Reports Let told old new status = ReportsScript told old new status
