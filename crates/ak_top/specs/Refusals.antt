-- Why a script is refused. Own.
use Rattle.std.specs.Prelude.{ℕ, ◌≡◌, ◌≤◌, ◌⊎◌, List, Option, Some, None}
use Rattle.ak_script.specs.declared.script.Proc.{Proc}
use Rattle.ak_syntax.specs.declared.refusal.GrammarKind.{GrammarKind}
use Rattle.ak_syntax.specs.Faults.{GrammarFault, kind_number}
use Rattle.ak_syntax.specs.Grammar.{Reads}
use Rattle.ak_valid.specs.Faults.{ValidFault}
use Rattle.ak_valid.specs.Numbered.{ask_of}
use Rattle.ak_top.specs.Headline.{IsScript}
use Rattle.ak_reading.specs.Reading.{Had, WasRead}

-- a fault of the grammar, or of a script that reads: its line and its kind
abbrev pub ScriptFault : List ℕ → ℕ → ℕ → Type 0
ScriptFault bytes line kind =
    ((k : GrammarKind) × (kind ≡ kind_number k) × GrammarFault bytes line k)
    ⊎ ((script : List Proc) × Reads bytes script × ValidFault script line kind)

-- there are askers, and the script, which is valid, has no procedure `ask` for them: a fault of the script as a whole, of kind 11
pub record LacksAsk (askers : ℕ) (bytes : List ℕ) (line kind : ℕ) : Type 0 where
  pub script : List Proc
  pub is_script : IsScript bytes script
  pub some : 1 ≤ askers
  pub none : ask_of script ≡ None
  pub line_is : line ≡ 0
  pub kind_is : kind ≡ 11

-- a fault of a script where there are so many askers
abbrev pub FaultWith : ℕ → List ℕ → ℕ → ℕ → Type 0
FaultWith askers bytes line kind = ScriptFault bytes line kind ⊎ LacksAsk askers bytes line kind

-- the bytes that were read have this fault
pub record IsRefused (told : Option (List ℕ)) (line kind : ℕ) : Type 0 where
  pub bytes : List ℕ
  pub read : WasRead told bytes
  pub fault : ScriptFault bytes line kind

-- a source tells bytes with this fault
pub record TellsFault (told : Option (List ℕ)) (line kind : ℕ) : Type 0 where
  pub bytes : List ℕ
  pub tells : told ≡ Some bytes
  pub fault : ScriptFault bytes line kind

-- a source tells a valid script
pub record TellsScript (told : Option (List ℕ)) : Type 0 where
  pub bytes : List ℕ
  pub tells : told ≡ Some bytes
  pub script : List Proc
  pub is_script : IsScript bytes script
