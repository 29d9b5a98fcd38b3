-- What `parse` answers, want of memory aside.
use Rattle.std.specs.Prelude.{◌≡◌, ℕ, Result, Ok, Err, List}
use Rattle.ak_script.specs.declared.script.Proc.{Proc}
use Rattle.ak_syntax.specs.declared.refusal.GrammarKind.{GrammarKind}
use Rattle.ak_syntax.specs.declared.refusal.ParseRefused.{ParseRefused}
use Rattle.ak_syntax.specs.declared.refusal.ParseRefused.TheVariants.{At, NoMemory}
use Rattle.ak_syntax.specs.Grammar.{Reads}
use Rattle.ak_syntax.specs.Faults.{GrammarFault, kind_number}

-- the answer is the script, or want of memory
abbrev pub IsScript : Result (List Proc) ParseRefused → List Proc → Type 0
IsScript (Ok script) wanted = script ≡ wanted
IsScript (Err (At line kind)) wanted = ⊥
IsScript (Err NoMemory) wanted = Unit {0}

-- the answer is the fault, or want of memory
abbrev pub IsFault : Result (List Proc) ParseRefused → ℕ → GrammarKind → Type 0
IsFault (Ok script) line kind = ⊥
IsFault (Err (At at number)) line kind = (at ≡ line) × (number ≡ kind_number kind)
IsFault (Err NoMemory) line kind = Unit {0}

-- the answer is right: the script that the bytes are, or the fault that they have
abbrev pub IsRight : List ℕ → Result (List Proc) ParseRefused → Type 0
IsRight bytes (Ok script) = Reads bytes script
IsRight bytes (Err (At line number)) = (kind : GrammarKind) × (number ≡ kind_number kind) × GrammarFault bytes line kind
IsRight bytes (Err NoMemory) = Unit {0}
