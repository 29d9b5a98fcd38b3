-- Why there is no script: what each step on the way answers. Own.
use Rattle.std.specs.Prelude.{ℕ, List, ◌≡◌, Option, Ok, Err}
use Rattle.std.specs.declared.result.Result.{Result}
use Rattle.ak_base.specs.Streams.{Rose}
use Rattle.ak_let_syntax.specs.declared.refusal.LetFault.{LetFault}
use Rattle.ak_let_syntax.specs.Faults.{kind_number}
use Rattle.ak_let_reader.specs.Answers.{HasFault}
use Rattle.ak_tools.specs.declared.status.ToolStatus.{ToolStatus}
use Rattle.ak_tools.specs.declared.status.ToolStatus.TheVariants.{Refused, ReadFault, NoMemory}
use Rattle.ak_tools.specs.Compiling.{IsNoRefusal, IsRefusal, IsRefused}

-- a text is refused for a fault of it, or for want of memory
abbrev pub IsRefusalOf : List ℕ → ToolStatus → Type 0
IsRefusalOf bytes (Refused line kind) = (fault : LetFault) × (kind ≡ kind_number fault) × HasFault bytes line fault
IsRefusalOf bytes NoMemory = Unit {0}
IsRefusalOf bytes other = ⊥

-- a source gives no script: what was read is refused, or a read failed, or there was no memory
abbrev pub IsStop : Option (List ℕ) → ℕ → ℕ → ToolStatus → Type 0
IsStop told before now (Refused line kind) = IsRefused told line kind
IsStop told before now ReadFault = Rose before now
IsStop told before now NoMemory = Unit {0}
IsStop told before now other = ⊥

-- the answer is this refusal, or a fault of reading, or want of memory
abbrev pub Refuses : {T : Type 0} → ℕ → ℕ → Result T ToolStatus → Type 0
Refuses line kind (Ok value) = ⊥
Refuses line kind (Err status) = IsRefusal line kind status

-- the answer is no refusal
abbrev pub Accepts : {T : Type 0} → Result T ToolStatus → Type 0
Accepts (Ok value) = Unit {0}
Accepts (Err status) = IsNoRefusal status
