-- What the reader answers, want of memory aside. Own.
use Rattle.std.specs.Prelude.{◌≡◌, ℕ, ◌⊎◌, Some, None, Result, Ok, Err, List}
use Rattle.ak_let.specs.declared.source.Source.{Source}
use Rattle.ak_let_syntax.specs.declared.named.NamedFun.{NamedFun}
use Rattle.ak_let_syntax.specs.declared.refusal.LetFault.{LetFault}
use Rattle.ak_let_syntax.specs.declared.refusal.LetRefused.{LetRefused}
use Rattle.ak_let_syntax.specs.declared.refusal.LetRefused.TheVariants.{At, NoMemory}
use Rattle.ak_let_syntax.specs.Faults.{GrammarFault, kind_number}
use Rattle.ak_let_syntax.specs.Grammar.{Reads}
use Rattle.ak_let_reader.specs.NameFaults.{name_fault}
use Rattle.ak_let_reader.specs.Numbered.{numbered}

-- the bytes are functions by name, whose names have no fault, and the source is those with numbers
pub record IsSource (bytes : List ℕ) (source : Source) : Type 0 where
  pub funs : List NamedFun
  pub reads : Reads bytes funs
  pub right : name_fault funs ≡ None
  pub is : source ≡ numbered funs

-- the bytes are functions by name, whose names have the fault
pub record HasNameFault (bytes : List ℕ) (line : ℕ) (kind : LetFault) : Type 0 where
  pub funs : List NamedFun
  pub reads : Reads bytes funs
  pub fault : name_fault funs ≡ Some (line, kind)

-- the fault of the bytes: those of names come behind all others
abbrev pub HasFault : List ℕ → ℕ → LetFault → Type 0
HasFault bytes line kind = GrammarFault bytes line kind ⊎ HasNameFault bytes line kind

-- the answer is right: the source that the bytes are, or the fault that they have
abbrev pub IsRight : List ℕ → Result Source LetRefused → Type 0
IsRight bytes (Ok source) = IsSource bytes source
IsRight bytes (Err (At line number)) =
    (kind : LetFault) × (number ≡ kind_number kind) × HasFault bytes line kind
IsRight bytes (Err NoMemory) = Unit {0}
