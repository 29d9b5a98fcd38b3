-- What the compiler of the let dialect answers, want of memory aside. Own.
use Rattle.std.specs.Prelude.{◌≡◌, ℕ, List}
use Rattle.ak_let.specs.declared.source.Source.{Source}
use Rattle.ak_let_syntax.specs.declared.refusal.LetFault.{LetFault}
use Rattle.ak_let_syntax.specs.declared.refusal.LetRefused.{LetRefused}
use Rattle.ak_let_syntax.specs.declared.refusal.LetRefused.TheVariants.{At, NoMemory}
use Rattle.ak_let_syntax.specs.Faults.{kind_number}
use Rattle.ak_let_reader.specs.Answers.{HasFault, IsSource}
use Rattle.ak_let_script.specs.Script.{IsScriptOf}

-- the text is a source, and the bytes are the script of that source
pub record IsCompiled (text bytes : List ℕ) : Type 0 where
  pub source : Source
  pub is : IsSource text source
  pub script : IsScriptOf source bytes

-- the refusal is for a fault of the text, or want of memory
abbrev pub IsRefusal : List ℕ → LetRefused → Type 0
IsRefusal text (At line number) = (kind : LetFault) × (number ≡ kind_number kind) × HasFault text line kind
IsRefusal text NoMemory = Unit {0}
