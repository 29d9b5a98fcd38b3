-- What the reader of functions by name answers, want of memory aside. Own.
use Rattle.std.specs.Prelude.{◌≡◌, ℕ, Result, Ok, Err, List}
use Rattle.ak_let_syntax.specs.declared.named.NamedFun.{NamedFun}
use Rattle.ak_let_syntax.specs.declared.refusal.LetFault.{LetFault}
use Rattle.ak_let_syntax.specs.declared.refusal.LetRefused.{LetRefused}
use Rattle.ak_let_syntax.specs.declared.refusal.LetRefused.TheVariants.{At, NoMemory}
use Rattle.ak_let_syntax.specs.Faults.{GrammarFault, kind_number}
use Rattle.ak_let_syntax.specs.Grammar.{Reads}

-- the answer is right: the functions that the bytes are, or the fault that they have where they are none
abbrev pub IsRight : List ℕ → Result (List NamedFun) LetRefused → Type 0
IsRight bytes (Ok funs) = Reads bytes funs
IsRight bytes (Err (At line number)) =
    (kind : LetFault) × (number ≡ kind_number kind) × GrammarFault bytes line kind
IsRight bytes (Err NoMemory) = Unit {0}

-- the answer is what is wanted, or want of memory
abbrev pub Gives : {T : Type 0} → Result T LetRefused → T → Type 0
Gives (Ok found) wanted = found ≡ wanted
Gives (Err (At line kind)) wanted = ⊥
Gives (Err NoMemory) wanted = Unit {0}

-- the answer is the fault, or want of memory
abbrev pub Refuses : {T : Type 0} → Result T LetRefused → ℕ → LetFault → Type 0
Refuses (Ok found) line kind = ⊥
Refuses (Err (At at number)) line kind = (at ≡ line) × (number ≡ kind_number kind)
Refuses (Err NoMemory) line kind = Unit {0}
