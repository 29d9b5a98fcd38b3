-- What the numbering of names answers where it refuses, and which names stand before a function. Own.
use Rattle.std.specs.Prelude.{◌≡◌, ℕ, Option, Some, None, List, take}
use Rattle.std.specs.List.{list_any}
use Rattle.std.specs.Option.{option_map_or}
use Rattle.std.specs.Str.{bytes_eq}
use Rattle.ak_let_syntax.specs.declared.named.NamedFun.{NamedFun}
use Rattle.ak_let_syntax.specs.declared.refusal.LetFault.{LetFault}
use Rattle.ak_let_syntax.specs.declared.refusal.LetRefused.{LetRefused}
use Rattle.ak_let_syntax.specs.declared.refusal.LetRefused.TheVariants.{At, NoMemory}
use Rattle.ak_let_syntax.specs.Faults.{kind_number}
use Rattle.ak_let_reader.specs.Numbered.{fun_names}

-- the refusal is for the fault, or want of memory
abbrev pub RefusesFor : Option (ℕ × LetFault) → LetRefused → Type 0
RefusesFor fault (At line number) = (kind : LetFault) × (number ≡ kind_number kind) × (fault ≡ Some (line, kind))
RefusesFor fault NoMemory = Unit {0}

-- the fault of one line, by its least kind
abbrev pub line_fault : ℕ → Option LetFault → Option (ℕ × LetFault)
line_fault line fault = option_map_or (λ kind. Some (line, kind)) fault None

-- a name stands among these exactly where it is that of one of the first functions, so many
abbrev pub AreBefore : List NamedFun → ℕ → List (List ℕ) → Type 0
AreBefore funs place before =
    (name : List ℕ) → list_any (bytes_eq name) before ≡ list_any (bytes_eq name) (take place (fun_names funs))
