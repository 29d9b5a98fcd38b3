-- What stands in the lines of a script that can be written.
use Rattle.std.proofs.Common.{ℕ, ◌+◌, ◌≤◌, ◌≡◌, true, List, [], ◌∷◌, ◌++◌, length, FitsSigned, w64}
use Rattle.std.specs.List.{AllByRecursion}
use Rattle.ak_row.specs.Plain.{is_plain_word}
use Rattle.ak_script.specs.declared.statement.Atom.TheVariants.{Literal, Local}
use Rattle.ak_syntax.specs.declared.line_form.Form.{Form}
use Rattle.ak_syntax.specs.Names.{is_name, kind_word}
use Rattle.ak_syntax.specs.Table.{Place, Exactly, Named, Valued, Counted, Typed}
use Rattle.ak_syntax.specs.Grammar.{places, HasNumber}

-- words of at most 18 bytes without blanks and comments, names of at most 11, numbers of 64 bits
abbrev pub IsShortName : List ℕ → Type 0
IsShortName name = (is_plain_word name ≡ true) × (is_name name ≡ true) × (length name ≤ 11)

abbrev pub IsShortWord : List ℕ → Type 0
IsShortWord bytes = (is_plain_word bytes ≡ true) × (length bytes ≤ 18)

abbrev pub CanBeWritten : Place → Type 0
CanBeWritten (Exactly bytes) = IsShortWord bytes
CanBeWritten (Named name) = IsShortName name
CanBeWritten (Valued (Literal z)) = FitsSigned w64 z
CanBeWritten (Valued (Local name)) = IsShortName name
CanBeWritten (Counted least n) = ⊥
CanBeWritten (Typed param) = IsShortWord (param.name ++ 58 ∷ kind_word param.kind) × (is_name param.name ≡ true)

abbrev pub FormCanBeWritten : Form → Type 0
FormCanBeWritten form = AllByRecursion CanBeWritten (places form)

-- the forms are those of the lines from a number on
abbrev pub AreLined : ℕ → List Form → Type 0
AreLined number [] = Unit {0}
AreLined number (form ∷ forms) = HasNumber form number × AreLined (number + 1) forms
