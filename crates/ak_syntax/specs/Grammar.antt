-- The grammar of scripts: a text is its lines, a line its words, the lines have a version, and the words are those of a form
-- that the version has.
use Rattle.std.specs.Prelude.{◌≡◌, ℕ, ◌≤◌, true, false, Option, Some, None, List, [], ◌∷◌, ◌++◌, map, filter, length, codes}
use Rattle.std.specs.List.{AllZip, AllByRecursion, flat_map}
use Rattle.ak_text.specs.Lines.{TextLine, text_lines, words_of, has_bad_byte, counts}
use Rattle.ak_script.specs.declared.script.Param.{Param}
use Rattle.ak_script.specs.declared.script.Prefix.{Prefix}
use Rattle.ak_script.specs.declared.script.Prefix.TheVariants.{If, Unless}
use Rattle.ak_script.specs.declared.script.Statement.{Statement}
use Rattle.ak_script.specs.declared.script.Proc.{Proc}
use Rattle.ak_syntax.specs.declared.line_form.Form.{Form}
use Rattle.ak_syntax.specs.declared.line_form.Form.TheVariants.{Async, Head, Body, End}
use Rattle.ak_syntax.specs.declared.version.Version.{Version}
use Rattle.ak_syntax.specs.declared.version.Version.TheVariants as version
use Rattle.ak_script.specs.Statements.{binds, MayHavePrefix, IsWithin}
use Rattle.ak_syntax.specs.Table.{Place, Exactly, Named, Valued, Typed, Stands, row, is_in}

-- the words of a prefix
abbrev pub prefix_places : Option Prefix → List Place
prefix_places None = []
prefix_places (Some (If a)) = Exactly (codes "if") ∷ Valued a ∷ []
prefix_places (Some (Unless a)) = Exactly (codes "unless") ∷ Valued a ∷ []

-- the words of a line
abbrev pub places : Form → List Place
places Async = Exactly (codes "async") ∷ Exactly (codes "2") ∷ []
places (Head name line params) = Exactly (codes "proc") ∷ Named name ∷ map Typed params
places (Body statement) = prefix_places statement.prefix ++ row statement.stmt
places End = Exactly (codes "end") ∷ []

-- the number of the line is the one that the form has
abbrev pub HasNumber : Form → ℕ → Type 0
HasNumber Async number = Unit {0}
HasNumber (Head name line params) number = line ≡ number
HasNumber (Body statement) number = statement.line ≡ number
HasNumber End number = Unit {0}

-- the line has the form
pub record IsLine (form : Form) (line : TextLine) : Type 0 where
  pub good : has_bad_byte line.text ≡ false
  pub number : HasNumber form line.number
  pub words : AllZip Stands (places form) (words_of line.text)

-- the line in front of a script, by its version
abbrev pub version_forms : Version → List Form
version_forms version.One = []
version_forms version.Two = Async ∷ []

-- the lines of procedures: those of each are its first, its statements and `end`
abbrev pub forms : List Proc → List Form
forms [] = []
forms (proc ∷ procs) = Head proc.name proc.line proc.params ∷ (map Body proc.body ++ End ∷ forms procs)

-- a statement with its prefix keeps the limits, and the version has it
abbrev pub StatementIsWithin : Version → Statement → Type 0
StatementIsWithin v statement =
    MayHavePrefix statement.prefix statement.stmt × IsWithin statement.stmt × (is_in v statement.stmt ≡ true)

-- the parameters of a procedure and all that its statements bind
abbrev pub locals : Proc → List Param
locals proc = proc.params ++ flat_map (λ statement. binds statement.stmt) proc.body

-- a procedure keeps the limits, in a version
pub record ProcIsWithin (v : Version) (proc : Proc) : Type 0 where
  pub params : length proc.params ≤ 8
  pub statements : length proc.body ≤ 64
  pub locals : length (locals proc) ≤ 64
  pub each : AllByRecursion (StatementIsWithin v) proc.body

-- the bytes are the script: `async 2` stands before its procedures where it is of version 2
pub record Reads (bytes : List ℕ) (script : List Proc) : Type 0 where
  pub size : length bytes ≤ 1048576
  pub of_version : Version
  pub lines : AllZip IsLine (version_forms of_version ++ forms script) (filter counts (text_lines bytes))
  pub procs : length script ≤ 4096
  pub each : AllByRecursion (ProcIsWithin of_version) script
