-- The grammar of the let dialect: a text is its lines, a line its words, and the words are those of a form. Own.
use Rattle.std.specs.Prelude.{◌≡◌, ℕ, ◌≤◌, Bool, true, false, Option, Some, None, List, [], ◌∷◌, ◌++◌, map, filter, length, codes}
use Rattle.std.specs.List.{AllZip, AllByRecursion, flat_map, list_any}
use Rattle.std.specs.Str.{bytes_eq}
use Rattle.ak_text.specs.Lines.{TextLine, text_lines, words_of, has_bad_byte, counts}
use Rattle.ak_script.specs.declared.statement.Atom.{Atom}
use Rattle.ak_script.specs.declared.statement.Atom.TheVariants.{Local}
use Rattle.ak_syntax.specs.Names.{operator_word, work_word}
use Rattle.ak_syntax.specs.Table.{Place, Exactly, Named, Valued, Stands}
use Rattle.ak_let_syntax.specs.declared.named.NamedStmt.{NamedStmt}
use Rattle.ak_let_syntax.specs.declared.named.NamedStmt.TheVariants.{Let, Compute, Print, Raise, Return, Await, AwaitWork, Try}
use Rattle.ak_let_syntax.specs.declared.named.NamedFun.{NamedFun}
use Rattle.ak_let_syntax.specs.declared.named.Form.{Form}
use Rattle.ak_let_syntax.specs.declared.named.Form.TheVariants.{Head, Body, End}

-- the words in front of a line that acts under a condition
abbrev pub when_places : Option Atom → List Place
when_places None = []
when_places (Some a) = Exactly (codes "when") ∷ Valued a ∷ []

-- the words up to the `=` of a line that binds a local
abbrev pub binding : List ℕ → List ℕ → List Place → List Place
binding first x rest = Exactly first ∷ Named x ∷ Exactly (codes "=") ∷ rest

-- the words of a line of a function
abbrev pub row : NamedStmt → List Place
row (Let x a) = binding (codes "let") x (Valued a ∷ [])
row (Compute x a op b) = binding (codes "let") x (Valued a ∷ Exactly (operator_word op) ∷ Valued b ∷ [])
row (Print when a) = when_places when ++ Exactly (codes "print") ∷ Valued a ∷ []
row (Raise when a) = when_places when ++ Exactly (codes "raise") ∷ Valued a ∷ []
row (Return when a) = when_places when ++ Exactly (codes "return") ∷ Valued a ∷ []
row (Await x f args) = binding (codes "await") x (Named f ∷ map Valued args)
row (AwaitWork x kind a) =
    binding (codes "await") x (Exactly (codes "work") ∷ Exactly (work_word kind) ∷ Valued a ∷ [])
row (Try x f args g) =
    binding (codes "try") x (Named f ∷ (map Valued args ++ Exactly (codes "else") ∷ Named g ∷ []))

-- the words of a line
abbrev pub places : Form → List Place
places (Head name number params) = Exactly (codes "fun") ∷ Named name ∷ map Named params
places (Body line) = row line.stmt
places End = Exactly (codes "end") ∷ []

-- the number of the line is the one that the form has
abbrev pub HasNumber : Form → ℕ → Type 0
HasNumber (Head name number params) at = number ≡ at
HasNumber (Body line) at = line.number ≡ at
HasNumber End at = Unit {0}

-- ---- names
-- the word that is no name: it stands in front of a work
abbrev pub is_work : List ℕ → Bool
is_work name = bytes_eq name (codes "work")

-- a name that is `work`
abbrev pub takes_work : Place → Bool
takes_work (Named name) = is_work name
takes_work (Valued (Local name)) = is_work name
takes_work _ = false

-- some name of the form is `work`
abbrev pub names_work : Form → Bool
names_work form = list_any takes_work (places form)

-- ---- lines
-- the line has the form, and no name of it is `work`
pub record IsLine (form : Form) (line : TextLine) : Type 0 where
  pub good : has_bad_byte line.text ≡ false
  pub number : HasNumber form line.number
  pub words : AllZip Stands (places form) (words_of line.text)
  pub names : names_work form ≡ false

-- the lines of functions: those of each are its first, its own and `end`
abbrev pub forms : List NamedFun → List Form
forms [] = []
forms (fun ∷ funs) = Head fun.name fun.number fun.params ∷ (map Body fun.lines ++ End ∷ forms funs)

-- the local that a line binds
abbrev pub binds : NamedStmt → List (List ℕ)
binds (Let x a) = x ∷ []
binds (Compute x a op b) = x ∷ []
binds (Await x f args) = x ∷ []
binds (AwaitWork x kind a) = x ∷ []
binds (Try x f args g) = x ∷ []
binds _ = []

-- the parameters of a function and all that its lines bind
abbrev pub locals : NamedFun → List (List ℕ)
locals fun = fun.params ++ flat_map (λ line. binds line.stmt) fun.lines

-- a function has at most 15 lines and 7 locals, of which each binding counts
pub record IsWithin (fun : NamedFun) : Type 0 where
  pub lines : length fun.lines ≤ 15
  pub locals : length (locals fun) ≤ 7

-- the bytes are these functions by name, at most 128
pub record Reads (bytes : List ℕ) (funs : List NamedFun) : Type 0 where
  pub lines : AllZip IsLine (forms funs) (filter counts (text_lines bytes))
  pub few : length funs ≤ 128
  pub each : AllByRecursion IsWithin funs
