-- The text of a script: one line for each form, its words with one space between. Own.
use Rattle.std.specs.Prelude.{ℕ, List, ◌∷◌, ◌++◌, map, flat_map, pos}
use Rattle.ak_row.specs.Places as row
use Rattle.ak_row.specs.Plain.{row_text}
use Rattle.ak_script.specs.declared.script.Proc.{Proc}
use Rattle.ak_script.specs.declared.statement.Atom.TheVariants.{Literal, Local}
use Rattle.ak_syntax.specs.declared.line_form.Form.{Form}
use Rattle.ak_syntax.specs.Names.{kind_word}
use Rattle.ak_syntax.specs.Table.{Place, Exactly, Named, Valued, Counted, Typed}
use Rattle.ak_syntax.specs.Grammar.{places, forms}

-- a word of a line, as rows are written
abbrev pub as_row : Place → row.Place
as_row (Exactly bytes) = row.Exactly bytes
as_row (Named name) = row.Exactly name
as_row (Valued (Literal z)) = row.Signed z
as_row (Valued (Local name)) = row.Exactly name
as_row (Counted least n) = row.Signed (pos n)
as_row (Typed param) = row.Exactly (param.name ++ 58 ∷ kind_word param.kind)

abbrev pub form_row : Form → List row.Place
form_row form = map as_row (places form)

abbrev pub script_text : List Proc → List ℕ
script_text script = flat_map row_text (map form_row (forms script))
