-- The words of a script's text, as they are put one by one. As bytes 32 is a space and 10 the end of a line. Own.
use Rattle.std.specs.Prelude.{ℕ, List, [], ◌∷◌, ◌++◌, flat_map, map, codes, Option, Some, None}
use Rattle.ak_program.specs.declared.program.NumPrefix.{NumPrefix}
use Rattle.ak_program.specs.declared.program.NumPrefix.TheVariants.{If, Unless}
use Rattle.ak_program.specs.declared.program.NumProc.{NumProc}
use Rattle.ak_program.specs.declared.program.NumParam.{NumParam}
use Rattle.ak_program.specs.declared.program.NumStatement.{NumStatement}
use Rattle.ak_program.specs.declared.statement.NumStmt.{NumStmt}
use Rattle.ak_row.specs.Plain.{place_word, row_text}
use Rattle.ak_syntax.specs.Table.{Place, Exactly, Named, Valued, Typed, row}
use Rattle.ak_syntax.specs.Grammar.{prefix_places}
use Rattle.ak_let_text.specs.declared.word.ScriptWord.{ScriptWord}
use Rattle.ak_let_text.specs.declared.word.ScriptWord.TheVariants.{Text, Local, Proc, Atom, Param}
use Rattle.ak_let_text.specs.Named.{local_name, proc_name, named, named_atom, named_param, named_prefix, named_stmt}
use Rattle.ak_let_text.specs.Text.{as_row, script_text}

-- what a word stands for
abbrev pub word_place : ScriptWord → Place
word_place (Text text) = Exactly text.now
word_place (Local k) = Named (local_name k)
word_place (Proc k) = Named (proc_name k)
word_place (Atom a) = Valued (named_atom a)
word_place (Param p) = Typed (named_param p)

abbrev pub word_bytes : ScriptWord → List ℕ
word_bytes word = place_word (as_row (word_place word))

-- each word with a space before it
abbrev pub spaced : List Place → List ℕ
spaced places = flat_map (λ place. 32 ∷ place_word (as_row place)) places

-- the condition in front of a line, with a space behind it
abbrev pub prefix_bytes : Option NumPrefix → List ℕ
prefix_bytes None = []
prefix_bytes (Some (If a)) = codes "if" ++ 32 ∷ (word_bytes (Atom a) ++ 32 ∷ [])
prefix_bytes (Some (Unless a)) = codes "unless" ++ 32 ∷ (word_bytes (Atom a) ++ 32 ∷ [])

-- the line of these words behind a condition
abbrev pub line_bytes : Option NumPrefix → List Place → List ℕ
line_bytes prefix places = row_text (map as_row (prefix_places (named_prefix prefix) ++ places))

-- the line of a statement
abbrev pub stmt_bytes : Option NumPrefix → NumStmt → List ℕ
stmt_bytes prefix stmt = line_bytes prefix (row (named_stmt stmt))

abbrev pub statement_bytes : NumStatement → List ℕ
statement_bytes s = stmt_bytes s.prefix s.stmt

-- the first line of a procedure
abbrev pub head_bytes : ℕ → List NumParam → List ℕ
head_bytes name params =
    row_text (map as_row (Exactly (codes "proc") ∷ Named (proc_name name) ∷ map Typed (map named_param params)))

-- the lines of a procedure
abbrev pub proc_bytes : NumProc → List ℕ
proc_bytes proc = script_text (named (proc ∷ []))
