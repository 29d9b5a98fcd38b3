-- How a reader takes the lines of a text, one after the other, up to the first with a fault.
use Rattle.std.specs.Prelude.{ℕ, ◌+◌, Bool, false, Option, Some, None, Result, Ok, Err, List, [], ◌∷◌, if◌then◌else◌}
use Rattle.ak_text.specs.Lines.{TextLine, words_of, has_bad_byte}
use Rattle.ak_syntax.specs.declared.cursor.Cursor.{Cursor}
use Rattle.ak_syntax.specs.declared.cursor.Until.TheVariants.{LineEnd}
use Rattle.ak_syntax.specs.Words.{Bad, Part, listed_at}

-- the form that begins with a word, what comes of it behind other lines, and whether the text may not end there
pub record Taking (Front Form Kind : Type 0) : Type 0 where
  pub form_from : ℕ → List ℕ → Part Form
  pub added : Front → Form → Bool → Result Front Kind
  pub is_open : Front → Bool
  pub bad_line : Kind

-- a part of a line that has no form is a bad line
abbrev pub lined : {A Front Kind : Type 0} → Kind → Result A Bad → (A → Result Front Kind) → Result Front Kind
lined bad_line (Ok x) rest = rest x
lined bad_line (Err b) rest = Err bad_line

abbrev pub taken_from : {Front Form Kind : Type 0} → Taking Front Form Kind → Front → ℕ → Option (List ℕ) → Cursor → Result Front Kind
taken_from t front number None c = Ok front
taken_from t front number (Some word) c = lined t.bad_line (t.form_from number word c) (λ f. t.added front f.0 f.1.faulty)

abbrev pub taken_good : {Front Form Kind : Type 0} → Taking Front Form Kind → Front → ℕ → List (List ℕ) → Result Front Kind
taken_good t front number words =
    lined t.bad_line (listed_at LineEnd (record { words = words; faulty = false })) (λ w. taken_from t front number w.0 w.1)

-- what the first lines become with one more
abbrev pub line_taken : {Front Form Kind : Type 0} → Taking Front Form Kind → Front → TextLine → Result Front Kind
line_taken t front line = if has_bad_byte line.text then Err t.bad_line else taken_good t front line.number (words_of line.text)

-- ---- all lines
abbrev pub then_lines : {Front Kind : Type 0} → ℕ → Result Front Kind → (Front → Result Front (ℕ × Kind)) → Result Front (ℕ × Kind)
then_lines number (Ok front) rest = rest front
then_lines number (Err kind) rest = Err (number, kind)

abbrev pub closed : {Front Form Kind : Type 0} → Taking Front Form Kind → ℕ → Front → Result Front (ℕ × Kind)
closed t last front = if t.is_open front then Err (last + 1, t.bad_line) else Ok front

-- what all lines are, where the number of the last line was the given one
unfoldable pub scanned : {Front Form Kind : Type 0} → Taking Front Form Kind → Front → ℕ → List TextLine → Result Front (ℕ × Kind)
scanned t front last [] = closed t last front
scanned t front last (line ∷ lines) = then_lines line.number (line_taken t front line) (λ next. scanned t next line.number lines)
