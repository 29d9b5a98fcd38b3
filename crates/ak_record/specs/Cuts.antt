-- A source that is cut at its first line `%pool`. Own.
use Rattle.std.specs.Prelude.{ℕ, ◌+◌, ◌≡◌, ◌==◌, if◌then◌else◌, List, [], ◌∷◌, ◌++◌, length, codes, slice_get, MatchOption, false, Result, Ok, Err}
use Rattle.std.specs.List.{AllByRecursion, concat, onto_first}
use Rattle.ak_text.specs.Lines.{TextLine, text_lines, words_of, has_bad_byte}
use Rattle.ak_record.specs.declared.cut.Cut.{Cut}

-- the lines of a text, each with its line end; the last may have none
abbrev pub whole_lines : List ℕ → List (List ℕ)
whole_lines [] = []
whole_lines (byte ∷ bytes) = if byte == 10 then (byte ∷ []) ∷ whole_lines bytes else onto_first byte (whole_lines bytes)

-- the only word of the line is `%pool`, and no byte of it is bad
abbrev pub SaysPool : TextLine → Type 0
SaysPool line = (has_bad_byte line.text ≡ false) × (words_of line.text ≡ codes "%pool" ∷ [])

-- the same of a line with its line end
abbrev pub IsPool : List ℕ → Type 0
IsPool whole = MatchOption (slice_get (text_lines whole) 0) ⊥ SaysPool

-- The source is cut at its first line `%pool`: the lines before it are a script's, it has that number, and the lines behind it
-- are those of a history.
pub record IsCut (source script : List ℕ) (number : ℕ) (history : List ℕ) : Type 0 where
  pub before : List (List ℕ)
  pub pool : List ℕ
  pub after : List (List ℕ)
  pub lines_are : whole_lines source ≡ before ++ pool ∷ after
  pub first : AllByRecursion (λ line. IsPool line → ⊥) before
  pub is_pool : IsPool pool
  pub script_is : script ≡ concat before
  pub number_is : number ≡ length before + 1
  pub history_is : history ≡ concat after

-- no line of the source is `%pool`; the number is that of the line after its last
pub record IsUncut (source : List ℕ) (number : ℕ) : Type 0 where
  pub none : AllByRecursion (λ line. IsPool line → ⊥) (whole_lines source)
  pub number_is : number ≡ length (whole_lines source) + 1

-- the answer is that cut
abbrev pub IsThisCut : Result Cut ℕ → List ℕ → ℕ → List ℕ → Type 0
IsThisCut (Ok cut) script number history = (cut.script.now ≡ script) × (cut.number ≡ number) × (cut.history.now ≡ history)
IsThisCut (Err after) script number history = ⊥

-- the answer is that there is none, with this line after the last
abbrev pub IsAfter : Result Cut ℕ → ℕ → Type 0
IsAfter (Ok cut) number = ⊥
IsAfter (Err after) number = after ≡ number
