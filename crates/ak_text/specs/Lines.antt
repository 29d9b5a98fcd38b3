-- Lines and words of a text. As bytes 10 is LF, 13 CR, 9 a tab, 32 a space, and 35 the sign that begins a comment.
use Rattle.std.specs.Prelude.{ℕ, ◌+◌, Bool, not, ◌&&◌, ◌||◌, ◌==◌, nat_le, if◌then◌else◌, List, [], ◌∷◌, map, filter, length}
use Rattle.std.specs.List.{before_first, list_any, onto_first}
use Rattle.std.specs.Str.Lines.{strip_carriage_return}

-- a line: its number from 1, and its bytes before a comment
pub record TextLine : Type 0 where
  pub number : ℕ
  pub text : List ℕ

-- the pieces with one more byte in front
abbrev pub piece_with : (ℕ → Bool) → ℕ → List (List ℕ) → List (List ℕ)
piece_with ends byte rest = if ends byte then [] ∷ rest else onto_first byte rest

-- the pieces that the bytes which pass the test end: without those, and with what follows the last where it isn't empty
abbrev pub pieces : (ℕ → Bool) → List ℕ → List (List ℕ)
pieces ends [] = []
pieces ends (byte ∷ bytes) = piece_with ends byte (pieces ends bytes)

abbrev pub is_line_feed : ℕ → Bool
is_line_feed byte = byte == 10

-- the lines: LF ends one, and a CR at its end is dropped
abbrev pub lines_of : List ℕ → List (List ℕ)
lines_of bytes = map strip_carriage_return (pieces is_line_feed bytes)

abbrev pub begins_comment : ℕ → Bool
begins_comment byte = byte == 35

-- the lines with their numbers, the first of which is given, and without comments
abbrev pub numbered : ℕ → List (List ℕ) → List TextLine
numbered number [] = []
numbered number (line ∷ lines) = record { number = number; text = before_first begins_comment line } ∷ numbered (number + 1) lines

-- the lines of a text
abbrev pub text_lines : List ℕ → List TextLine
text_lines bytes = numbered 1 (lines_of bytes)

-- the visible bytes of ASCII
abbrev pub is_word_byte : ℕ → Bool
is_word_byte byte = nat_le 33 byte && nat_le byte 126

abbrev pub is_blank : ℕ → Bool
is_blank byte = (byte == 32) || (byte == 9)

abbrev pub is_not_empty : List ℕ → Bool
is_not_empty bytes = not (length bytes == 0)

abbrev pub is_gap : ℕ → Bool
is_gap byte = not (is_word_byte byte)

-- the words: the longest runs of bytes of words
abbrev pub words_of : List ℕ → List (List ℕ)
words_of text = filter is_not_empty (pieces is_gap text)

-- whether a byte is neither of a word nor a blank
abbrev pub has_bad_byte : List ℕ → Bool
has_bad_byte text = list_any (λ byte. not (is_word_byte byte || is_blank byte)) text

-- whether a line isn't skipped: a good line without words is
abbrev pub counts : TextLine → Bool
counts line = has_bad_byte line.text || not (length (words_of line.text) == 0)

-- the lines of a text that aren't skipped
abbrev pub counting_lines : List ℕ → List TextLine
counting_lines bytes = filter counts (text_lines bytes)
