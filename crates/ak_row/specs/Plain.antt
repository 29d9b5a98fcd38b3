-- Rows as they are written: each number in plain decimal, one space between two words.
use Rattle.std.specs.Prelude.{◌≡◌, ℕ, ◌<◌, ◌≤◌, ◌^◌, Bool, true, not, ◌&&◌, List, [], ◌≢◌, map, decimal, FitsSigned}
use Rattle.std.specs.Int.{w64}
use Rattle.std.specs.List.{list_all, AllByRecursion}
use Rattle.ak_text.specs.Lines.{is_word_byte, begins_comment, is_not_empty}
use Rattle.ak_text.specs.Decimal.{decimal_of}
use Rattle.ak_print.specs.Line.{line_text}
use Rattle.ak_row.specs.Places.{Place, Exactly, Thing, LongNumber, Signed, Counted}

-- the word that is written for a place
abbrev pub place_word : Place → List ℕ
place_word (Exactly bytes) = bytes
place_word (Thing number) = decimal number
place_word (LongNumber number) = decimal number
place_word (Signed number) = decimal_of number
place_word (Counted number) = decimal number

-- a row's line
abbrev pub row_text : List Place → List ℕ
row_text places = line_text (map place_word places)

-- a byte of a word that begins no comment
abbrev pub is_plain_byte : ℕ → Bool
is_plain_byte byte = is_word_byte byte && not (begins_comment byte)

abbrev pub is_plain_word : List ℕ → Bool
is_plain_word word = is_not_empty word && list_all is_plain_byte word

-- the bytes are a word without the sign of a comment, the number lies in its range
abbrev pub IsPlain : Place → Type 0
IsPlain (Exactly bytes) = is_plain_word bytes ≡ true
IsPlain (Thing number) = number < 2 ^ 32
IsPlain (LongNumber number) = number < 2 ^ 64
IsPlain (Signed number) = FitsSigned w64 number
IsPlain (Counted number) = (1 ≤ number) × (number ≤ 1000000)

-- a row that has a word, and plain places alone
abbrev pub IsPlainRow : List Place → Type 0
IsPlainRow places = (places ≢ []) × AllByRecursion IsPlain places
