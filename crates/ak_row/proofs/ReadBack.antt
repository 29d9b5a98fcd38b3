-- Rows that were written are read back, each from a line of its own.
use Rattle.std.proofs.Common.{◌≡◌, ◌≢◌, ℕ, suc, ◌+◌, ◌<◌, ◌^◌, Bool, true, false, not, ◌||◌, ◌==◌, List, [], ◌∷◌, ◌++◌, length, map, flat_map, ℤ, pos, negsuc, FitsSigned, w64, refl, sym, ap, subst, arith, rules}
use Rattle.std.specs.Prelude.{decimal}
use Rattle.std.specs.List.{list_all, filter, AllZip, AllByRecursion}
use Rattle.std.proofs.lemmas.Int.{ints}
use Rattle.std.proofs.lemmas.Fmt.{decimal_nonempty, digits_decimal, digits_value-decimal}
use Rattle.std.proofs.lemmas.Str.Parse.{IsNumeralModel, numerals_by_weight}
use Rattle.ak_text.specs.Decimal.{decimal_of}
use Rattle.ak_text.specs.Lines.{TextLine, text_lines, numbered, lines_of, words_of, has_bad_byte, is_not_empty, counts, counting_lines}
use Rattle.ak_text.specs.Numbers.{Writes, has_minus, is_digit, digits_value}
use Rattle.ak_row.specs.Places.{Place, Exactly, Thing, LongNumber, Signed, Counted, Stands, IsRow}
use Rattle.ak_row.specs.Plain.{place_word, row_text, is_plain_byte, is_plain_word, IsPlain, IsPlainRow}
use Rattle.ak_row.proofs.Written.{both_true, and_true, all_weaker, AllPlain, joined, joined_bytes, joined_words, none_bad, no_comment_in, line_up_to, line_then}

-- ---- numbers in decimal
own : IsNumeralModel (λ ds. list_all is_digit ds ≡ true) digits_value
own = numerals_by_weight _ (search rules) digits_value (search rules)

digit_no_minus : (byte : ℕ) → is_digit byte ≡ true → (byte == 45) ≡ false
digit_no_minus byte h = grind arith

no_minus : (digits : List ℕ) → list_all is_digit digits ≡ true → has_minus digits ≡ false
no_minus [] h = refl
no_minus (byte ∷ digits) h = digit_no_minus byte (both_true (is_digit byte) (list_all is_digit digits) h).0

digits_write : (digits : List ℕ) (n : ℕ) → 0 < length digits → list_all is_digit digits ≡ true → digits_value digits ≡ n → Writes digits (pos n)
digits_write digits n some all value =
    let plain : has_minus digits ≡ false = no_minus digits all in
    rw plain ((some, all), ap pos value)

pub decimal_writes : (n : ℕ) → n < 2 ^ 64 → Writes (decimal n) (pos n)
decimal_writes n small = digits_write (decimal n) n (decimal_nonempty n small) (digits_decimal own n small) (digits_value-decimal own n small)

pub signed_writes : (z : ℤ) → FitsSigned w64 z → Writes (decimal_of z) z
signed_writes (pos n) h = decimal_writes n (omega (arith, ints))
signed_writes (negsuc n) h =
    let small : suc n < 2 ^ 64 = omega (arith, ints) in
    let value : digits_value (decimal (suc n)) ≡ suc n = digits_value-decimal own (suc n) small in
    ((decimal_nonempty (suc n) small, digits_decimal own (suc n) small), rw value refl)

-- ---- plain places
digit_is_plain : (byte : ℕ) → is_digit byte ≡ true → is_plain_byte byte ≡ true
digit_is_plain byte h = grind arith

not_empty : (word : List ℕ) → 0 < length word → is_not_empty word ≡ true
not_empty [] h = absurd (omega arith)
not_empty (byte ∷ word) h = grind arith

decimal_plain : (n : ℕ) → n < 2 ^ 64 → is_plain_word (decimal n) ≡ true
decimal_plain n small =
    and_true (is_not_empty (decimal n)) (list_all is_plain_byte (decimal n)) (not_empty (decimal n) (decimal_nonempty n small))
    (all_weaker is_digit is_plain_byte digit_is_plain (decimal n) (digits_decimal own n small))

signed_plain : (z : ℤ) → FitsSigned w64 z → is_plain_word (decimal_of z) ≡ true
signed_plain (pos n) h = decimal_plain n (omega (arith, ints))
signed_plain (negsuc n) h =
    let small : suc n < 2 ^ 64 = omega (arith, ints) in
    and_true (is_not_empty (45 ∷ decimal (suc n))) (list_all is_plain_byte (45 ∷ decimal (suc n))) (not_empty (45 ∷ decimal (suc n)) (omega arith))
    (all_weaker is_digit is_plain_byte digit_is_plain (decimal (suc n)) (digits_decimal own (suc n) small))

pub plain_word : (place : Place) → IsPlain place → is_plain_word (place_word place) ≡ true
plain_word (Exactly bytes) h = h
plain_word (Thing n) h = decimal_plain n (omega arith)
plain_word (LongNumber n) h = decimal_plain n h
plain_word (Signed z) h = signed_plain z h
plain_word (Counted n) h = decimal_plain n (omega arith)

pub plain_stands : (place : Place) → IsPlain place → Stands place (place_word place)
plain_stands (Exactly bytes) h = refl
plain_stands (Thing n) h = (h, decimal_writes n (omega arith))
plain_stands (LongNumber n) h = (h, decimal_writes n h)
plain_stands (Signed z) h = (h, signed_writes z h)
plain_stands (Counted n) h = (h.0, h.1, decimal_writes n (omega arith))

all_plain : (places : List Place) → AllByRecursion IsPlain places → AllPlain (map place_word places)
all_plain [] h = tt
all_plain (place ∷ places) h = (plain_word place h.0, all_plain places h.1)

all_stand : (places : List Place) → AllByRecursion IsPlain places → AllZip Stands places (map place_word places)
all_stand [] h = tt
all_stand (place ∷ places) h = (plain_stands place h.0, all_stand places h.1)

-- ---- rows
abbrev line_at : ℕ → List ℕ → TextLine
line_at number text = record { number = number; text = text }

row_at : (number : ℕ) (places : List Place) → AllByRecursion IsPlain places → IsRow places (line_at number (joined (map place_word places)))
row_at number places h = record {
  good = none_bad (joined (map place_word places)) (joined_bytes (map place_word places) (all_plain places h));
  words = subst (λ (ws : List (List ℕ)). AllZip Stands places ws) (sym (joined_words (map place_word places) (all_plain places h))) (all_stand places h);
}

row_then : (number : ℕ) (places : List Place) (rest : List ℕ) → AllByRecursion IsPlain places
    → numbered number (lines_of (row_text places ++ rest)) ≡ line_at number (joined (map place_word places)) ∷ numbered (number + 1) (lines_of rest)
row_then number places rest h =
    let words = map place_word places in
    let bytes = joined_bytes words (all_plain places h) in
    rw (line_then words rest, line_up_to (joined words) rest bytes, no_comment_in (joined words) bytes) refl

pub rows_from : (number : ℕ) (rows : List (List Place)) → AllByRecursion IsPlainRow rows
    → AllZip IsRow rows (numbered number (lines_of (flat_map row_text rows)))
rows_from number [] h = tt
rows_from number (places ∷ rows) h =
    subst (λ (lines : List TextLine). AllZip IsRow (places ∷ rows) lines) (sym (row_then number places (flat_map row_text rows) h.0.1))
    (row_at number places h.0.1, rows_from (number + 1) rows h.1)

-- ---- lines that count
words_count : (places : List Place) (words : List (List ℕ)) → places ≢ [] → AllZip Stands places words → not (length words == 0) ≡ true
words_count [] words some h = absurd (some refl)
words_count (place ∷ places) [] some h = absurd h
words_count (place ∷ places) (word ∷ words) some h = grind arith

or_true : (a b : Bool) → b ≡ true → (a || b) ≡ true
or_true true b h = refl
or_true false b h = h

pub row_counts : (places : List Place) (line : TextLine) → places ≢ [] → IsRow places line → counts line ≡ true
row_counts places line some h = or_true (has_bad_byte line.text) (not (length (words_of line.text) == 0)) (words_count places (words_of line.text) some h.words)

all_count : (rows : List (List Place)) (lines : List TextLine) → AllByRecursion IsPlainRow rows → AllZip IsRow rows lines → filter counts lines ≡ lines
all_count [] [] plain h = refl
all_count [] (line ∷ lines) plain h = absurd h
all_count (places ∷ rows) [] plain h = absurd h
all_count (places ∷ rows) (line ∷ lines) plain h =
    rw (row_counts places line plain.0.0 h.0) (ap (λ (ls : List TextLine). line ∷ ls) (all_count rows lines plain.1 h.1))

-- no line is skipped, so that the rows stand in lines 1, 2 and so on
pub none_skipped : (rows : List (List Place)) → AllByRecursion IsPlainRow rows → counting_lines (flat_map row_text rows) ≡ text_lines (flat_map row_text rows)
none_skipped rows h = all_count rows (text_lines (flat_map row_text rows)) h (rows_from 1 rows h)

pub reads_back : (rows : List (List Place)) → AllByRecursion IsPlainRow rows → AllZip IsRow rows (counting_lines (flat_map row_text rows))
reads_back rows h = subst (λ (lines : List TextLine). AllZip IsRow rows lines) (sym (none_skipped rows h)) (rows_from 1 rows h)
