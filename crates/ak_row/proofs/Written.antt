-- The lines and words of rows as they are written.
use Rattle.std.proofs.Common.{◌≡◌, ℕ, zero, suc, ◌-◌, Bool, true, false, not, ◌&&◌, ◌||◌, ◌==◌, List, [], ◌∷◌, ◌++◌, length, get_or, map, refl, ap, ◌∙◌, arith, append_assoc}
use Rattle.std.specs.List.{list_all, position_or_len, before_first, join_with_byte}
use Rattle.std.specs.Str.Lines.{strip_carriage_return}
use Rattle.std.proofs.lemmas.List.{take_all}
use Rattle.ak_text.specs.Lines.{pieces, is_line_feed, lines_of, begins_comment, is_word_byte, is_blank, is_not_empty, is_gap, words_of, has_bad_byte}
use Rattle.ak_print.specs.Line.{line_text}
use Rattle.ak_print.proofs.Joined.{line-joined}
use Rattle.ak_row.specs.Plain.{is_plain_byte, is_plain_word}

-- ---- lists
pub both_true : (a b : Bool) → (a && b) ≡ true → (a ≡ true) × (b ≡ true)
both_true true true h = (refl, refl)
both_true true false h = cc
both_true false b h = cc

pub and_true : (a b : Bool) → a ≡ true → b ≡ true → (a && b) ≡ true
and_true a b h k = rw (h, k) refl

pub all_of_append : (p : ℕ → Bool) (xs ys : List ℕ) → list_all p xs ≡ true → list_all p ys ≡ true → list_all p (xs ++ ys) ≡ true
all_of_append p [] ys h k = k
all_of_append p (x ∷ xs) ys h k = let parts = both_true (p x) (list_all p xs) h in
    and_true (p x) (list_all p (xs ++ ys)) parts.0 (all_of_append p xs ys parts.1 k)

pub all_weaker : (p q : ℕ → Bool) → ((x : ℕ) → p x ≡ true → q x ≡ true) → (xs : List ℕ) → list_all p xs ≡ true → list_all q xs ≡ true
all_weaker p q w [] h = refl
all_weaker p q w (x ∷ xs) h = let parts = both_true (p x) (list_all p xs) h in and_true (q x) (list_all q xs) (w x parts.0) (all_weaker p q w xs parts.1)

-- ---- pieces
abbrev misses : (ℕ → Bool) → ℕ → Bool
misses ends byte = not (ends byte)

missed : (b : Bool) → not b ≡ true → b ≡ false
missed true h = cc
missed false h = refl

pub piece_up_to : (ends : ℕ → Bool) (piece : List ℕ) (stop : ℕ) (rest : List ℕ) → list_all (misses ends) piece ≡ true → ends stop ≡ true
    → pieces ends (piece ++ stop ∷ rest) ≡ piece ∷ pieces ends rest
piece_up_to ends [] stop rest h e = rw e refl
piece_up_to ends (byte ∷ piece) stop rest h e =
    let parts = both_true (misses ends byte) (list_all (misses ends) piece) h in
    let no : ends byte ≡ false = missed (ends byte) parts.0 in
    rw (no, piece_up_to ends piece stop rest parts.1 e) refl

pub piece_alone : (ends : ℕ → Bool) (byte : ℕ) (piece : List ℕ) → list_all (misses ends) (byte ∷ piece) ≡ true
    → pieces ends (byte ∷ piece) ≡ (byte ∷ piece) ∷ []
piece_alone ends byte [] h =
    let parts = both_true (misses ends byte) true h in
    let no : ends byte ≡ false = missed (ends byte) parts.0 in
    rw no refl
piece_alone ends byte (next ∷ piece) h =
    let parts = both_true (misses ends byte) (list_all (misses ends) (next ∷ piece)) h in
    let no : ends byte ≡ false = missed (ends byte) parts.0 in
    rw (no, piece_alone ends next piece parts.1) refl

-- ---- lines of plain bytes
-- a byte of a plain word, or the space between two
abbrev pub is_row_byte : ℕ → Bool
is_row_byte byte = is_plain_byte byte || (byte == 32)

no_line_feed : (byte : ℕ) → is_row_byte byte ≡ true → misses is_line_feed byte ≡ true
no_line_feed byte h = grind arith

no_comment : (byte : ℕ) → is_row_byte byte ≡ true → misses begins_comment byte ≡ true
no_comment byte h = grind arith

no_bad : (byte : ℕ) → is_row_byte byte ≡ true → (is_word_byte byte || is_blank byte) ≡ true
no_bad byte h = grind arith

no_return : (byte : ℕ) → is_row_byte byte ≡ true → (byte == 13) ≡ false
no_return byte h = grind arith

plain_in_row : (byte : ℕ) → is_plain_byte byte ≡ true → is_row_byte byte ≡ true
plain_in_row byte h = rw h refl

plain_no_gap : (byte : ℕ) → is_plain_byte byte ≡ true → misses is_gap byte ≡ true
plain_no_gap byte h = grind arith

pub none_bad : (line : List ℕ) → list_all is_row_byte line ≡ true → has_bad_byte line ≡ false
none_bad [] h = refl
none_bad (byte ∷ line) h =
    let parts = both_true (is_row_byte byte) (list_all is_row_byte line) h in
    rw (no_bad byte parts.0) (none_bad line parts.1)

at_most_row : (line : List ℕ) (k : ℕ) → list_all is_row_byte line ≡ true → (get_or line k 0 == 13) ≡ false
at_most_row [] k h = refl
at_most_row (byte ∷ line) zero h = no_return byte (both_true (is_row_byte byte) (list_all is_row_byte line) h).0
at_most_row (byte ∷ line) (suc k) h = at_most_row line k (both_true (is_row_byte byte) (list_all is_row_byte line) h).1

pub stays : (line : List ℕ) → list_all is_row_byte line ≡ true → strip_carriage_return line ≡ line
stays line h = rw (at_most_row line (length line - 1) h) refl

passed_over : (p : ℕ → Bool) (line : List ℕ) → list_all (misses p) line ≡ true → position_or_len p line ≡ length line
passed_over p [] h = refl
passed_over p (byte ∷ line) h =
    let parts = both_true (misses p byte) (list_all (misses p) line) h in
    rw (parts.0) (omega (arith, passed_over p line parts.1))

pub no_comment_in : (line : List ℕ) → list_all is_row_byte line ≡ true → before_first begins_comment line ≡ line
no_comment_in line h =
    rw (passed_over begins_comment line (all_weaker is_row_byte (misses begins_comment) no_comment line h))
    (take_all (length line) line (omega arith))

pub line_up_to : (line rest : List ℕ) → list_all is_row_byte line ≡ true → lines_of (line ++ 10 ∷ rest) ≡ line ∷ lines_of rest
line_up_to line rest h =
    ap (map strip_carriage_return) (piece_up_to is_line_feed line 10 rest (all_weaker is_row_byte (misses is_line_feed) no_line_feed line h) refl)
    ∙ ap (λ (l : List ℕ). l ∷ lines_of rest) (stays line h)

-- ---- plain words
abbrev pub AllPlain : List (List ℕ) → Type 0
AllPlain [] = Unit {0}
AllPlain (word ∷ words) = (is_plain_word word ≡ true) × AllPlain words

plain_parts : (word : List ℕ) → is_plain_word word ≡ true → (is_not_empty word ≡ true) × (list_all is_plain_byte word ≡ true)
plain_parts word h = both_true (is_not_empty word) (list_all is_plain_byte word) h

-- the words with a space between each two
abbrev pub joined : List (List ℕ) → List ℕ
joined words = join_with_byte 32 words

pub joined_bytes : (words : List (List ℕ)) → AllPlain words → list_all is_row_byte (joined words) ≡ true
joined_bytes [] h = refl
joined_bytes (word ∷ []) h = all_weaker is_plain_byte is_row_byte plain_in_row word (plain_parts word h.0).1
joined_bytes (word ∷ next ∷ words) h =
    all_of_append is_row_byte word (32 ∷ joined (next ∷ words))
    (all_weaker is_plain_byte is_row_byte plain_in_row word (plain_parts word h.0).1) (joined_bytes (next ∷ words) h.1)

one_word : (word : List ℕ) → is_plain_word word ≡ true → words_of word ≡ word ∷ []
one_word [] h = cc
one_word (byte ∷ word) h =
    rw (
      piece_alone is_gap byte word
          (all_weaker is_plain_byte (misses is_gap) plain_no_gap (byte ∷ word) (plain_parts (byte ∷ word) h).1),
      (plain_parts (byte ∷ word) h).0,
    ) refl

pub joined_words : (words : List (List ℕ)) → AllPlain words → words_of (joined words) ≡ words
joined_words [] h = refl
joined_words (word ∷ []) h = one_word word h.0
joined_words (word ∷ next ∷ words) h =
    let parts = plain_parts word h.0 in
    let cut : pieces is_gap (word ++ 32 ∷ joined (next ∷ words)) ≡ word ∷ pieces is_gap (joined (next ∷ words)) =
    piece_up_to is_gap word 32 (joined (next ∷ words)) (all_weaker is_plain_byte (misses is_gap) plain_no_gap word parts.1) refl in
    rw (cut, parts.0) (ap (λ (ws : List (List ℕ)). word ∷ ws) (joined_words (next ∷ words) h.1))

-- the text of a line in front of others
pub line_then : (words : List (List ℕ)) (rest : List ℕ) → line_text words ++ rest ≡ joined words ++ 10 ∷ rest
line_then words rest = ap (λ (l : List ℕ). l ++ rest) (line-joined words) ∙ append_assoc (joined words) (10 ∷ []) rest
