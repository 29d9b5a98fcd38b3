-- Texts that are cut into pieces.
use Rattle.std.proofs.Common.{◌≡◌, ℕ, suc, ◌+◌, ◌<◌, Bool, true, false, not, List, [], ◌∷◌, length, take, drop, Some, None, refl, sym, ap, map, get_or, length-take, drop-cons, add-one, ◌∙◌, arith}
use Rattle.std.specs.List.{position_or_len, position, before_first, after_first, filter}
use Rattle.std.specs.Str.Lines.{strip_carriage_return}
use Rattle.std.proofs.lemmas.List.{drop_all, take_all}
use Rattle.ak_text.specs.Lines.{is_line_feed, lines_of, pieces, words_of, is_gap, is_word_byte, is_not_empty}
use Rattle.std.proofs.lemmas.Grind.{common_steps}
use Rattle.std.proofs.lemmas.List.Sums.{prefix_len-le-length, prefix_len_stops}

pub not_found : {X : Type 0} (p : X → Bool) (xs : List X) → None ≡ position p xs → position_or_len p xs ≡ length xs
not_found p xs e = grind (arith, common_steps, prefix_len-le-length (λ x. not (p x)) xs)

pub found : {X : Type 0} (p : X → Bool) (xs : List X) (n : ℕ) → Some n ≡ position p xs → (n ≡ position_or_len p xs) × (position_or_len p xs < length xs)
found p xs n e = grind (arith, common_steps)

one_later : (ends : ℕ → Bool) (byte : ℕ) (bytes : List ℕ) → ends byte ≡ false → position_or_len ends (byte ∷ bytes) ≡ suc (position_or_len ends bytes)
one_later ends byte bytes e = rw e (omega arith)

after_later : (ends : ℕ → Bool) (byte : ℕ) (bytes : List ℕ) → ends byte ≡ false → after_first ends (byte ∷ bytes) ≡ after_first ends bytes
after_later ends byte bytes e =
    let next : position_or_len ends (byte ∷ bytes) + 1 ≡ suc (position_or_len ends bytes + 1) = omega (arith, one_later ends byte bytes e) in
    rw next refl

before_later : (ends : ℕ → Bool) (byte : ℕ) (bytes : List ℕ) → ends byte ≡ false → before_first ends (byte ∷ bytes) ≡ byte ∷ before_first ends bytes
before_later ends byte bytes e = rw (one_later ends byte bytes e) refl

first_of : (ends : ℕ → Bool) (byte : ℕ) (bytes : List ℕ) (b : Bool) → ends byte ≡ b → (position_or_len ends bytes < length bytes
    → pieces ends bytes ≡ before_first ends bytes ∷ pieces ends (after_first ends bytes))
    → position_or_len ends (byte ∷ bytes) < length (byte ∷ bytes) → pieces ends (byte ∷ bytes) ≡ before_first ends (byte ∷ bytes)
    ∷ pieces ends (after_first ends (byte ∷ bytes))
first_of ends byte bytes true e ih h = rw e refl
first_of ends byte bytes false e ih h =
    let below : position_or_len ends bytes < length bytes = omega (arith, one_later ends byte bytes e) in
    rw (before_later ends byte bytes e, after_later ends byte bytes e, e, ih below) refl

pub first_piece : (ends : ℕ → Bool) (bytes : List ℕ) → position_or_len ends bytes < length bytes
    → pieces ends bytes ≡ before_first ends bytes ∷ pieces ends (after_first ends bytes)
first_piece ends [] h = absurd (omega arith)
first_piece ends (byte ∷ bytes) h = first_of ends byte bytes (ends byte) refl (first_piece ends bytes) h

last_of : (ends : ℕ → Bool) (byte : ℕ) (bytes : List ℕ) (b : Bool) → ends byte ≡ b
    → (0 < length bytes → position_or_len ends bytes ≡ length bytes → pieces ends bytes ≡ bytes ∷ [])
    → position_or_len ends (byte ∷ bytes) ≡ length (byte ∷ bytes) → pieces ends (byte ∷ bytes) ≡ (byte ∷ bytes) ∷ []
last_of ends byte bytes true e ih h = absurd (omega (arith, rw e at h))
last_of ends byte [] false e ih h = rw e refl
last_of ends byte (next ∷ bytes) false e ih h =
    let whole : position_or_len ends (next ∷ bytes) ≡ length (next ∷ bytes) = omega (arith, one_later ends byte (next ∷ bytes) e) in
    rw (e, ih (omega arith) whole) refl

pub last_piece : (ends : ℕ → Bool) (bytes : List ℕ) → 0 < length bytes → position_or_len ends bytes ≡ length bytes → pieces ends bytes ≡ bytes ∷ []
last_piece ends [] l h = absurd (omega arith)
last_piece ends (byte ∷ bytes) l h = last_of ends byte bytes (ends byte) refl (last_piece ends bytes) h

-- the pieces that aren't empty, where p passes the bytes that stand in them
abbrev runs : (ℕ → Bool) → List ℕ → List (List ℕ)
runs p bytes = filter is_not_empty (pieces (λ byte. not (p byte)) bytes)

at_front : (p : ℕ → Bool) (byte : ℕ) (bytes : List ℕ) → p byte ≡ true → position_or_len p (byte ∷ bytes) ≡ 0
at_front p byte bytes e = rw e refl

skip_of : (p : ℕ → Bool) (byte : ℕ) (bytes : List ℕ) (b : Bool) → p byte ≡ b → runs p (drop (position_or_len p bytes) bytes) ≡ runs p bytes
    → runs p (drop (position_or_len p (byte ∷ bytes)) (byte ∷ bytes)) ≡ runs p (byte ∷ bytes)
skip_of p byte bytes true e ih = rw (at_front p byte bytes e) refl
skip_of p byte bytes false e ih = rw (one_later p byte bytes e) (rw e ih)

skip_run : (p : ℕ → Bool) (bytes : List ℕ) → runs p (drop (position_or_len p bytes) bytes) ≡ runs p bytes
skip_run p [] = refl
skip_run p (byte ∷ bytes) = skip_of p byte bytes (p byte) refl (skip_run p bytes)

begins_of : (p : ℕ → Bool) (byte : ℕ) (bytes : List ℕ) (b : Bool) → p byte ≡ b
    → (position_or_len p bytes < length bytes → 0 < position_or_len (λ c. not (p c)) (drop (position_or_len p bytes) bytes))
    → position_or_len p (byte ∷ bytes) < length (byte ∷ bytes) → 0 < position_or_len (λ c. not (p c)) (drop (position_or_len p (byte ∷ bytes)) (byte ∷ bytes))
begins_of p byte bytes true e ih h = rw (at_front p byte bytes e) (rw e (omega arith))
begins_of p byte bytes false e ih h = rw (one_later p byte bytes e) (ih (omega (arith, one_later p byte bytes e)))

begins_run : (p : ℕ → Bool) (bytes : List ℕ) → position_or_len p bytes < length bytes
    → 0 < position_or_len (λ c. not (p c)) (drop (position_or_len p bytes) bytes)
begins_run p [] h = absurd (omega arith)
begins_run p (byte ∷ bytes) h = begins_of p byte bytes (p byte) refl (begins_run p bytes) h

-- a text without words
pub no_word : (text : List ℕ) → None ≡ position is_word_byte text → words_of text ≡ []
no_word text e = sym (skip_run is_word_byte text) ∙ (rw (not_found is_word_byte text e) (rw (drop_all (length text) text (omega arith)) refl))

-- what stands before the first word
pub skip_gap : (text : List ℕ) (start : ℕ) → Some start ≡ position is_word_byte text
    → (words_of text ≡ words_of (drop start text)) × (0 < position_or_len is_gap (drop start text))
skip_gap text start e = let at = found is_word_byte text start e in
    rw (at.0) (sym (skip_run is_word_byte text), begins_run is_word_byte text at.1)

not_empty : (xs : List ℕ) → 0 < length xs → is_not_empty xs ≡ true
not_empty [] h = absurd (omega arith)
not_empty (x ∷ xs) h = grind (arith, common_steps)

abbrev others : (ℕ → Bool) → ℕ → Bool
others p byte = not (p byte)

at_gap : (p : ℕ → Bool) (byte : ℕ) (bytes : List ℕ) → others p byte ≡ true → runs p (byte ∷ bytes) ≡ runs p bytes
at_gap p byte bytes e = rw e refl

middle_run : (p : ℕ → Bool) (text : List ℕ) → 0 < position_or_len (others p) text → position_or_len (others p) text < length text
    → runs p text ≡ take (position_or_len (others p) text) text ∷ runs p (drop (position_or_len (others p) text) text)
middle_run p text h below =
    let some : is_not_empty (take (position_or_len (others p) text) text) ≡ true =
    not_empty _ (omega (arith, length-take (position_or_len (others p) text) text)) in
    let gap : others p (get_or text (position_or_len (others p) text) 0) ≡ true = grind (arith, prefix_len_stops (λ x. not (others p x)) text 0 below) in
    rw (first_piece (others p) text below) (rw some (ap (λ (rest : List (List ℕ)). take (position_or_len (others p) text) text ∷ rest)
    (sym (rw (drop-cons text (position_or_len (others p) text) 0 below) (rw add-one (at_gap p _ _ gap))))))

last_run : (p : ℕ → Bool) (text : List ℕ) → 0 < position_or_len (others p) text → position_or_len (others p) text ≡ length text
    → runs p text ≡ take (position_or_len (others p) text) text ∷ runs p (drop (position_or_len (others p) text) text)
last_run p text h whole =
    let some : is_not_empty text ≡ true = not_empty _ (omega arith) in
    rw (last_piece (others p) text (omega arith) whole)
    (rw some (rw (whole, take_all (length text) text (omega arith), drop_all (length text) text (omega arith)) refl))

-- the first word, where the text begins with it, and what follows
pub first_word : (text word rest : List ℕ) (end : ℕ) → 0 < position_or_len is_gap text → Some end ≡ position is_gap text
    → word ≡ take end text → rest ≡ drop end text
    → words_of text ≡ word ∷ words_of rest
first_word text word rest end h e w r = let at = found is_gap text end e in
    rw (w, r, at.0) (middle_run is_word_byte text h at.1)

pub only_word : (text : List ℕ) → 0 < position_or_len is_gap text → None ≡ position is_gap text → words_of text ≡ text ∷ []
only_word text h e = let whole = not_found is_gap text e in
    last_run is_word_byte text h whole ∙ rw (whole, take_all (length text) text (omega arith), drop_all (length text) text (omega arith)) refl

-- the first line, which LF ends, and what follows
pub first_line_of : (text line rest : List ℕ) (end : ℕ) → Some end ≡ position is_line_feed text
    → line ≡ strip_carriage_return (take end text) → rest ≡ drop (end + 1) text
    → lines_of text ≡ line ∷ lines_of rest
first_line_of text line rest end e l r = let at = found is_line_feed text end e in
    rw (l, r, at.0) (ap (map strip_carriage_return) (first_piece is_line_feed text at.1))

pub only_line : (text : List ℕ) → 0 < length text → None ≡ position is_line_feed text → lines_of text ≡ strip_carriage_return text ∷ []
only_line text h e = ap (map strip_carriage_return) (last_piece is_line_feed text h (not_found is_line_feed text e))
