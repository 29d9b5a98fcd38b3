-- How a reader takes the words of a row, one after the other: each part gives what it finds and the words that are
-- left, or nothing. The laws of `proofs/Parts` connect these with the places.
use Rattle.std.specs.Prelude.{◌≡◌, ℕ, ◌-◌, ◌^◌, Bool, ◌&&◌, nat_le, nat_lt, Option, Some, None, List, [], ◌∷◌, length, ℤ, pos, negsuc, codes, if◌then◌else◌}
use Rattle.std.specs.List.{list_all, find}
use Rattle.std.specs.Str.{bytes_eq}
use Rattle.ak_base.specs.Numbers.{fits}
use Rattle.ak_text.specs.Lines.{TextLine, words_of, has_bad_byte}
use Rattle.ak_text.specs.Numbers.{is_digit, without_minus, signed_value}
use Rattle.ak_labor.specs.declared.work.WorkKind.{WorkKind}
use Rattle.ak_labor.specs.declared.work.WorkKind.TheVariants.{Square, Mix, Fail}
use Rattle.ak_print.specs.Work.{kind_word}
use Rattle.ak_labor.specs.declared.work.Outcome.{Outcome}
use Rattle.ak_labor.specs.declared.work.Outcome.TheVariants.{Good, Bad}

-- what stands at the front of the words
abbrev pub Part : Type 0 → Type 0
Part T = List (List ℕ) → Option (T × List (List ℕ))

-- the answer, seen by view, and the words that are left are what is found
abbrev pub Leaves : {X Y : Type 0} → (X → Y) → Option X → List (List ℕ) → Option (Y × List (List ℕ)) → Type 0
Leaves view (Some x) left found = found ≡ Some (view x, left)
Leaves view None left found = found ≡ None

infixl 10 ◌>>=◌
abbrev pub ◌>>=◌ : {A B : Type 0} → Option A → (A → Option B) → Option B
(Some x) >>= f = f x
None >>= f = None

-- one part behind another
abbrev pub both : {A B : Type 0} → Part A → Part B → Part (A × B)
both first second words = first words >>= λ a. second a.1 >>= λ b. Some ((a.0, b.0), b.1)

abbrev pub mapped : {A B : Type 0} → (A → B) → Part A → Part B
mapped f part words = part words >>= λ a. Some (f a.0, a.1)

-- ---- single words
abbrev pub word_at : Part (List ℕ)
word_at [] = None
word_at (word ∷ words) = Some (word, words)

abbrev pub end_at : Part (Unit {0})
end_at [] = Some (tt, [])
end_at (word ∷ words) = None

-- the next word, by what it stands for
abbrev pub found_at : {T : Type 0} → (List ℕ → Option T) → Part T
found_at found words = word_at words >>= λ w. found w.0 >>= λ x. Some (x, w.1)

-- the number that a word writes, of any size
abbrev pub written : List ℕ → Option ℤ
written word = if list_all is_digit (without_minus word) && nat_lt 0 (length (without_minus word)) then Some (signed_value word) else None

-- the number from the least to the most
abbrev pub within : ℕ → ℕ → Option ℤ → Option ℕ
within least most (Some (pos number)) = if nat_le least number && nat_le number most then Some number else None
within least most (Some (negsuc number)) = None
within least most None = None

unfoldable pub thing_of : List ℕ → Option ℕ
thing_of word = within 0 (2 ^ 32 - 1) (written word)

unfoldable pub long_of : List ℕ → Option ℕ
long_of word = within 0 (2 ^ 64 - 1) (written word)

unfoldable pub count_of : List ℕ → Option ℕ
count_of word = within 1 1000000 (written word)

abbrev pub signed_within : Option ℤ → Option ℤ
signed_within (Some number) = if fits number then Some number else None
signed_within None = None

unfoldable pub signed_of : List ℕ → Option ℤ
signed_of word = signed_within (written word)

abbrev pub all_kinds : List WorkKind
all_kinds = Square ∷ Mix ∷ Fail ∷ []

unfoldable pub kind_of : List ℕ → Option WorkKind
kind_of word = find (λ kind. bytes_eq (kind_word kind) word) all_kinds

unfoldable pub thing_at : Part ℕ
thing_at = found_at thing_of

unfoldable pub long_at : Part ℕ
long_at = found_at long_of

unfoldable pub count_at : Part ℕ
count_at = found_at count_of

unfoldable pub signed_at : Part ℤ
signed_at = found_at signed_of

unfoldable pub kind_at : Part WorkKind
kind_at = found_at kind_of

-- an outcome: two words
abbrev pub outcome_from : List ℕ → Part Outcome
outcome_from word = if bytes_eq word (codes "good") then mapped Good signed_at else
    (if bytes_eq word (codes "bad") then mapped Bad signed_at else (λ words. None))

unfoldable pub outcome_at : Part Outcome
outcome_at words = word_at words >>= λ w. outcome_from w.0 w.1

-- ---- lines
-- a part and the end behind it
abbrev pub whole : {T : Type 0} → Part T → List (List ℕ) → Option T
whole part words = part words >>= λ a. end_at a.1 >>= λ u. Some a.0

-- the words of a line, where none of its bytes is bad
unfoldable pub row_words : TextLine → Option (List (List ℕ))
row_words line = if has_bad_byte line.text then None else Some (words_of line.text)
