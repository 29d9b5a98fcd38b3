-- The numbers that words write.
use Rattle.std.specs.Prelude.{◌≡◌, ℕ, ◌+◌, ◌-◌, ◌*◌, ◌^◌, ◌<◌, Bool, true, ◌==◌, ◌&&◌, nat_le, List, [], ◌∷◌, length, drop, slice_index, ℤ, pos, neg_ℤ, if◌then◌else◌}
use Rattle.std.specs.List.{list_all}

abbrev pub has_minus : List ℕ → Bool
has_minus word = slice_index word 0 == 45

-- a word without the minus in front
abbrev pub without_minus : List ℕ → List ℕ
without_minus word = if has_minus word then drop 1 word else word

abbrev pub is_digit : ℕ → Bool
is_digit byte = nat_le 48 byte && nat_le byte 57

-- one decimal digit or more
abbrev pub AreDigits : List ℕ → Type 0
AreDigits bytes = (0 < length bytes) × (list_all is_digit bytes ≡ true)

-- each digit times the power of ten of its place
abbrev pub digits_value : List ℕ → ℕ
digits_value [] = 0
digits_value (digit ∷ digits) = (digit - 48) * 10 ^ length digits + digits_value digits

-- the number behind a minus or none
abbrev pub signed_value : List ℕ → ℤ
signed_value word = if has_minus word then neg_ℤ (pos (digits_value (without_minus word))) else pos (digits_value (without_minus word))

-- the word is a minus or none, and then digits, which write the number
abbrev pub Writes : List ℕ → ℤ → Type 0
Writes word number = AreDigits (without_minus word) × (signed_value word ≡ number)
