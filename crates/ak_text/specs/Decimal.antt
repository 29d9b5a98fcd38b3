-- The decimal text of a number: digits without leading zeros, which std's `decimal` gives, and a minus before those of
-- a negative number. As a byte 45 is the minus.
use Rattle.std.specs.Prelude.{ℕ, suc, List, ◌∷◌, ℤ, pos, negsuc, decimal}

-- the decimal text of a number with a sign; `negsuc n` is the negative of n + 1
abbrev pub decimal_of : ℤ → List ℕ
decimal_of (pos n) = decimal n
decimal_of (negsuc n) = 45 ∷ decimal (suc n)
