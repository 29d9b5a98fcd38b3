-- What a decimal text is, in words that do not divide.
use Rattle.std.proofs.Common.{◌≡◌, ℕ, ◌<◌, ◌^◌}
use Rattle.std.specs.Fmt.{decimal}
use Rattle.std.specs.Str.Parse.{IsNumeral, digits_value}
use Rattle.std.proofs.lemmas.Fmt.{decimal_is_IsNumeral}

-- It is digits without a leading zero, whose value, each digit times the power of ten of its place, is the number.
pub decimal-reads_back : (n : ℕ) → n < 2 ^ 64 → IsNumeral 10 (decimal n) × (digits_value 10 (decimal n) ≡ n)
decimal-reads_back n small = decimal_is_IsNumeral n small
