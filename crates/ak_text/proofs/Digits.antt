-- What `parse` reads of decimal digits.
use Rattle.std.proofs.Common.{◌≡◌, ℕ, zero, suc, ◌<◌, ◌^◌, true, List, [], ◌∷◌, length, Result, Ok, Err, arith, rules}
use Rattle.std.proofs.lemmas.Str.Parse.{IsNumeralModel, numerals_by_weight, parse_digits}
use Rattle.std.specs.List.{list_all}
use Rattle.std.specs.Option.{SomeIff}
use Rattle.std.specs.Result.{result_ok, OkIff}
use Rattle.std.specs.Str.{IsAscii}
use Rattle.std.specs.Str.Parse.{ParsesUnsigned}
use Rattle.ak_text.specs.Numbers.{is_digit, digits_value, AreDigits}

own : IsNumeralModel (λ ds. list_all is_digit ds ≡ true) digits_value
own = numerals_by_weight _ (search rules) digits_value (search rules)

-- digits are ASCII
pub digits_are_ascii : (bs : List ℕ) → list_all is_digit bs ≡ true → IsAscii bs
digits_are_ascii [] h i = omega arith
digits_are_ascii (b ∷ bs) h zero = grind arith
digits_are_ascii (b ∷ bs) h (suc i) = digits_are_ascii bs (grind arith) i

from_ok : {E : Type 0} (bs : List ℕ) (r : Result ℕ E) → list_all is_digit bs ≡ true → OkIff r ((0 < length bs) × (digits_value bs < 2 ^ 64)) (digits_value bs)
    → SomeIff (result_ok r) (AreDigits bs × (digits_value bs < 2 ^ 64)) (digits_value bs)
from_ok bs (Ok n) all h = (((h.0.0, all), h.0.1), h.1)
from_ok bs (Err e) all h = λ p. h (p.0.0, p.1)

-- the number that `parse` gives is the value
pub digits_read : {E : Type 0} (bs : List ℕ) (r : Result ℕ E) → list_all is_digit bs ≡ true → ParsesUnsigned 64 10 bs r
    → SomeIff (result_ok r) (AreDigits bs × (digits_value bs < 2 ^ 64)) (digits_value bs)
digits_read bs r all h = from_ok bs r all (parse_digits own 64 bs r h all)
