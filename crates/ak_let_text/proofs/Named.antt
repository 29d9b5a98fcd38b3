-- The names of procedures and locals are names.
use Rattle.std.proofs.Common.{ℕ, zero, suc, ◌<◌, ◌≤◌, ◌^◌, ◌≡◌, Bool, true, false, ◌&&◌, ◌==◌, List, [], ◌∷◌, length, nat_le, refl, ap, ◌∙◌, arith, rules, decimal, lit≤}
use Rattle.std.specs.List.{list_all}
use Rattle.std.proofs.lemmas.Bool.{le-leb, ne_eqb}
use Rattle.std.proofs.lemmas.Fmt.{digits_decimal, length-decimal-le}
use Rattle.std.proofs.lemmas.Str.Parse.{IsNumeralModel, numerals_by_weight}
use Rattle.ak_text.specs.Numbers.{is_digit, digits_value}
use Rattle.ak_row.specs.Plain.{is_plain_byte}
use Rattle.ak_syntax.specs.Names.{is_name_byte}
use Rattle.ak_let_text.specs.Named.{proc_name, local_name}
use Rattle.ak_let_text.proofs.Forms.{IsShortName}

own : IsNumeralModel (λ ds. list_all is_digit ds ≡ true) digits_value
own = numerals_by_weight _ (search rules) digits_value (search rules)

both : (a b : Bool) → a ≡ true → b ≡ true → (a && b) ≡ true
both a b e f = ap (λ x. x && b) e ∙ f

first : (a b : Bool) → (a && b) ≡ true → (a ≡ true) × (b ≡ true)
first true b e = (refl, e)
first false b e = (e, absurd cc)

weaker : (p q : ℕ → Bool) → ((x : ℕ) → p x ≡ true → q x ≡ true) → (xs : List ℕ) → list_all p xs ≡ true → list_all q xs ≡ true
weaker p q h [] a = refl
weaker p q h (x ∷ xs) a =
    let s = first (p x) (list_all p xs) a
    in both (q x) (list_all q xs) (h x s.0) (weaker p q h xs s.1)

digit_in_name : (byte : ℕ) → is_digit byte ≡ true → is_name_byte byte ≡ true
digit_in_name byte h = grind arith

digit_is_plain : (byte : ℕ) → is_digit byte ≡ true → is_plain_byte byte ≡ true
digit_is_plain byte h = grind arith

digits : (n : ℕ) → n < 2 ^ 32 → list_all is_digit (decimal n) ≡ true
digits n b = digits_decimal own n (omega (arith, b))

short : (n : ℕ) → n < 2 ^ 32 → length (decimal n) ≤ 10
short n b = length-decimal-le 10 n (omega arith) (omega (arith, b)) (omega (arith, b))

-- the rest of a name is digits
pub local_is_name : (n : ℕ) → n < 2 ^ 32 → IsShortName (local_name n)
local_is_name n b =
    let e0 : (suc (length (decimal n)) == 0) ≡ false = ne_eqb (suc (length (decimal n))) 0 (λ e. omega (arith, e))
    in let e1 : list_all is_plain_byte (decimal n) ≡ true = weaker is_digit is_plain_byte digit_is_plain (decimal n) (digits n b)
    in let e2 : list_all is_name_byte (decimal n) ≡ true = weaker is_digit is_name_byte digit_in_name (decimal n) (digits n b)
    in let e3 : nat_le (suc (length (decimal n))) 32 ≡ true = le-leb (suc (length (decimal n))) 32 (omega (arith, short n b))
    in (rw (e0, e1), rw (e2, e3), omega (arith, short n b))

pub proc_is_name : (n : ℕ) → n < 2 ^ 32 → IsShortName (proc_name n)
proc_is_name zero b = (refl, refl, lit≤ tt)
proc_is_name (suc n) b =
    let e0 : (suc (length (decimal (suc n))) == 0) ≡ false = ne_eqb (suc (length (decimal (suc n)))) 0 (λ e. omega (arith, e))
    in let e1 : list_all is_plain_byte (decimal (suc n)) ≡ true = weaker is_digit is_plain_byte digit_is_plain (decimal (suc n)) (digits (suc n) b)
    in let e2 : list_all is_name_byte (decimal (suc n)) ≡ true = weaker is_digit is_name_byte digit_in_name (decimal (suc n)) (digits (suc n) b)
    in let e3 : nat_le (suc (length (decimal (suc n)))) 32 ≡ true = le-leb (suc (length (decimal (suc n)))) 32 (omega (arith, short (suc n) b))
    in (rw (e0, e1), rw (e2, e3), omega (arith, short (suc n) b))
