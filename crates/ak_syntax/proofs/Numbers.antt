-- The number of a word.
use Rattle.std.proofs.Common.{◌≡◌, ℕ, zero, suc, ◌≤◌, ◌^◌, ◌-◌, Bool, true, false, ◌&&◌, nat_le, nat_lt, cond, if◌then◌else◌, Option, Some, None, MatchOption, IfSome, List, length, ℤ, pos, neg_ℤ, FitsSigned, w64, refl, sym, ap, arith}
use Rattle.std.proofs.lemmas.Int.{ints}
use Rattle.std.specs.List.{list_all}
use Rattle.ak_text.specs.Numbers.{Writes, has_minus, is_digit, without_minus, digits_value, signed_value}
use Rattle.ak_syntax.specs.Words.{number_of, fits_i64}

abbrev signed : Bool → ℕ → ℤ
signed minus value = if minus then neg_ℤ (pos value) else pos value

abbrev limit : Bool → ℕ
limit minus = if minus then 2 ^ 63 else 2 ^ 63 - 1

fits_then : (minus : Bool) (value : ℕ) → nat_le value (limit minus) ≡ true → FitsSigned w64 (signed minus value)
fits_then true zero h = omega (arith, ints)
fits_then true (suc value) h = let small : suc value ≤ 2 ^ 63 = grind arith in omega (arith, ints)
fits_then false value h = let small : value ≤ 2 ^ 63 - 1 = grind arith in omega (arith, ints)

then_fits : (minus : Bool) (value : ℕ) → FitsSigned w64 (signed minus value) → nat_le value (limit minus) ≡ true
then_fits true zero h = refl
then_fits true (suc value) h = grind (arith, ints)
then_fits false value h = grind (arith, ints)

-- the word has the form of a number, and its number is an `i64`
abbrev is_written : List ℕ → Bool
is_written word = list_all is_digit (without_minus word) && nat_lt 0 (length (without_minus word)) && fits_i64 word

and_true : (a b c : Bool) → (a && b && c) ≡ true → (a ≡ true) × (b ≡ true) × (c ≡ true)
and_true true true true h = (refl, refl, refl)
and_true true true false h = cc
and_true true false c h = cc
and_true false b c h = cc

all_true : (a b c : Bool) → a ≡ true → b ≡ true → c ≡ true → (a && b && c) ≡ true
all_true a b c h k l = rw (h, k, l) refl

pub written : (word : List ℕ) → is_written word ≡ true → Writes word (signed_value word) × FitsSigned w64 (signed_value word)
written word h = let parts = and_true (list_all is_digit (without_minus word)) (nat_lt 0 (length (without_minus word))) (fits_i64 word) h in
    (((grind arith, parts.0), refl), fits_then (has_minus word) (digits_value (without_minus word)) parts.2)

pub writing : (word : List ℕ) (n : ℤ) → Writes word n → FitsSigned w64 n → is_written word ≡ true
writing word n h fits =
    let small : FitsSigned w64 (signed_value word) = rw (h.1) fits in
    all_true (list_all is_digit (without_minus word)) (nat_lt 0 (length (without_minus word))) (fits_i64 word) (h.0.1) (grind arith)
    (then_fits (has_minus word) (digits_value (without_minus word)) small)

pub number_some : (word : List ℕ) (n : ℤ) → Writes word n → FitsSigned w64 n → number_of word ≡ Some n
unfolding number_of
number_some word n h fits = rw (writing word n h fits) (ap Some (h.1))

pub number_reads : (word : List ℕ) (n : ℤ) → number_of word ≡ Some n → Writes word n × FitsSigned w64 n
unfolding number_of
number_reads word n h = of (is_written word) refl h
  where
    of : (b : Bool) → is_written word ≡ b → cond b (Some (signed_value word)) None ≡ Some n → Writes word n × FitsSigned w64 n
    of true e h = let same : signed_value word ≡ n = cc in let w = written word e in ((w.0.0, same), rw (sym same) w.1)
    of false e h = cc

pub number_none : (word : List ℕ) → number_of word ≡ None → (n : ℤ) → FitsSigned w64 n → Writes word n → ⊥
number_none word h n fits w = let some = number_some word n w fits in cc

pub no_number : (word : List ℕ) → ((n : ℤ) → FitsSigned w64 n → Writes word n → ⊥) → number_of word ≡ None
no_number word h = of (number_of word) refl
  where
    of : (o : Option ℤ) → number_of word ≡ o → number_of word ≡ None
    of None e = e
    of (Some n) e = let r = number_reads word n e in absurd (h n r.1 r.0)

-- what reading a number gives
pub number_is : (word : List ℕ) (o : Option ℤ) → MatchOption o ((n : ℤ) → FitsSigned w64 n → Writes word n → ⊥) (λ n. Writes word n)
    → IfSome o (λ n. FitsSigned w64 n) → o ≡ number_of word
number_is word None h fits = sym (no_number word h)
number_is word (Some n) h fits = sym (number_some word n h fits)
