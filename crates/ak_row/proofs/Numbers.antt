-- The numbers of words: what is found is what the word writes, in the range of its place.
use Rattle.std.proofs.Common.{◌≡◌, ℕ, ◌<◌, ◌≤◌, ◌^◌, ◌-◌, Bool, true, false, ◌&&◌, nat_le, nat_lt, cond, Option, Some, None, MatchOption, IfSome, List, length, ℤ, pos, negsuc, FitsSigned, w64, refl, sym, ap, ◌∙◌, arith}
use Rattle.std.proofs.lemmas.Int.{ints}
use Rattle.std.specs.List.{list_all}
use Rattle.ak_base.specs.Numbers.{fits}
use Rattle.ak_text.specs.Numbers.{Writes, is_digit, without_minus, signed_value}
use Rattle.ak_row.specs.Parts.{◌>>=◌, written, within, thing_of, long_of, count_of, signed_within, signed_of}

-- ---- of any size
abbrev is_number : List ℕ → Bool
is_number word = list_all is_digit (without_minus word) && nat_lt 0 (length (without_minus word))

both_true : (a b : Bool) → (a && b) ≡ true → (a ≡ true) × (b ≡ true)
both_true true true h = (refl, refl)
both_true true false h = cc
both_true false b h = cc

pub written_reads : (word : List ℕ) (z : ℤ) → written word ≡ Some z → Writes word z
written_reads word z h = of (is_number word) refl h
  where
    of : (b : Bool) → is_number word ≡ b → cond b (Some (signed_value word)) None ≡ Some z → Writes word z
    of true e h = let parts = both_true (list_all is_digit (without_minus word)) (nat_lt 0 (length (without_minus word))) e in
        let same : signed_value word ≡ z = cc in ((grind arith, parts.0), same)
    of false e h = cc

pub written_is : (word : List ℕ) (z : ℤ) → Writes word z → written word ≡ Some z
written_is word z h =
    let digits : list_all is_digit (without_minus word) ≡ true = h.0.1 in
    let some : nat_lt 0 (length (without_minus word)) ≡ true = grind arith in
    rw (digits, some) (ap Some h.1)

-- ---- in a range
between : (least most n : ℕ) → (nat_le least n && nat_le n most) ≡ true → (least ≤ n) × (n ≤ most)
between least most n h = let parts = both_true (nat_le least n) (nat_le n most) h in (grind arith, grind arith)

pub within_reads : (least most : ℕ) (o : Option ℤ) (n : ℕ) → within least most o ≡ Some n → (o ≡ Some (pos n)) × (least ≤ n) × (n ≤ most)
within_reads least most (Some (pos m)) n h = of (nat_le least m && nat_le m most) refl h
  where
    of : (b : Bool) → (nat_le least m && nat_le m most) ≡ b → cond b (Some m) None ≡ Some n → (Some (pos m) ≡ Some (pos n)) × (least ≤ n) × (n ≤ most)
    of true e h = let same : m ≡ n = cc in
        let range = between least most m e in (ap (λ (k : ℕ). Some (pos k)) same, rw (sym same) range.0, rw (sym same) range.1)
    of false e h = cc
within_reads least most (Some (negsuc m)) n h = cc
within_reads least most None n h = cc

pub within_is : (least most : ℕ) (o : Option ℤ) (n : ℕ) → o ≡ Some (pos n) → least ≤ n → n ≤ most → within least most o ≡ Some n
within_is least most o n e low high =
    let above : nat_le least n ≡ true = grind arith in
    let below : nat_le n most ≡ true = grind arith in
    ap (within least most) e ∙ rw (above, below) refl

-- a narrower range
abbrev again : ℕ → ℕ → ℕ → Option ℕ
again least most n = within least most (Some (pos n))

not_wide : (least most n : ℕ) → (nat_le least n && nat_le n most) ≡ false → (low high : ℕ) → least ≤ low → high ≤ most → (nat_le low n && nat_le n high) ≡ false
not_wide least most n h low high p q = grind arith

pub narrower : (least most low high : ℕ) → least ≤ low → high ≤ most → (o : Option ℤ) → within low high o ≡ (within least most o >>= again low high)
narrower least most low high p q (Some (pos n)) = of (nat_le least n && nat_le n most) refl
  where
    of : (b : Bool) → (nat_le least n && nat_le n most) ≡ b → within low high (Some (pos n)) ≡ (cond b (Some n) None >>= again low high)
    of true e = refl
    of false e = rw (not_wide least most n e low high p q) refl
narrower least most low high p q (Some (negsuc n)) = refl
narrower least most low high p q None = refl

pub thing_by_long : (word : List ℕ) → thing_of word ≡ (long_of word >>= again 0 (2 ^ 32 - 1))
unfolding thing_of long_of
thing_by_long word = narrower 0 (2 ^ 64 - 1) 0 (2 ^ 32 - 1) (omega arith) (omega arith) (written word)

pub count_by_thing : (word : List ℕ) → count_of word ≡ (thing_of word >>= again 1 1000000)
unfolding thing_of count_of
count_by_thing word = narrower 0 (2 ^ 32 - 1) 1 1000000 (omega arith) (omega arith) (written word)

-- ---- numbers of jobs, as `read_u64` reads them
pub long_reads : (word : List ℕ) (n : ℕ) → long_of word ≡ Some n → (n < 2 ^ 64) × Writes word (pos n)
unfolding long_of
long_reads word n h = let r = within_reads 0 (2 ^ 64 - 1) (written word) n h in (omega (arith, r.2), written_reads word (pos n) r.0)

pub long_some : (word : List ℕ) (n : ℕ) → n < 2 ^ 64 → Writes word (pos n) → long_of word ≡ Some n
unfolding long_of
long_some word n small w = within_is 0 (2 ^ 64 - 1) (written word) n (written_is word (pos n) w) (omega arith) (omega arith)

pub long_is : (word : List ℕ) (o : Option ℕ) → MatchOption o ((n : ℕ) → n < 2 ^ 64 → Writes word (pos n) → ⊥) (λ n. Writes word (pos n))
    → IfSome o (λ n. n < 2 ^ 64) → o ≡ long_of word
long_is word None h fits = of (long_of word) refl
  where
    of : (o : Option ℕ) → long_of word ≡ o → None ≡ o
    of None e = refl
    of (Some n) e = let r = long_reads word n e in absurd (h n r.0 r.1)
long_is word (Some n) h fits = sym (long_some word n fits h)

-- ---- numbers with a sign, as `read_num` reads them
fits_then : (z : ℤ) → fits z ≡ true → FitsSigned w64 z
fits_then (pos n) h = let small : n < 2 ^ 63 = grind arith in omega (arith, ints)
fits_then (negsuc n) h = let small : n < 2 ^ 63 = grind arith in omega (arith, ints)

then_fits : (z : ℤ) → FitsSigned w64 z → fits z ≡ true
then_fits (pos n) h = let small : n < 2 ^ 63 = omega (arith, ints) in grind arith
then_fits (negsuc n) h = let small : n < 2 ^ 63 = omega (arith, ints) in grind arith

signed_within_reads : (o : Option ℤ) (z : ℤ) → signed_within o ≡ Some z → (o ≡ Some z) × FitsSigned w64 z
signed_within_reads (Some y) z h = of (fits y) refl h
  where
    of : (b : Bool) → fits y ≡ b → cond b (Some y) None ≡ Some z → (Some y ≡ Some z) × FitsSigned w64 z
    of true e h = let same : y ≡ z = cc in (ap Some same, rw (sym same) (fits_then y e))
    of false e h = cc
signed_within_reads None z h = cc

pub signed_reads : (word : List ℕ) (z : ℤ) → signed_of word ≡ Some z → FitsSigned w64 z × Writes word z
unfolding signed_of
signed_reads word z h = let r = signed_within_reads (written word) z h in (r.1, written_reads word z r.0)

pub signed_some : (word : List ℕ) (z : ℤ) → FitsSigned w64 z → Writes word z → signed_of word ≡ Some z
unfolding signed_of
signed_some word z fits w = ap signed_within (written_is word z w) ∙ rw (then_fits z fits) refl

pub signed_is : (word : List ℕ) (o : Option ℤ) → MatchOption o ((z : ℤ) → FitsSigned w64 z → Writes word z → ⊥) (λ z. Writes word z)
    → IfSome o (λ z. FitsSigned w64 z) → o ≡ signed_of word
signed_is word None h fits = of (signed_of word) refl
  where
    of : (o : Option ℤ) → signed_of word ≡ o → None ≡ o
    of None e = refl
    of (Some z) e = let r = signed_reads word z e in absurd (h z r.0 r.1)
signed_is word (Some z) h fits = sym (signed_some word z fits h)

-- ---- things and counts
pub thing_reads : (word : List ℕ) (n : ℕ) → thing_of word ≡ Some n → (n < 2 ^ 32) × Writes word (pos n)
unfolding thing_of
thing_reads word n h = let r = within_reads 0 (2 ^ 32 - 1) (written word) n h in (omega (arith, r.2), written_reads word (pos n) r.0)

pub thing_some : (word : List ℕ) (n : ℕ) → n < 2 ^ 32 → Writes word (pos n) → thing_of word ≡ Some n
unfolding thing_of
thing_some word n small w = within_is 0 (2 ^ 32 - 1) (written word) n (written_is word (pos n) w) (omega arith) (omega arith)

pub count_reads : (word : List ℕ) (n : ℕ) → count_of word ≡ Some n → (1 ≤ n) × (n ≤ 1000000) × Writes word (pos n)
unfolding count_of
count_reads word n h = let r = within_reads 1 1000000 (written word) n h in (r.1, r.2, written_reads word (pos n) r.0)

pub count_some : (word : List ℕ) (n : ℕ) → 1 ≤ n → n ≤ 1000000 → Writes word (pos n) → count_of word ≡ Some n
unfolding count_of
count_some word n low high w = within_is 1 1000000 (written word) n (written_is word (pos n) w) low high
