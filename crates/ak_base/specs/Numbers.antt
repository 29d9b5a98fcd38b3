-- Numbers of 64 bits, and things in order of their numbers. Own.
use Rattle.std.specs.Prelude.{ℕ, ℤ, pos, negsuc, ◌+◌, ◌<◌, ◌≤◌, ◌^◌, nat_lt, Bool, List, [], ◌∷◌}

-- whether a number has 64 bits with its sign
abbrev pub fits : ℤ → Bool
fits (pos n) = nat_lt n (2 ^ 63)
fits (negsuc n) = nat_lt n (2 ^ 63)

-- the numbers of these things rise, from one on and below another
abbrev pub AreNumbered : {A : Type 0} → (A → ℕ) → ℕ → ℕ → List A → Type 0
AreNumbered number low high [] = Unit
AreNumbered number low high (x ∷ xs) =
    (low ≤ number x) × (number x < high) × AreNumbered number (number x + 1) high xs
