-- The least of some kinds, by their numbers. Own.
use Rattle.std.specs.Prelude.{ℕ, nat_lt, Option, Some, None, List, [], ◌∷◌, if◌then◌else◌}

-- the lesser of two kinds that may be there
abbrev pub lesser_by : {K : Type 0} → (K → ℕ) → Option K → Option K → Option K
lesser_by number None b = b
lesser_by number (Some a) None = Some a
lesser_by number (Some a) (Some b) = Some (if nat_lt (number b) (number a) then b else a)

-- the least of some kinds
abbrev pub least_by : {K : Type 0} → (K → ℕ) → List K → Option K
least_by number [] = None
least_by number (kind ∷ kinds) = lesser_by number (Some kind) (least_by number kinds)
