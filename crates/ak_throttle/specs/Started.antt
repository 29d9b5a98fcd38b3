-- Which of the bodies that started are over, in order of their numbers.
use Rattle.std.specs.Prelude.{ℕ, List, [], ◌∷◌, Bool, true, not}

-- for each body that started, whether it is over, and for how many more there is room
pub record Started : Type 0 where
  pub overs : List Bool
  pub spare : ℕ

-- whether a body of which this is known is over
abbrev pub is_marked_over : Bool → Bool
is_marked_over over = over

-- whether the first body runs, where there is one
abbrev pub is_first_running : List Bool → Bool
is_first_running [] = true
is_first_running (over ∷ overs) = not over
