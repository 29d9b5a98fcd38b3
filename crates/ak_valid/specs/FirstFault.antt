-- The first line at fault and the least of its kinds, as a reader finds them in a list of lines. Own.
use Rattle.std.specs.Prelude.{◌≡◌, ◌≤◌, ℕ, List, [], ◌∷◌, ◌++◌}
use Rattle.std.specs.List.{AllByRecursion, Any}
use Rattle.ak_valid.specs.Faults.{Line, kind_number}

-- no line before it has a fault; the kind is that of one of its faults, and no fault of it has a lesser one
pub record IsFirstFault (lines : List Line) (line kind : ℕ) : Type 0 where
  pub before : List Line
  pub here : Line
  pub after : List Line
  pub placed : lines ≡ before ++ here ∷ after
  pub none_before : AllByRecursion (λ other. other.faults ≡ []) before
  pub number : line ≡ here.number
  pub of_one : Any (λ fault. kind ≡ kind_number fault) here.faults
  pub least : AllByRecursion (λ fault. kind ≤ kind_number fault) here.faults
