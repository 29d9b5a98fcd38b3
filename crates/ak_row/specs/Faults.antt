-- What is wrong with lines of rows: the first bad one.
use Rattle.std.specs.Prelude.{◌≡◌, ℕ, List, ◌∷◌, ◌++◌}
use Rattle.std.specs.List.{AllZip}
use Rattle.ak_text.specs.Lines.{TextLine}

-- the number of the first line that fits nothing, where each of the lines has to fit something
pub record IsFirstBad {A : Type 0} (Fits : A → TextLine → Type 0) (lines : List TextLine) (number : ℕ) : Type 0 where
  pub fitting : List A
  pub before : List TextLine
  pub line : TextLine
  pub after : List TextLine
  pub split : lines ≡ before ++ line ∷ after
  pub fit : AllZip Fits fitting before
  pub bad : (x : A) → Fits x line → ⊥
  pub at : number ≡ line.number
