-- How a text is walked, line by line. Of no concern to a caller.
use Rattle.std.specs.Prelude.{ℕ, ◌<◌, ◌≤◌, ◌==◌, ◌≡◌, ◌⊎◌, Bool, true, List, [], ◌∷◌, ◌++◌, length, take, drop}
use Rattle.ak_record.specs.Cuts.{whole_lines}

-- whether a text is empty or has a line end last
abbrev pub ends_line : List ℕ → Bool
ends_line [] = true
ends_line (byte ∷ []) = byte == 10
ends_line (byte ∷ next ∷ bytes) = ends_line (next ∷ bytes)

-- the first line of the text has so many bytes, its line end among them
pub record IsFirstLine (bytes : List ℕ) (n : ℕ) : Type 0 where
  pub some : 0 < n
  pub within : n ≤ length bytes
  pub line : whole_lines bytes ≡ take n bytes ∷ whole_lines (drop n bytes)
  pub alone : whole_lines (take n bytes) ≡ take n bytes ∷ []
  pub ends : (ends_line (take n bytes) ≡ true) ⊎ (n ≡ length bytes)

-- the first bytes of the text are these lines
pub record IsWalked (bytes : List ℕ) (end : ℕ) (before : List (List ℕ)) : Type 0 where
  pub within : end ≤ length bytes
  pub lines : whole_lines bytes ≡ before ++ whole_lines (drop end bytes)
  pub walked : whole_lines (take end bytes) ≡ before
  pub few : length before ≤ end
  pub ends : (ends_line (take end bytes) ≡ true) ⊎ (end ≡ length bytes)
