-- A text whose last line has an end. Own.
use Rattle.std.specs.Prelude.{ℕ, List, [], ◌∷◌, ◌++◌, if◌then◌else◌}
use Rattle.ak_record.specs.Walks.{ends_line}

-- the text, with an end of its last line where it has none
abbrev pub with_line_end : List ℕ → List ℕ
with_line_end bytes = if ends_line bytes then bytes else bytes ++ 10 ∷ []
