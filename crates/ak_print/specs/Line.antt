-- The text of a line of words. As bytes 32 is a space and 10 the end of a line.
use Rattle.std.specs.Prelude.{ℕ, List, [], ◌∷◌, ◌++◌}

-- the words of a line with one space between each two, and its end
abbrev pub line_text : List (List ℕ) → List ℕ
line_text [] = 10 ∷ []
line_text (word ∷ []) = word ++ 10 ∷ []
line_text (word ∷ next ∷ words) = word ++ 32 ∷ line_text (next ∷ words)
