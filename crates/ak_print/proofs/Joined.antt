-- The text of a line in std's words.
use Rattle.std.proofs.Common.{◌≡◌, ℕ, List, [], ◌∷◌, ◌++◌, refl, ap, sym, ◌∙◌, append_assoc}
use Rattle.std.specs.List.{join_with_byte}
use Rattle.ak_print.specs.Line.{line_text}

-- It is the words joined by a space, and a line end.
pub line-joined : (words : List (List ℕ)) → line_text words ≡ join_with_byte 32 words ++ 10 ∷ []
line-joined [] = refl
line-joined (word ∷ []) = refl
line-joined (word ∷ next ∷ words) =
    ap (λ (rest : List ℕ). word ++ 32 ∷ rest) (line-joined (next ∷ words))
    ∙ sym (append_assoc word (32 ∷ join_with_byte 32 (next ∷ words)) (10 ∷ []))
