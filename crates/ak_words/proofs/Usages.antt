-- The place of a usage fault is one.
use Rattle.std.proofs.Common.{◌≡◌, ℕ, zero, suc, ◌+◌, ◌<◌, ◌≤◌, List, [], ◌∷◌, ◌++◌, take, drop, refl, sym, ap, ◌∙◌, subst, arith, append_assoc}
use Rattle.std.proofs.lemmas.List.{take-append-drop}
use Rattle.ak_words.specs.Words.{IsCommand, BeginsCommand, IsUsageFault}

-- words that begin a command do so with fewer of them
begins_shorter : (words more : List (List ℕ)) → BeginsCommand (words ++ more) → BeginsCommand words
begins_shorter words more begins =
    (more ++ begins.0, subst (λ (ws : List (List ℕ)). IsCommand ws) (append_assoc words more begins.0) begins.1)

take_within : (i j : ℕ) (xs : List (List ℕ)) → i ≤ j → take i (take j xs) ≡ take i xs
take_within zero j xs h = refl
take_within (suc i) zero xs h = absurd (omega arith)
take_within (suc i) (suc j) [] h = refl
take_within (suc i) (suc j) (x ∷ xs) h = ap (λ (ys : List (List ℕ)). x ∷ ys) (take_within i j xs (omega arith))

-- of two places the later one begins with the earlier one's words, and with the word behind them
not_before : (words : List (List ℕ)) (place other : ℕ) → place < other → IsUsageFault words place → IsUsageFault words other → ⊥
not_before words place other before fault at_other =
    let split : take other words ≡ take (place + 1) words ++ drop (place + 1) (take other words) =
    sym (take-append-drop (place + 1) (take other words))
    ∙ ap (λ (ws : List (List ℕ)). ws ++ drop (place + 1) (take other words)) (take_within (place + 1) other words (omega arith)) in
    fault.wrong (omega (arith, at_other.within))
    (begins_shorter (take (place + 1) words) (drop (place + 1) (take other words))
    (subst (λ (ws : List (List ℕ)). BeginsCommand ws) split at_other.before))

pub IsUsageFault-unique : (words : List (List ℕ)) (place other : ℕ) → IsUsageFault words place → IsUsageFault words other → other ≡ place
IsUsageFault-unique words place other fault at_other =
    let later : (place < other) → ⊥ = λ h. not_before words place other h fault at_other in
    let earlier : (other < place) → ⊥ = λ h. not_before words other place h at_other fault in
    omega arith
