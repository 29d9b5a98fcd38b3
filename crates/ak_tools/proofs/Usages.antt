-- The place of a usage fault is one.
use Rattle.std.proofs.Common.{◌≡◌, ℕ, zero, suc, ◌+◌, ◌<◌, ◌≤◌, List, [], ◌∷◌, ◌++◌, length, take, drop, get_or, refl, sym, ap, ◌∙◌, subst, arith, append_assoc}
use Rattle.std.proofs.lemmas.List.{take-append-drop}
use Rattle.ak_tools.specs.declared.status.ToolStatus.{ToolStatus}
use Rattle.ak_tools.specs.declared.status.ToolStatus.TheVariants.{Usage}
use Rattle.ak_tools.specs.declared.words.Tool.{Tool}
use Rattle.ak_tools.specs.declared.words.Tool.TheVariants.{Let}
use Rattle.ak_tools.specs.Words.{BeginsTool, IsTool, IsUsageFault, Means, word_of}

-- ---- which words are a fault
-- a tool is one word
not_two : (tool : Tool) (first second : List ℕ) (rest : List (List ℕ)) → Means (first ∷ second ∷ rest) tool → ⊥
not_two tool first second rest h = absurd (cc h)

pub empty_fault : IsUsageFault [] 0
empty_fault = record {
  no_tool = λ h. let wrong : [] ≡ word_of h.0 ∷ [] = h.1 in absurd cc;
  within = omega arith;
  before = (word_of Let ∷ [], (Let, refl));
  wrong = λ less begins. absurd (omega (arith, less));
}

pub other_fault : (first : List ℕ) (rest : List (List ℕ)) → ((tool : Tool) → first ≡ word_of tool → ⊥) → IsUsageFault (first ∷ rest) 0
other_fault first rest other = record {
  no_tool = λ h. not_named first rest other h.0 h.1;
  within = omega arith;
  before = (word_of Let ∷ [], (Let, refl));
  wrong = λ less begins. not_named first begins.0 other begins.1.0 begins.1.1;
}
  where
    not_named : (first : List ℕ) (rest : List (List ℕ)) → ((tool : Tool) → first ≡ word_of tool → ⊥) → (tool : Tool) → Means (first ∷ rest) tool → ⊥
    not_named first rest other tool h = other tool cc

pub further_fault : (tool : Tool) (second : List ℕ) (rest : List (List ℕ)) → IsUsageFault (word_of tool ∷ second ∷ rest) 1
further_fault tool second rest = record {
  no_tool = λ h. not_two h.0 (word_of tool) second rest h.1;
  within = omega arith;
  before = ([], (tool, refl));
  wrong = λ less begins. not_two begins.1.0 (word_of tool) second begins.0 begins.1.1;
}

-- ---- words by their first
pub none_first : (words : List (List ℕ)) → length words < 1 → words ≡ []
none_first [] h = refl
none_first (x ∷ xs) h = absurd (omega (arith, h))

pub with_first : (words : List (List ℕ)) (first : List ℕ) → 1 ≤ length words → first ≡ get_or words 0 first
    → (rest : List (List ℕ)) × (words ≡ first ∷ rest)
with_first [] first h is = absurd (omega (arith, h))
with_first (x ∷ xs) first h is = (xs, ap (λ (y : List ℕ). y ∷ xs) (sym is))

-- ---- no two places
-- words that begin a tool do so with fewer of them
begins_shorter : (words more : List (List ℕ)) → BeginsTool (words ++ more) → BeginsTool words
begins_shorter words more begins =
    (more ++ begins.0, subst (λ (ws : List (List ℕ)). IsTool ws) (append_assoc words more begins.0) begins.1)

take_within : (i j : ℕ) (xs : List (List ℕ)) → i ≤ j → take i (take j xs) ≡ take i xs
take_within zero j xs h = refl
take_within (suc i) zero xs h = absurd (omega arith)
take_within (suc i) (suc j) [] h = refl
take_within (suc i) (suc j) (x ∷ xs) h = ap (λ (ys : List (List ℕ)). x ∷ ys) (take_within i j xs (omega arith))

-- of two places the later one begins with the earlier one's words, and with the word behind them
not_before : (words : List (List ℕ)) (place other : ℕ) → place < other → IsUsageFault words place → IsUsageFault words other → ⊥
not_before words place other before fault at_other =
    let split : take other words ≡ take (place + 1) words ++ drop (place + 1) (take other words) =
    sym (take-append-drop (place + 1) (take other words))
    ∙ ap (λ (ws : List (List ℕ)). ws ++ drop (place + 1) (take other words)) (take_within (place + 1) other words (omega arith)) in
    fault.wrong (omega (arith, at_other.within))
    (begins_shorter (take (place + 1) words) (drop (place + 1) (take other words))
    (subst (λ (ws : List (List ℕ)). BeginsTool ws) split at_other.before))

one_place : (words : List (List ℕ)) (place other : ℕ) → IsUsageFault words place → IsUsageFault words other → other ≡ place
one_place words place other fault at_other =
    let later : (place < other) → ⊥ = λ h. not_before words place other h fault at_other in
    let earlier : (other < place) → ⊥ = λ h. not_before words other place h at_other fault in
    omega arith

-- a status that tells the place of a usage fault tells no other place
pub usage_told : (words : List (List ℕ)) (at place : ℕ) (status : ToolStatus) → status ≡ Usage at → IsUsageFault words at
    → (status ≡ Usage place → IsUsageFault words place) × (IsUsageFault words place → status ≡ Usage place)
usage_told words at place status told fault = (
  (λ is. let same : at ≡ place = cc (told, is) in subst (λ (p : ℕ). IsUsageFault words p) same fault),
  (λ other. told ∙ ap Usage (sym (one_place words at place fault other))),
)
