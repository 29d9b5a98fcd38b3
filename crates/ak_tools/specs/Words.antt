-- The words of the tools, and the place at which words stop being one. Own.
use Rattle.std.specs.Prelude.{ℕ, ◌+◌, ◌<◌, ◌≤◌, List, [], ◌∷◌, ◌++◌, ◌≡◌, length, take, codes}
use Rattle.ak_tools.specs.declared.words.Tool.{Tool}
use Rattle.ak_tools.specs.declared.words.Tool.TheVariants.{Let}

-- the first word of a tool
abbrev pub word_of : Tool → List ℕ
word_of Let = codes "let"

-- the words are the tool
abbrev pub Means : List (List ℕ) → Tool → Type 0
Means words tool = words ≡ word_of tool ∷ []

-- the words are a tool
abbrev pub IsTool : List (List ℕ) → Type 0
IsTool words = (tool : Tool) × Means words tool

-- further words, or none, make a tool of these
abbrev pub BeginsTool : List (List ℕ) → Type 0
BeginsTool words = (rest : List (List ℕ)) × IsTool (words ++ rest)

-- the words are no tool: those before the place begin one, and with the word at the place they begin none; where all of
-- them begin one, the place is behind them
pub record IsUsageFault (words : List (List ℕ)) (place : ℕ) : Type 0 where
  pub no_tool : IsTool words → ⊥
  pub within : place ≤ length words
  pub before : BeginsTool (take place words)
  pub wrong : place < length words → BeginsTool (take (place + 1) words) → ⊥
