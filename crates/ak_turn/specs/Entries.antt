-- Lists of entries. An entry is a pair of a pass number and an event.
use Rattle.std.specs.Prelude.{ℕ, ◌+◌, ◌<◌, ◌^◌, ◌⊎◌, ◌==◌, cond, List, [], ◌∷◌, map, filter, length, Contains}
pub use Rattle.std.specs.List.{AllByRecursion as Each}

module _ {X : Type 0} where
  -- the fact holds of some element
  abbrev pub SomeOf : (X → Type 0) → List X → Type 0
  SomeOf P [] = ⊥
  SomeOf P (x ∷ xs) = P x ⊎ SomeOf P xs

  -- the sum of f over the list
  abbrev pub total : (X → ℕ) → List X → ℕ
  total f [] = 0
  total f (x ∷ xs) = f x + total f xs

-- how often a number stands in a list
abbrev pub times : ℕ → List ℕ → ℕ
times n ns = total (λ m. cond (m == n) 1 0) ns

module _ {E : Type 0} where
  -- the events of the entries
  abbrev pub events : List (ℕ × E) → List E
  events log = map (λ x. x.1) log

  -- the events of the entries with this number
  abbrev pub events_by : ℕ → List (ℕ × E) → List E
  events_by n log = events (filter (λ x. x.0 == n) log)

  -- the entries of these events from the pass of this number
  abbrev pub entries : ℕ → List E → List (ℕ × E)
  entries n es = map (λ e. (n, e)) es

  -- the entry has a number of the list, and the pass of that number may give its event
  abbrev pub IsAllowed : (ℕ → E → Type 0) → List ℕ → ℕ × E → Type 0
  IsAllowed may numbers x = Contains numbers x.0 × may x.0 x.1

  -- each entry is allowed, and there are fewer than 2^63
  abbrev pub IsLog : (ℕ → E → Type 0) → List ℕ → List (ℕ × E) → Type 0
  IsLog may numbers log = Each (IsAllowed may numbers) log × (length log < 2 ^ 63)
