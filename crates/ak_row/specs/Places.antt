-- Rows: lines of a written text, word by word.
use Rattle.std.specs.Prelude.{◌≡◌, ℕ, ◌<◌, ◌≤◌, ◌^◌, false, List, [], ◌∷◌, ℤ, pos, FitsSigned, codes}
use Rattle.std.specs.Int.{w64}
use Rattle.std.specs.List.{AllZip}
use Rattle.ak_text.specs.Lines.{TextLine, words_of, has_bad_byte}
use Rattle.ak_text.specs.Numbers.{Writes}
use Rattle.ak_labor.specs.declared.work.Outcome.{Outcome}
use Rattle.ak_labor.specs.declared.work.Outcome.TheVariants.{Good, Bad}

-- what one word of a row stands for
pub data Place : Type 0 where
  -- these very bytes
  Exactly : List ℕ → Place
  -- the number of a thing, which counts from 0
  Thing : ℕ → Place
  -- the number of a job or of a request, which counts from 0
  LongNumber : ℕ → Place
  -- a number with a sign
  Signed : ℤ → Place
  -- how many times, one to 1,000,000
  Counted : ℕ → Place

-- the word stands for that: a number lies in the range of its place, and the word writes it
abbrev pub Stands : Place → List ℕ → Type 0
Stands (Exactly bytes) word = word ≡ bytes
Stands (Thing number) word = (number < 2 ^ 32) × Writes word (pos number)
Stands (LongNumber number) word = (number < 2 ^ 64) × Writes word (pos number)
Stands (Signed number) word = FitsSigned w64 number × Writes word number
Stands (Counted number) word = (1 ≤ number) × (number ≤ 1000000) × Writes word (pos number)

-- the line has no bad byte, and its words are those of the places
pub record IsRow (places : List Place) (line : TextLine) : Type 0 where
  pub good : has_bad_byte line.text ≡ false
  pub words : AllZip Stands places (words_of line.text)

-- the words of an outcome
abbrev pub outcome_places : Outcome → List Place
outcome_places (Good number) = Exactly (codes "good") ∷ Signed number ∷ []
outcome_places (Bad number) = Exactly (codes "bad") ∷ Signed number ∷ []
