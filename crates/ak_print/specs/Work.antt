-- The words of works and their outcomes, as traces and histories write them.
use Rattle.std.specs.Prelude.{ℕ, List, [], ◌∷◌, codes}
use Rattle.ak_text.specs.Decimal.{decimal_of}
use Rattle.ak_labor.specs.declared.work.WorkKind.{WorkKind}
use Rattle.ak_labor.specs.declared.work.WorkKind.TheVariants.{Square, Mix, Fail}
use Rattle.ak_labor.specs.declared.work.Outcome.{Outcome}
use Rattle.ak_labor.specs.declared.work.Outcome.TheVariants.{Good, Bad}

-- the kind of a work
abbrev pub kind_word : WorkKind → List ℕ
kind_word Square = codes "square"
kind_word Mix = codes "mix"
kind_word Fail = codes "fail"

-- an outcome and its number
abbrev pub outcome_words : Outcome → List (List ℕ)
outcome_words (Good num) = codes "good" ∷ decimal_of num ∷ []
outcome_words (Bad num) = codes "bad" ∷ decimal_of num ∷ []
