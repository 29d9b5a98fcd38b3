-- The works that are out, as a run keeps them.
use Rattle.std.specs.Prelude.{ℕ, ◌+◌, ◌≡◌, List, [], ◌∷◌, ◌++◌, map, Option, Some, None}
use Rattle.std.specs.Map.{values_of}
use Rattle.ak_base.specs.declared.number.Ctx.{Ctx}
use Rattle.ak_base.specs.Numbers.{AreNumbered}
use Rattle.ak_machine.specs.declared.held.Outstanding.{Outstanding}

-- the works in order of their numbers, and the number of the next one
pub record WorksOut : Type 0 where
  pub out : List Outstanding
  pub next : ℕ

abbrev pub no_works : WorksOut
no_works = record { out = []; next = 0 }

-- one more, for a deferred
abbrev pub with_work : ℕ → Ctx → Option ℕ → WorksOut → WorksOut
with_work to ctx helper w =
    record { out = w.out ++ record { number = w.next; to = to; ctx = ctx; helper = helper } ∷ []; next = w.next + 1 }

abbrev pub number_of : Outstanding → ℕ
number_of work = work.number

-- a work under its number
abbrev pub under_number : Outstanding → ℕ × Outstanding
under_number work = (work.number, work)

-- how many of these works are for helpers
abbrev pub helped_by : Option ℕ → ℕ
helped_by None = 0
helped_by (Some h) = 1

abbrev pub helped_among : List Outstanding → ℕ
helped_among [] = 0
helped_among (work ∷ works) = helped_by work.helper + helped_among works

-- the map keeps works under their numbers, which are below the next one, and so many of them are for helpers
pub record AreKept (next helped : ℕ) (entries : List (ℕ × Outstanding)) : Type 0 where
  pub numbered : AreNumbered number_of 0 next (values_of entries)
  pub under : entries ≡ map under_number (values_of entries)
  pub counted : helped ≡ helped_among (values_of entries)
