-- Where a trace ends. Own.
use Rattle.std.specs.Prelude.{List, [], ◌∷◌, ◌++◌, ◌≡◌}
use Rattle.std.specs.List.{AllByRecursion}
use Rattle.ak_trace.specs.declared.entry.Entry.{Entry}
use Rattle.ak_trace.specs.declared.entry.Entry.TheVariants as entry
use Rattle.ak_trace.specs.declared.entry.Ending.{Ending}

-- an entry that is no end
abbrev pub IsNoEnd : Entry → Type 0
IsNoEnd (entry.End why) = ⊥
IsNoEnd e = Unit {0}

-- the end stands once, as the last entry
pub record EndsOnce (trace : List Entry) : Type 0 where
  pub before : List Entry
  pub why : Ending
  pub last : trace ≡ before ++ entry.End why ∷ []
  pub once : AllByRecursion IsNoEnd before
