-- Works in a trace: each outcome is that of a work, once. Own.
use Rattle.std.specs.Prelude.{ℕ, ◌≡◌, List, length, find, Bool, false, ◌==◌, Option, Some, None}
use Rattle.std.specs.List.{AllByRecursion, list_any, filter_map}
use Rattle.ak_labor.specs.declared.work.Work.{Work}
use Rattle.ak_labor.specs.declared.work.Outcome.{Outcome}
use Rattle.ak_labor.specs.Value.{value_of}
use Rattle.ak_labor.specs.Calls.{Reply}
use Rattle.ak_labor.specs.Waits.{pairs_in}
use Rattle.ak_trace.specs.declared.entry.Entry.{Entry}
use Rattle.ak_trace.specs.declared.entry.Entry.TheVariants as entry
use Rattle.ak_laws.specs.Places.{Each}

abbrev pub submitted_by : Entry → Option (ℕ × Work)
submitted_by (entry.Submit id kind num) = Some (id, record { kind = kind; num = num })
submitted_by e = None

-- the works that are submitted, with their numbers, in order
abbrev pub submitted : List Entry → List (ℕ × Work)
submitted entries = filter_map submitted_by entries

abbrev pub is_arrival_of : ℕ → Entry → Bool
is_arrival_of id (entry.Arrive other outcome) = other == id
is_arrival_of id e = false

-- an outcome is the value of the work, where there is one
abbrev pub IsValue : Option (ℕ × Work) → Outcome → Type 0
IsValue None outcome = ⊥
IsValue (Some w) outcome = outcome ≡ value_of w.1

-- numbers of works count from 0; what arrives was submitted before, with its value, and does not arrive again
abbrev pub IsDone : List Entry → Entry → List Entry → Type 0
IsDone before (entry.Submit id kind num) after = id ≡ length (submitted before)
IsDone before (entry.Arrive id outcome) after =
    IsValue (find (λ w. w.0 == id) (submitted before)) outcome × (list_any (is_arrival_of id) after ≡ false)
IsDone before e after = Unit {0}

-- works are numbered as they are submitted, and each arrives at most once, after its submit and with its value
abbrev pub WorksArriveOnce : List Entry → Type 0
WorksArriveOnce trace = Each IsDone trace

-- an outcome is that of the work, where there is one
abbrev pub IsOutcomeOf : Option (ℕ × Work) → Outcome → Type 0
IsOutcomeOf None outcome = Unit {0}
IsOutcomeOf (Some w) outcome = outcome ≡ value_of w.1

-- each work that a reply brings has its value, by what the trace submits under its number
abbrev pub BringsValues : List Entry → Reply → Type 0
BringsValues trace reply =
    AllByRecursion (λ pair. IsOutcomeOf (find (λ w. w.0 == pair.0) (submitted trace)) pair.1) (pairs_in reply)
