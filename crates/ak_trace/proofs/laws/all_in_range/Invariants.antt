use Rattle.std.proofs.Common.{take}
use Rattle.std.specs.List.{AllByRecursion}
use Rattle.ak_trace.specs.Reading.{IsInRange}
use Rattle.ak_trace.proofs.laws.all_in_range.Given as goal

-- the entries before
abbrev pub invariant-loop-entry : goal.invariant-loop-entry
invariant-loop-entry l = AllByRecursion IsInRange (take l.entry-index l.entries)
