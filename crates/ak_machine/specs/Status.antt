-- What the last entries of a trace say of the run. Own.
use Rattle.std.specs.Prelude.{ℤ, List, ◌∷◌, reverse}
use Rattle.ak_trace.specs.declared.entry.Entry.{Entry}
use Rattle.ak_trace.specs.declared.entry.Entry.TheVariants as entry
use Rattle.ak_trace.specs.declared.entry.Ending.TheVariants as ending

-- how a run ended
pub data Stat : Type 0 where
  -- nothing was left to do, or the script stopped it
  Well : Stat
  -- by an error that no monitor caught
  ByError : ℤ → Stat
  -- at the limit of jobs
  AtJobLimit : Stat
  -- with works that no thread can do
  Stuck : Stat
  -- the trace has no end
  Unfinished : Stat

-- of the entries, the last one first
abbrev pub status_back : List Entry → Stat
status_back (entry.End ending.Idle ∷ entries) = Well
status_back (entry.End ending.Stopped ∷ entries) = Well
status_back (entry.End ending.Unhandled ∷ entry.Unhandled e ∷ entries) = ByError e
status_back (entry.End ending.Jobs ∷ entries) = AtJobLimit
status_back (entry.End ending.Stuck ∷ entries) = Stuck
status_back entries = Unfinished

-- the status of a trace
abbrev pub status_of : List Entry → Stat
status_of trace = status_back (reverse trace)
