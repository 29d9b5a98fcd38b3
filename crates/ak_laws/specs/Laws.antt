-- The laws that the trace of every run of a sound program obeys, whatever the replies are. Own.
use Rattle.std.specs.Prelude.{ℕ, List}
use Rattle.ak_trace.specs.declared.entry.Entry.{Entry}
use Rattle.ak_laws.specs.Ends.{EndsOnce}
use Rattle.ak_holders.specs.Fills.{FillsOnce}
use Rattle.ak_laws.specs.Jobs.{JobsInOrder, CyclesAreLimited}
use Rattle.ak_laws.specs.Requests.{RequestsAreServed}
use Rattle.ak_laws.specs.Errors.{ErrorsGoUp}

-- a trace obeys them, where at most so many jobs of each priority run in a cycle
pub record ObeysLaws (limit : ℕ) (trace : List Entry) : Type 0 where
  -- the end stands once, as the last entry
  pub ends_once : EndsOnce trace
  -- jobs are numbered as they are enqueued, run once they are, and those of a priority run in that order
  pub jobs_in_order : JobsInOrder trace
  -- in each cycle no more jobs run than the limit allows, and a low one only after the normal ones that may run
  pub cycles_are_limited : CyclesAreLimited limit trace
  -- each ivar is filled at most once, and a name that was filled or joined away isn't used again
  pub fills_once : FillsOnce trace
  -- requests are numbered as they arrive, and each is answered at most once, with the number of its deferred
  pub requests_are_served : RequestsAreServed trace
  -- each error is caught at the first monitor of its path that is detached there, and where there is none the run ends by it
  pub errors_go_up : ErrorsGoUp trace
