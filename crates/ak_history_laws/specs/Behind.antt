-- What a history goes on by, behind a part of it. Own.
use Rattle.std.specs.Prelude.{ℕ, ◌≡◌, ◌==◌, false, List, ◌++◌}
use Rattle.std.specs.List.{AllByRecursion}
use Rattle.ak_history.specs.declared.event.Event.{Event}
use Rattle.ak_history.specs.declared.event.Event.TheVariants as event

-- an event of a thread or of an asker
abbrev pub IsNotByScheduler : Event → Type 0
IsNotByScheduler (event.Submit id work helper) = ⊥
IsNotByScheduler (event.Start thread id) = Unit {0}
IsNotByScheduler (event.Finish thread id outcome) = Unit {0}
IsNotByScheduler (event.Request q asker n) = Unit {0}
IsNotByScheduler (event.AskerEnd asker) = Unit {0}
IsNotByScheduler (event.Drain ids requests) = ⊥
IsNotByScheduler (event.Answered q v) = ⊥
IsNotByScheduler (event.HelperNew helper answer) = ⊥
IsNotByScheduler (event.HelperEnd helper) = ⊥
IsNotByScheduler event.Close = ⊥

-- no start and no finish of this thread
abbrev pub IsNotByThread : ℕ → Event → Type 0
IsNotByThread t (event.Start thread id) = (thread == t) ≡ false
IsNotByThread t (event.Finish thread id outcome) = (thread == t) ≡ false
IsNotByThread t e = Unit {0}

-- no request and no end of this asker
abbrev pub IsNotByAsker : ℕ → Event → Type 0
IsNotByAsker a (event.Request q asker n) = (asker == a) ≡ false
IsNotByAsker a (event.AskerEnd asker) = (asker == a) ≡ false
IsNotByAsker a e = Unit {0}

-- the whole goes on from what was seen with such events alone
pub record Behind (P : Event → Type 0) (seen whole : List Event) : Type 0 where
  pub rest : List Event
  pub whole_is : whole ≡ seen ++ rest
  pub others : AllByRecursion P rest
