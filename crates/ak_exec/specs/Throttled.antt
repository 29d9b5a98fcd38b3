-- What holds of the throttles of every world. Own.
use Rattle.std.specs.Prelude.{◌≤◌, List, take, drop, length}
use Rattle.std.specs.List.{AllByRecursion, AllZip}
use Rattle.ak_throttle.specs.declared.stage.Stage.{Stage}
use Rattle.ak_throttle.specs.declared.stage.Stage.TheVariants.{Waiting, Running, Over}
use Rattle.ak_throttle.specs.Throttle.{Throttle, running_count}
use Rattle.ak_machine.specs.declared.held.Body.{Body}
use Rattle.ak_machine.specs.declared.held.Started.{Started}
use Rattle.ak_machine.specs.State.{State}

-- a body that waits no more
abbrev pub HasLeft : Stage Body → Type 0
HasLeft (Waiting body) = ⊥
HasLeft Running = Unit {0}
HasLeft Over = Unit {0}

-- a body that does not run
abbrev pub IsStill : Stage Body → Type 0
IsStill (Waiting body) = Unit {0}
IsStill Running = ⊥
IsStill Over = Unit {0}

-- at most so many bodies of a throttle run at once, and those that have started are the first ones
pub record RunsInOrder (t : Throttle Body) (started : List Started) : Type 0 where
  pub few : running_count t ≤ t.most
  pub first : AllByRecursion HasLeft (take (length started) t.bodies)
  pub behind : AllByRecursion IsStill (drop (length started) t.bodies)

-- each throttle of a state
abbrev pub ThrottlesHold : State → Type 0
ThrottlesHold s = AllZip RunsInOrder s.throttles s.started
