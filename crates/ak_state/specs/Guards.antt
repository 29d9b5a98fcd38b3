-- What is read of the guard of a `try`.
use Rattle.std.specs.Prelude.{ℤ, ◌≡◌, [], ◌∷◌, Option, Some, None}
use Rattle.ak_frames.specs.declared.value.Value.TheVariants.{Num}
use Rattle.ak_frames.specs.declared.frame.Ret.TheVariants.{To}
use Rattle.ak_frames.specs.declared.frame.Frame.TheVariants.{Call}
use Rattle.ak_frames.specs.declared.frame.Task.{Task}
use Rattle.ak_machine.specs.declared.held.Callback.{Callback}
use Rattle.ak_machine.specs.declared.held.Purpose.{Purpose}
use Rattle.ak_machine.specs.declared.held.Purpose.TheVariants.{ForAll, ForAny, ForChoice, ForGuard}
use Rattle.ak_machine.specs.Deferred.{plain_task}
use Rattle.ak_state.specs.declared.parts.groups.Guard.{Guard}

-- the call that takes an error
abbrev pub catch_of : Purpose → Callback
catch_of (ForGuard ctx m mode catch) = catch
catch_of other = record { proc = 0; vals = []; to = 0 }

-- the same with the error's number in front of its values, as a job runs it
abbrev pub catch_task : ℤ → Callback → Task
catch_task e catch = plain_task (Call catch.proc (Num e ∷ catch.vals) (To catch.to))

-- a purpose is that of a guard, with this context, this monitor and this way with later errors
abbrev pub IsGuardOf : Guard → Purpose → Type 0
IsGuardOf guard purpose = purpose ≡ ForGuard guard.ctx guard.mon guard.mode (catch_of purpose)

-- whether a group is a guard
abbrev pub IsGuard : Purpose → Type 0
IsGuard (ForGuard ctx m mode catch) = Unit {0}
IsGuard (ForAll c) = ⊥
IsGuard (ForAny ds r) = ⊥
IsGuard (ForChoice choices vals r) = ⊥

-- the guard that a group is, where it is one
abbrev pub IsGuardAt : Option Guard → Purpose → Type 0
IsGuardAt (Some guard) purpose = IsGuardOf guard purpose
IsGuardAt None purpose = IsGuard purpose → ⊥
