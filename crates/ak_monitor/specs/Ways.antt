-- The way of an error up a path, in the words of its reader: to the nearest detached monitor, or past all of them.
use Rattle.std.specs.Prelude.{ℕ, ◌≡◌, ◌+◌, List, Bool, false, true, Option, Some, None, length, take, slice_get}
use Rattle.std.specs.List.{All}
use Rattle.ak_monitor.specs.declared.route.Route.{Route}
use Rattle.ak_monitor.specs.Monitors.{Monitor, monitor_in}

-- whether a monitor is detached
abbrev pub is_detached : {H : Type 0} → List (Monitor H) → ℕ → Bool
is_detached monitors m = (monitor_in monitors m).detached

-- an error that is caught passes some monitors of a path, none of them detached, and then the one that catches it, which
-- is; one that is not caught passes them all, and none is detached
abbrev pub IsWayTo : {H : Type 0} → List (Monitor H) → List ℕ → ℕ → Option ℕ → Type 0
IsWayTo monitors path passed (Some c) =
    (before : ℕ)
    × (passed ≡ before + 1)
    × (slice_get path before ≡ Some c)
    × (is_detached monitors c ≡ true)
    × All (λ m. is_detached monitors m ≡ false) (take before path)
IsWayTo monitors path passed None = (passed ≡ length path) × All (λ m. is_detached monitors m ≡ false) path

-- the way that an error goes along a path
abbrev pub IsWay : {H : Type 0} → List (Monitor H) → List ℕ → Route → Type 0
IsWay monitors path way = IsWayTo monitors path way.passed way.caught
