-- Alarms in order.
use Rattle.std.specs.Prelude.{ℕ, ◌≡◌, ◌<◌, ◌<ℤ◌, ◌⊎◌, List, [], ◌∷◌}
use Rattle.std.specs.List.{All}
use Rattle.ak_clock.specs.declared.alarm.Alarm.{Alarm}

-- the number of an alarm: those that are pending stand in order of it
abbrev pub number_of : Alarm → ℕ
number_of alarm = alarm.no

-- an alarm comes before another: its time is less, or its number where the times are equal
abbrev pub IsBefore : Alarm → Alarm → Type 0
IsBefore a b = (a.time <ℤ b.time) ⊎ ((a.time ≡ b.time) × (a.no < b.no))

-- each alarm comes before all that stand behind it
abbrev pub AreByTime : List Alarm → Type 0
AreByTime [] = Unit
AreByTime (a ∷ alarms) = All (IsBefore a) alarms × AreByTime alarms
