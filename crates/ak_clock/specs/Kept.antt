-- How the clock keeps its alarms: in a map under their numbers, and in a set of their places in order of time. Of no concern
-- to a caller, who sees the list of alarms.
use Rattle.std.specs.Prelude.{ℕ, ℤ, ◌≡◌, List, map}
use Rattle.std.specs.Map.{values_of}
use Rattle.ak_clock.specs.declared.alarm.Alarm.{Alarm}
use Rattle.ak_clock.specs.Clock.{by_time}
use Rattle.ak_base.specs.Numbers.{AreNumbered}
use Rattle.ak_clock.specs.Order.{number_of}

-- an alarm under its number
abbrev pub under_number : Alarm → ℕ × Alarm
under_number a = (a.no, a)

-- the place of an alarm: its time, and then its number
abbrev pub place_of : Alarm → ℤ × ℕ
place_of a = (a.time, a.no)

-- the map keeps alarms under their numbers, which are below the next one, and the set keeps the places of the same alarms
abbrev pub AreKept : ℕ → List (ℕ × Alarm) → List (ℤ × ℕ) → Type 0
AreKept next entries places =
    AreNumbered number_of 0 next (values_of entries) × (entries ≡ map under_number (values_of entries))
    × (places ≡ map place_of (by_time (values_of entries)))
