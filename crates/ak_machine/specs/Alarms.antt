-- Alarms and pending yields in the state. From Async's documentation of `Clock` and `yield` in outline.
use Rattle.std.specs.Prelude.{ℕ, ℤ, pos, Option, Some, None, fold}
use Rattle.ak_clock.specs.declared.alarm.Alarm.{Alarm}
use Rattle.ak_clock.specs.Clock as clock
use Rattle.ak_machine.specs.State.{State, next_ivar}
use Rattle.ak_machine.specs.Deferred.{with_ivar, fill, filled_with}

-- a fresh deferred with an alarm at a time
abbrev pub with_alarm : ℤ → State → State
with_alarm time s = record (with_ivar s) { clock = clock.with_alarm time (next_ivar s) s.clock }

-- a fresh deferred that waits for the next cycle
abbrev pub with_yield : State → State
with_yield s = record (with_ivar s) { clock = clock.with_yield (next_ivar s) s.clock }

-- an alarm is aborted, where it is pending
abbrev pub aborted_at : Option Alarm → State → State
aborted_at None s = s
aborted_at (Some alarm) s = fill alarm.ivar (pos 1) (record s { clock = clock.without_alarm alarm.no s.clock })

-- a pending alarm is gone, and its deferred is filled with 1
abbrev pub abort : ℕ → State → State
abort e s = aborted_at (clock.alarm_of e s.clock) s

-- the deferreds that wait for the next cycle are filled with 0, the oldest first
abbrev pub yields_filled : State → State
yields_filled s = fold (filled_with (pos 0)) (record s { clock = clock.without_yields s.clock }) s.clock.yields

-- the deferred of an alarm is filled with 0
abbrev pub alarm_filled : State → Alarm → State
alarm_filled s alarm = fill alarm.ivar (pos 0) s

-- the deferreds of the alarms that are due are filled with 0, in order of time and then of number
abbrev pub alarms_filled : State → State
alarms_filled s = fold alarm_filled (record s { clock = clock.without_due s.clock }) (clock.due_alarms s.clock)
