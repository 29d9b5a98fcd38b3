-- A small story: three alarms at the same time, of which one is aborted, and a tick to their time.
use Rattle.std.specs.Prelude.{pos}
use Rattle.ak_clock.specs.Clock.{Clock, clock_at_zero, with_alarm, without_this, alarm_of, set_to}

-- alarms 0, 1 and 2 for deferreds 0, 1 and 2, the last one earlier
abbrev pub three_alarms : Clock
three_alarms = with_alarm (pos 4) 2 (with_alarm (pos 5) 1 (with_alarm (pos 5) 0 clock_at_zero))

-- alarm 1 is aborted
abbrev pub one_aborted : Clock
one_aborted = without_this (alarm_of 1 three_alarms) three_alarms

-- and the time is 5
abbrev pub at_five : Clock
at_five = set_to (pos 5) one_aborted
