-- What statements on the clock do to it, and what the begin of a cycle takes, one thing at a time.
use Rattle.std.specs.Prelude.{ℕ, ℤ, ◌+ℤ◌, Option}
use Rattle.ak_base.specs.Lists.{first_of}
use Rattle.ak_rings.specs.Queues.{recounted}
use Rattle.ak_clock.specs.Clock.{Clock, ivar_of, alarm_of, with_alarm, without_this, set_to, due_alarms, due_taken, with_yield, yield_taken}
use Rattle.ak_machine.specs.State.{State}

-- the state with another clock
abbrev pub with_clock : Clock → State → State
with_clock c s = record s { clock = c }

-- a deferred waits for the next cycle
abbrev pub awaiting_cycle : ℕ → State → State
awaiting_cycle i s = with_clock (with_yield i s.clock) s

-- the oldest deferred that waits for the next cycle, where there is one, and the state without it
abbrev pub first_yield : State → Option ℕ
first_yield s = first_of s.clock.yields

abbrev pub without_yield : State → State
without_yield s = with_clock (yield_taken s.clock) s

-- the deferred of the alarm that is due first, where one is due, and the state without that alarm
abbrev pub first_due : State → Option ℕ
first_due s = ivar_of (first_of (due_alarms s.clock))

abbrev pub without_alarm : State → State
without_alarm s = with_clock (due_taken s.clock) s

-- none of the cycle's jobs ran
abbrev pub with_recount : State → State
with_recount s = record s { queues = recounted s.queues }

-- the time that is so far from now
abbrev pub time_after : ℤ → State → ℤ
time_after n s = s.clock.time +ℤ n

-- an alarm at a time for a deferred
abbrev pub with_alarm_for : ℤ → ℕ → State → State
with_alarm_for time i s = with_clock (with_alarm time i s.clock) s

-- the deferred of the alarm of a number, where it is pending, and the state without that alarm
abbrev pub pending : ℕ → State → Option ℕ
pending e s = ivar_of (alarm_of e s.clock)

abbrev pub without_event : ℕ → State → State
without_event e s = with_clock (without_this (alarm_of e s.clock) s.clock) s

-- the clock has another time
abbrev pub at_time : ℤ → State → State
at_time time s = with_clock (set_to time s.clock) s
