-- The clock, its pending alarms and the pending yields. From Async's documentation of `Clock` and `yield` in outline; that
-- the clock moves only by the script is own.
use Rattle.std.specs.Prelude.{ℕ, ℤ, pos, ◌+◌, Result, Ok, Err, List, [], ◌∷◌, ◌++◌, Bool, not, ◌==◌, Option, Some, None, fold, filter, find, if◌then◌else◌, int_le, int_lt}
use Rattle.ak_base.specs.Numbers.{fits}
use Rattle.ak_base.specs.Lists.{first_of, rest_of, is_empty_list}
use Rattle.ak_clock.specs.declared.alarm.Alarm.{Alarm}
use Rattle.ak_clock.specs.declared.alarm.AfterRefused.{AfterRefused}
use Rattle.ak_clock.specs.declared.alarm.AfterRefused.TheVariants as after_refused
use Rattle.ak_clock.specs.declared.alarm.TickRefused.{TickRefused}
use Rattle.ak_clock.specs.declared.alarm.TickRefused.TheVariants as tick_refused

-- the time, the pending alarms in order of their numbers, the number of the next one, and the deferreds that wait for the
-- next cycle, oldest first
pub record Clock : Type 0 where
  pub time : ℤ
  pub alarms : List Alarm
  pub next : ℕ
  pub yields : List ℕ

-- the clock at 0
abbrev pub clock_at_zero : Clock
clock_at_zero = record { time = pos 0; alarms = []; next = 0; yields = [] }

-- one more alarm, which fills a deferred once its time has come
abbrev pub with_alarm : ℤ → ℕ → Clock → Clock
with_alarm time i c =
    record c { alarms = c.alarms ++ record { no = c.next; time = time; ivar = i } ∷ []; next = c.next + 1 }

-- whether an alarm has the number
abbrev pub is_alarm : ℕ → Alarm → Bool
is_alarm e alarm = alarm.no == e

-- whether it has another
abbrev pub is_other_alarm : ℕ → Alarm → Bool
is_other_alarm e alarm = not (alarm.no == e)

-- the alarm of a number, where it is pending
abbrev pub alarm_of : ℕ → Clock → Option Alarm
alarm_of e c = find (is_alarm e) c.alarms

-- the alarm of a number is not pending any more
abbrev pub without_alarm : ℕ → Clock → Clock
without_alarm e c = record c { alarms = filter (is_other_alarm e) c.alarms }

-- the clock has another time
abbrev pub set_to : ℤ → Clock → Clock
set_to time c = record c { time = time }

-- whether its time has come
abbrev pub is_due : ℤ → Alarm → Bool
is_due now alarm = int_le alarm.time now

-- whether its time has not come
abbrev pub is_early : ℤ → Alarm → Bool
is_early now alarm = not (int_le alarm.time now)

-- an alarm put into a list that is in order of time; of equal times the one that stands there comes first
abbrev pub insert_alarm : Alarm → List Alarm → List Alarm
insert_alarm a [] = a ∷ []
insert_alarm a (b ∷ alarms) =
    let rest : List Alarm = b ∷ insert_alarm a alarms
    in if int_lt a.time b.time then a ∷ b ∷ alarms else rest

-- the same, with the list first
abbrev pub inserted : List Alarm → Alarm → List Alarm
inserted alarms a = insert_alarm a alarms

-- in order of time, and of number where the times are equal
abbrev pub by_time : List Alarm → List Alarm
by_time alarms = fold inserted [] alarms

-- the alarms whose time has come, in order of time and then of number
abbrev pub due_alarms : Clock → List Alarm
due_alarms c = by_time (filter (is_due c.time) c.alarms)

-- only the alarms whose time has not come are pending
abbrev pub without_due : Clock → Clock
without_due c = record c { alarms = filter (is_early c.time) c.alarms }

-- whether the time of an alarm has come
abbrev pub has_due : Clock → Bool
has_due c = not (is_empty_list (filter (is_due c.time) c.alarms))

-- the clock without an alarm, where there is one
abbrev pub without_this : Option Alarm → Clock → Clock
without_this None c = c
without_this (Some alarm) c = without_alarm alarm.no c

-- the first alarm that is due is taken
abbrev pub due_taken : Clock → Clock
due_taken c = without_this (first_of (due_alarms c)) c

-- one more deferred waits for the next cycle, last
abbrev pub with_yield : ℕ → Clock → Clock
with_yield i c = record c { yields = c.yields ++ i ∷ [] }

-- no deferred waits for the next cycle any more
abbrev pub without_yields : Clock → Clock
without_yields c = record c { yields = [] }

-- the oldest deferred that waits for the next cycle is taken
abbrev pub yield_taken : Clock → Clock
yield_taken c = record c { yields = rest_of c.yields }

-- whether a deferred waits for the next cycle
abbrev pub has_yield : Clock → Bool
has_yield c = not (is_empty_list c.yields)

-- why an alarm at a time is not set
abbrev pub after_refusal : ℤ → AfterRefused
after_refusal time = if fits time then after_refused.NoMemory else after_refused.Overflow

-- what a move of the clock by n to a time answers
abbrev pub ticked : ℤ → ℤ → Result (Unit {0}) TickRefused
ticked n time = if int_lt n (pos 0) then Err tick_refused.Negative else if fits time then Ok tt else Err tick_refused.Overflow

-- the deferred of an alarm, where there is one
abbrev pub ivar_of : Option Alarm → Option ℕ
ivar_of None = None
ivar_of (Some alarm) = Some alarm.ivar
