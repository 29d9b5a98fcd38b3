-- What an error does. From Async's documentation of monitors in outline; own are that a detached monitor catches an error
-- raised in itself, and the order of fills and handlers.
use Rattle.std.specs.Prelude.{ℕ, ℤ, ◌∷◌, Option, Some, None, fold}
use Rattle.ak_base.specs.declared.number.Ctx.{Ctx}
use Rattle.ak_frames.specs.declared.value.Value.TheVariants.{Num}
use Rattle.ak_frames.specs.declared.frame.Ret.TheVariants.{Drop}
use Rattle.ak_trace.specs.declared.entry.Entry.TheVariants as entry
use Rattle.ak_trace.specs.declared.entry.Ending.TheVariants as ending
use Rattle.ak_monitor.specs.Monitors.{monitor_in, without_next_errors, path, catcher, up_to}
use Rattle.ak_machine.specs.declared.flow.Flow.{Flow}
use Rattle.ak_machine.specs.declared.flow.Flow.TheVariants as flow
use Rattle.ak_machine.specs.declared.held.Handler.{Handler}
use Rattle.ak_machine.specs.declared.held.Handler.TheVariants.{OnError, OfGuard, OfBody}
use Rattle.ak_machine.specs.State.{State}
use Rattle.ak_machine.specs.Deferred.{noting, called, filled_with}
use Rattle.ak_machine.specs.Groups.{guard_acts}
use Rattle.ak_machine.specs.Throttles.{body_acts}

-- a state, and whether the run goes on
pub record After : Type 0 where
  pub state : State
  pub flow : Flow

-- the run goes on
abbrev pub going_on : State → After
going_on s = record { state = s; flow = flow.On }

-- the script stops the run
abbrev pub stopped : State → After
stopped s = record { state = noting (entry.End ending.Stopped) s; flow = flow.Stopped }

-- the deferreds that wait for the next error of a monitor are filled with it, the oldest first
abbrev pub next_errors_filled : ℤ → State → ℕ → State
next_errors_filled e s m =
    fold (filled_with e) (record s { monitors = without_next_errors m s.monitors }) (monitor_in s.monitors m).next_errors

-- what each kind of handler does
abbrev pub acted : ℤ → Ctx → Handler → State → State
acted e ctx (OnError proc vals) s = called ctx proc (Num e ∷ vals) Drop s
acted e ctx (OfGuard g) s = guard_acts g e s
acted e ctx (OfBody b) s = body_acts b e s

-- a handler acts on an error, in the context of its registration
abbrev pub handler_acts : ℤ → State → Ctx × Handler → State
handler_acts e s h = acted e h.0 h.1 s

-- the handlers of the monitor that caught an error act, the oldest first
abbrev pub handled : ℕ → ℤ → State → State
handled c e s = fold (handler_acts e) s (monitor_in s.monitors c).handlers

-- an error that a monitor of the path catches, or none
abbrev pub caught_at : Option ℕ → ℕ → ℤ → State → After
caught_at None m e s =
    record { state = noting (entry.End ending.Unhandled) (noting (entry.Unhandled e) s); flow = flow.Unhandled e }
caught_at (Some c) m e s =
    going_on (handled c e (fold (next_errors_filled e) (noting (entry.Caught c) s) (up_to c (path s.monitors m))))

-- an error is sent to a monitor: the first detached one of its path catches it; the next errors of the path up to that one are
-- filled, and then its handlers act; where there is none, the run ends
abbrev pub send : ℕ → ℤ → State → After
send m e s = caught_at (catcher s.monitors m) m e (noting (entry.Error e m) s)
