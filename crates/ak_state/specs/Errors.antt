-- What comes of an error, step by step.
use Rattle.std.specs.Prelude.{ℕ, ℤ, ◌≡◌, ◌<◌, List, [], ◌∷◌, ◌++◌, Option, Some, None, fold, length, slice_get}
use Rattle.std.specs.List.{AllByRecursion}
use Rattle.ak_base.specs.declared.number.Ctx.{Ctx}
use Rattle.ak_trace.specs.declared.entry.Entry.{Entry}
use Rattle.ak_trace.specs.declared.entry.Entry.TheVariants as entry
use Rattle.ak_trace.specs.declared.entry.Ending.TheVariants as ending
use Rattle.ak_monitor.specs.Monitors.{monitor_in, path, up_to}
use Rattle.ak_machine.specs.declared.flow.Flow.{Flow}
use Rattle.ak_machine.specs.declared.flow.Flow.TheVariants.{On, Stopped, Unhandled}
use Rattle.ak_machine.specs.declared.held.Handler.{Handler}
use Rattle.ak_machine.specs.State.{State}
use Rattle.ak_machine.specs.Status.{ByError, status_of}
use Rattle.ak_machine.specs.Deferred.{enqueue, filled_with}
use Rattle.ak_machine.specs.Groups.{guard_acts}
use Rattle.ak_machine.specs.Throttles.{body_acts}
use Rattle.ak_machine.specs.Mapped.{task_mapped}
use Rattle.ak_machine.specs.Errors.{After, next_errors_filled, handler_acts}
use Rattle.ak_state.specs.declared.parts.errors.Reaction.{Reaction}
use Rattle.ak_state.specs.declared.parts.errors.Reaction.TheVariants.{Calls, Tells, TellsBody}

-- the next errors of the monitors from m up to c are filled
abbrev pub path_filled : ℕ → ℕ → ℤ → State → State
path_filled m c e s = fold (next_errors_filled e) s (up_to c (path s.monitors m))

-- these deferreds are filled, each where it is empty
abbrev pub all_filled : ℤ → List ℕ → State → State
all_filled e is s = fold (filled_with e) s is

-- these ivars were drawn
abbrev pub AreDrawn : List ℕ → State → Type 0
AreDrawn is s = AllByRecursion (λ i. i < length s.cells.ivars) is

-- the handlers of a monitor, and the k-th of them
abbrev pub handlers_of : ℕ → State → List (Ctx × Handler)
handlers_of c s = (monitor_in s.monitors c).handlers

abbrev pub handler_of : ℕ → ℕ → State → Option (Ctx × Handler)
handler_of c k s = slice_get (handlers_of c s) k

-- one handler acts, where it is there
abbrev pub acted_by : ℤ → Option (Ctx × Handler) → State → State
acted_by e None s = s
acted_by e (Some h) s = handler_acts e s h

abbrev pub acted_at : ℕ → ℕ → ℤ → State → State
acted_at c k e s = acted_by e (handler_of c k s) s

-- what a handler does with an error, as the code says it; f gives the surviving names
abbrev pub reacted : (ℕ → ℕ) → ℤ → Reaction → State → State
reacted f e (Calls ctx task) s = enqueue ctx (task_mapped f task) s
reacted f e (Tells guard) s = guard_acts guard e s
reacted f e (TellsBody b) s = body_acts b e s

-- where it tells a guard, that is there
abbrev pub TellsDrawn : Reaction → State → Type 0
TellsDrawn (Calls ctx task) s = Unit {0}
TellsDrawn (Tells guard) s = guard < length s.groups
TellsDrawn (TellsBody b) s = Unit {0}

-- a state, and whether the run goes on
abbrev pub after_is : Flow → State → After
after_is flow s = record { state = s; flow = flow }

-- what the last entries of a trace say, where the run doesn't go on
abbrev pub Ends : Flow → List Entry → Type 0
Ends On trace = Unit {0}
Ends Stopped trace = (before : List Entry) × (trace ≡ before ++ entry.End ending.Stopped ∷ [])
Ends (Unhandled num) trace = status_of trace ≡ ByError num
