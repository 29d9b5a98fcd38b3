-- What a statement reads of a job's values.
use Rattle.std.specs.Prelude.{ℕ, ◌<◌, List, length, All, Option}
use Rattle.std.specs.Option.{option_map}
use Rattle.ak_cells.specs.Names.{name_in}
use Rattle.ak_frames.specs.declared.value.Value.{Value}
use Rattle.ak_frames.specs.declared.value.Value.TheVariants.{Num, Ivar, Def, Mon, Pipe, Thr, Event, Helper}
use Rattle.ak_frames.specs.declared.frame.Ret.{Ret}
use Rattle.ak_frames.specs.declared.frame.Frame.{Frame}
use Rattle.ak_frames.specs.declared.frame.Task.{Task}
use Rattle.ak_rings.specs.declared.job.Job.{Job}
use Rattle.ak_program.specs.declared.statement.NumAtom.{NumAtom}
use Rattle.ak_program.specs.declared.statement.NumChoice.{NumChoice}
use Rattle.ak_program.specs.declared.statement.NumAtom.TheVariants.{Literal, Local}
use Rattle.ak_machine.specs.declared.held.Callback.{Callback}
use Rattle.ak_machine.specs.State.{State}
use Rattle.ak_machine.specs.Effect.{local, value_of}
use Rattle.ak_machine.specs.Mapped.{value_mapped, values_mapped, ret_mapped, frame_mapped, job_mapped, callback_mapped}
use Rattle.ak_state.specs.Seen.{Seen}

-- values with surviving names
abbrev pub named : Seen → List Value → List Value
named s vals = values_mapped (name_in s.names) vals

-- each of the following with surviving names
abbrev pub value_named : Seen → Value → Value
value_named s v = value_mapped (name_in s.names) v

abbrev pub ret_named : Seen → Ret → Ret
ret_named s ret = ret_mapped (name_in s.names) ret

abbrev pub frame_named : Seen → Frame → Frame
frame_named s frame = frame_mapped (name_in s.names) frame

abbrev pub job_named : Seen → Job Task → Job Task
job_named s job = job_mapped (name_in s.names) job

-- a call, where there is one
abbrev pub call_named : Seen → Option Callback → Option Callback
call_named s call = option_map (callback_mapped (name_in s.names)) call

abbrev pub IsNum : Value → Type 0
IsNum (Num z) = Unit {0}
IsNum (Ivar i) = ⊥
IsNum (Def i) = ⊥
IsNum (Mon m) = ⊥
IsNum (Pipe p) = ⊥
IsNum (Thr t) = ⊥
IsNum (Event e) = ⊥
IsNum (Helper h) = ⊥

-- an ivar or a deferred of the first n
abbrev pub IsDeferred : ℕ → Value → Type 0
IsDeferred n (Num z) = ⊥
IsDeferred n (Ivar i) = i < n
IsDeferred n (Def i) = i < n
IsDeferred n (Mon m) = ⊥
IsDeferred n (Pipe p) = ⊥
IsDeferred n (Thr t) = ⊥
IsDeferred n (Event e) = ⊥
IsDeferred n (Helper h) = ⊥

-- an ivar or a deferred
abbrev pub IsName : Value → Type 0
IsName (Num z) = ⊥
IsName (Ivar i) = Unit {0}
IsName (Def i) = Unit {0}
IsName (Mon m) = ⊥
IsName (Pipe p) = ⊥
IsName (Thr t) = ⊥
IsName (Event e) = ⊥
IsName (Helper h) = ⊥

-- a monitor of the first n
abbrev pub IsMonitor : ℕ → Value → Type 0
IsMonitor n (Num z) = ⊥
IsMonitor n (Ivar i) = ⊥
IsMonitor n (Def i) = ⊥
IsMonitor n (Mon m) = m < n
IsMonitor n (Pipe p) = ⊥
IsMonitor n (Thr t) = ⊥
IsMonitor n (Event e) = ⊥
IsMonitor n (Helper h) = ⊥

-- a monitor
abbrev pub IsMon : Value → Type 0
IsMon (Num z) = ⊥
IsMon (Ivar i) = ⊥
IsMon (Def i) = ⊥
IsMon (Mon m) = Unit {0}
IsMon (Pipe p) = ⊥
IsMon (Thr t) = ⊥
IsMon (Event e) = ⊥
IsMon (Helper h) = ⊥

-- a pipe of the first n
abbrev pub IsPipe : ℕ → Value → Type 0
IsPipe n (Num z) = ⊥
IsPipe n (Ivar i) = ⊥
IsPipe n (Def i) = ⊥
IsPipe n (Mon m) = ⊥
IsPipe n (Pipe p) = p < n
IsPipe n (Thr t) = ⊥
IsPipe n (Event e) = ⊥
IsPipe n (Helper h) = ⊥

-- a pipe
abbrev pub IsPipeName : Value → Type 0
IsPipeName (Num z) = ⊥
IsPipeName (Ivar i) = ⊥
IsPipeName (Def i) = ⊥
IsPipeName (Mon m) = ⊥
IsPipeName (Pipe p) = Unit {0}
IsPipeName (Thr t) = ⊥
IsPipeName (Event e) = ⊥
IsPipeName (Helper h) = ⊥

-- a throttle of the first n
abbrev pub IsThrottle : ℕ → Value → Type 0
IsThrottle n (Num z) = ⊥
IsThrottle n (Ivar i) = ⊥
IsThrottle n (Def i) = ⊥
IsThrottle n (Mon m) = ⊥
IsThrottle n (Pipe p) = ⊥
IsThrottle n (Thr t) = t < n
IsThrottle n (Event e) = ⊥
IsThrottle n (Helper h) = ⊥

-- a throttle
abbrev pub IsThr : Value → Type 0
IsThr (Num z) = ⊥
IsThr (Ivar i) = ⊥
IsThr (Def i) = ⊥
IsThr (Mon m) = ⊥
IsThr (Pipe p) = ⊥
IsThr (Thr t) = Unit {0}
IsThr (Event e) = ⊥
IsThr (Helper h) = ⊥

-- an alarm
abbrev pub IsEvent : Value → Type 0
IsEvent (Num z) = ⊥
IsEvent (Ivar i) = ⊥
IsEvent (Def i) = ⊥
IsEvent (Mon m) = ⊥
IsEvent (Pipe p) = ⊥
IsEvent (Thr t) = ⊥
IsEvent (Event e) = Unit {0}
IsEvent (Helper h) = ⊥

-- a helper
abbrev pub IsHelper : Value → Type 0
IsHelper (Num z) = ⊥
IsHelper (Ivar i) = ⊥
IsHelper (Def i) = ⊥
IsHelper (Mon m) = ⊥
IsHelper (Pipe p) = ⊥
IsHelper (Thr t) = ⊥
IsHelper (Event e) = ⊥
IsHelper (Helper h) = Unit {0}

-- a number of 64 bits, or one of the first n locals
abbrev pub IsBound : ℕ → NumAtom → Type 0
IsBound n (Literal z) = Unit {0}
IsBound n (Local k) = k < n

abbrev pub IsNumAt : List Value → NumAtom → Type 0
IsNumAt vals a = IsBound (length vals) a × IsNum (value_of vals a)

-- a deferred that a local names
abbrev pub IsDeferredAt : State → List Value → ℕ → Type 0
IsDeferredAt s vals k = IsDeferred (length s.cells.ivars) (local vals k)

-- deferreds that locals name, and those of the choices of a list
abbrev pub AreDeferredsAt : State → List Value → List ℕ → Type 0
AreDeferredsAt s vals ks = All (IsDeferredAt s vals) ks

abbrev pub AreChoicesAt : State → List Value → List NumChoice → Type 0
AreChoicesAt s vals choices = All (λ (choice : NumChoice). IsDeferredAt s vals choice.d) choices

-- a monitor that a local names
abbrev pub IsMonitorAt : State → List Value → ℕ → Type 0
IsMonitorAt s vals k = IsMonitor (length s.monitors) (local vals k)

-- a pipe that a local names
abbrev pub IsPipeAt : State → List Value → ℕ → Type 0
IsPipeAt s vals k = IsPipe (length s.pipes) (local vals k)

-- a throttle that a local names
abbrev pub IsThrottleAt : State → List Value → ℕ → Type 0
IsThrottleAt s vals k = IsThrottle (length s.throttles) (local vals k)

-- an alarm that a local names
abbrev pub IsEventAt : List Value → ℕ → Type 0
IsEventAt vals k = (k < length vals) × IsEvent (local vals k)

-- a helper that a local names
abbrev pub IsHelperAt : List Value → ℕ → Type 0
IsHelperAt vals k = (k < length vals) × IsHelper (local vals k)

abbrev pub AreBound : List Value → List NumAtom → Type 0
AreBound vals args = All (IsBound (length vals)) args
