-- Which values, frames and handlers fit a program: each names what was drawn, and is of the kind that is wanted.
use Rattle.std.specs.Prelude.{ℕ, pos, ◌<◌, ◌≤◌, ◌≡◌, List, [], ◌∷◌, map, length, slice_get, MatchOption, ◌++◌, replicate}
use Rattle.std.specs.List.{AllByRecursion, AllZip}
use Rattle.ak_base.specs.declared.number.Ctx.{Ctx}
use Rattle.ak_rings.specs.declared.job.Job.{Job}
use Rattle.ak_cells.specs.declared.registration.Registration.{Registration}
use Rattle.ak_frames.specs.declared.value.Value.{Value}
use Rattle.ak_frames.specs.declared.value.Value.TheVariants as value
use Rattle.ak_frames.specs.declared.frame.Ret.{Ret}
use Rattle.ak_frames.specs.declared.frame.Ret.TheVariants.{Drop, To, TryBody, ThrottleBody}
use Rattle.ak_frames.specs.declared.frame.Frame.{Frame}
use Rattle.ak_frames.specs.declared.frame.Frame.TheVariants.{Call, OnValue, TryDone, BodyDone, BodyFailed, Raise, AllPart, ChoicePart, AnswerOut}
use Rattle.ak_frames.specs.declared.frame.Task.{Task}
use Rattle.ak_script.specs.declared.script.Kind.{Kind}
use Rattle.ak_script.specs.declared.script.Kind.TheVariants.{Num, Ivar, Def, Mon, Pipe, Thr, Event, Helper}
use Rattle.ak_program.specs.declared.program.NumParam.{NumParam}
use Rattle.ak_program.specs.declared.program.NumProc.{NumProc}
use Rattle.ak_monitor.specs.Monitors.{Monitor}
use Rattle.ak_base.specs.Numbers.{AreNumbered}
use Rattle.ak_clock.specs.declared.alarm.Alarm.{Alarm}
use Rattle.ak_clock.specs.Clock.{Clock}
use Rattle.ak_clock.specs.Order.{number_of}
use Rattle.ak_throttle.specs.declared.stage.Stage.{Stage}
use Rattle.ak_throttle.specs.declared.stage.Stage.TheVariants.{Waiting, Running}
use Rattle.ak_throttle.specs.declared.stage.Mark.{Mark}
use Rattle.ak_throttle.specs.Throttle.{Throttle}
use Rattle.ak_throttle.specs.Held.{HasStarted}
use Rattle.ak_machine.specs.declared.held.Callback.{Callback}
use Rattle.ak_machine.specs.declared.held.Choosable.{Choosable}
use Rattle.ak_machine.specs.declared.held.Handler.{Handler}
use Rattle.ak_machine.specs.declared.held.Handler.TheVariants.{OnError, OfGuard, OfBody}
use Rattle.ak_machine.specs.declared.held.Purpose.{Purpose}
use Rattle.ak_machine.specs.declared.held.Purpose.TheVariants.{ForGuard, ForAll, ForAny, ForChoice}
use Rattle.ak_pipe.specs.declared.flush.Flush.{Flush}
use Rattle.ak_pipe.specs.Pipe as part
use Rattle.ak_machine.specs.declared.held.Body.{Body}
use Rattle.ak_machine.specs.declared.held.Fate.{Fate}
use Rattle.ak_machine.specs.declared.held.Fate.TheVariants.{Undecided, Failing, Over}
use Rattle.ak_machine.specs.declared.held.Started.{Started}
use Rattle.ak_machine.specs.declared.held.Read.{Read}
use Rattle.ak_machine.specs.declared.held.Outstanding.{Outstanding}
use Rattle.ak_machine.specs.State.{State}
use Rattle.ak_state.specs.Drawn.{Drawn, drawn, parts_of, parts_at}

-- a value of a kind, where so much was drawn
abbrev pub ValueFits : Drawn → Kind → Value → Type 0
ValueFits n Num (value.Num z) = Unit {0}
ValueFits n Ivar (value.Ivar i) = i < n.ivars
ValueFits n Def (value.Ivar i) = i < n.ivars
ValueFits n Def (value.Def i) = i < n.ivars
ValueFits n Mon (value.Mon m) = m < n.monitors
ValueFits n Pipe (value.Pipe p) = p < n.pipes
ValueFits n Thr (value.Thr t) = t < n.throttles
ValueFits n Event (value.Event e) = Unit {0}
ValueFits n Helper (value.Helper h) = Unit {0}
ValueFits n other v = ⊥

-- each value is of its kind
abbrev pub ValsFit : Drawn → List Kind → List Value → Type 0
ValsFit n [] [] = Unit {0}
ValsFit n (kind ∷ kinds) (v ∷ vals) = ValueFits n kind v × ValsFit n kinds vals
ValsFit n [] (v ∷ vals) = ⊥
ValsFit n (kind ∷ kinds) [] = ⊥

-- the kinds of parameters
abbrev pub kinds_of : List NumParam → List Kind
kinds_of params = map (λ param. param.kind) params

abbrev pub RetFits : Drawn → Ret → Type 0
RetFits n Drop = Unit {0}
RetFits n (To i) = i < n.ivars
RetFits n (TryBody g) = g < n.groups
RetFits n (ThrottleBody b) = Unit {0}

-- the procedure is there, and takes the values
abbrev pub CallFits : List NumProc → Drawn → ℕ → List Value → Type 0
CallFits program n proc vals = MatchOption (slice_get program proc) ⊥ (λ p. ValsFit n (kinds_of p.params) vals)

-- the same with a number in front of the values
abbrev pub ValueCallFits : List NumProc → Drawn → ℕ → List Value → Type 0
ValueCallFits program n proc vals = CallFits program n proc (value.Num (pos 0) ∷ vals)

-- a frame; one that waits for a number takes it in front of its values
abbrev pub FrameFits : List NumProc → Drawn → Frame → Type 0
FrameFits program n (Call proc vals ret) = CallFits program n proc vals × RetFits n ret
FrameFits program n (OnValue proc vals ret) = ValueCallFits program n proc vals × RetFits n ret
FrameFits program n (AllPart g k) = k < parts_at g n
FrameFits program n (ChoicePart g) = g < n.groups
FrameFits program n (TryDone g) = g < n.groups
FrameFits program n (BodyDone b) = Unit {0}
FrameFits program n (BodyFailed b e) = Unit {0}
FrameFits program n (Raise e) = Unit {0}
FrameFits program n (AnswerOut q) = Unit {0}

-- a job or a handler: its monitor is there
pub record HeldFits (program : List NumProc) (n : Drawn) (ctx : Ctx) (frame : Frame) : Type 0 where
  pub monitor : ctx.mon < n.monitors
  pub frame_fits : FrameFits program n frame

abbrev pub JobFits : List NumProc → Drawn → Job Task → Type 0
JobFits program n job = HeldFits program n job.ctx job.frame.frame

abbrev pub HandlerFits : List NumProc → Drawn → Registration Frame → Type 0
HandlerFits program n g = HeldFits program n g.ctx g.frame

-- what a monitor does with an error: it calls a procedure with the error in front of its values, or tells a guard or a body
abbrev pub ActFits : List NumProc → Drawn → Handler → Type 0
ActFits program n (OnError proc vals) = ValueCallFits program n proc vals
ActFits program n (OfGuard g) = g < n.groups
ActFits program n (OfBody b) = Unit {0}

-- in the context of its registration
pub record ActorFits (program : List NumProc) (n : Drawn) (h : Ctx × Handler) : Type 0 where
  pub monitor : h.0.mon < n.monitors
  pub act : ActFits program n h.1

-- what waits for the errors of a monitor
pub record MonitorFits (program : List NumProc) (n : Drawn) (m : Monitor Handler) : Type 0 where
  pub next_errors : AllByRecursion (λ i. i < n.ivars) m.next_errors
  pub actors : AllByRecursion (ActorFits program n) m.handlers

-- a guard: the context of its `try`, the monitor of its body, and the call that takes an error
pub record GuardFits (program : List NumProc) (n : Drawn) (ctx : Ctx) (m : ℕ) (catch : Callback) : Type 0 where
  pub context : ctx.mon < n.monitors
  pub monitor : m < n.monitors
  pub catches : ValueCallFits program n catch.proc catch.vals
  pub result : catch.to < n.ivars

-- so many numbers in front of the values of a call
abbrev pub numbers : ℕ → List Value
numbers count = replicate count (value.Num (pos 0))

-- a call that waits for no number
pub record CallbackFits (program : List NumProc) (n : Drawn) (c : Callback) : Type 0 where
  pub call : CallFits program n c.proc c.vals
  pub result : c.to < n.ivars

-- an `all`: its call takes the numbers of so many parts in front of its values
pub record AllFits (program : List NumProc) (n : Drawn) (parts : ℕ) (c : Callback) : Type 0 where
  pub few : parts ≤ 8
  pub call : CallFits program n c.proc (numbers parts ++ c.vals)
  pub result : c.to < n.ivars

-- a deferred of a choice, and the procedure that takes its number in front of the values
pub record ChoosableFits (program : List NumProc) (n : Drawn) (vals : List Value) (choice : Choosable) : Type 0 where
  pub deferred : choice.deferred < n.ivars
  pub call : ValueCallFits program n choice.proc vals

-- what a group of so many parts is for
abbrev pub PurposeFits : List NumProc → Drawn → ℕ → Purpose → Type 0
PurposeFits program n parts (ForAll c) = AllFits program n parts c
PurposeFits program n parts (ForAny ds to) = AllByRecursion (λ d. d < n.ivars) ds × (to < n.ivars)
PurposeFits program n parts (ForChoice choices vals to) = AllByRecursion (ChoosableFits program n vals) choices × (to < n.ivars)
PurposeFits program n parts (ForGuard ctx m mode catch) = GuardFits program n ctx m catch

-- an alarm: the deferred that it fills was drawn
abbrev pub AlarmFits : Drawn → Alarm → Type 0
AlarmFits n alarm = alarm.ivar < n.ivars

-- what waits for a time or for the next cycle; no more alarms than ivars were numbered
pub record ClockFits (n : Drawn) (c : Clock) : Type 0 where
  pub yields : AllByRecursion (λ i. i < n.ivars) c.yields
  pub alarms : AllByRecursion (AlarmFits n) c.alarms
  pub numbered : AreNumbered number_of 0 c.next c.alarms
  pub few : c.next ≤ n.ivars

-- a body that waits or was dropped: the context of its `enqueue`, its call and its result
pub record BodyFits (program : List NumProc) (n : Drawn) (body : Body) : Type 0 where
  pub context : body.ctx.mon < n.monitors
  pub call : CallFits program n body.call.proc body.call.vals
  pub result : body.call.to < n.ivars

abbrev pub StageFits : List NumProc → Drawn → Stage Body → Type 0
StageFits program n (Waiting body) = BodyFits program n body
StageFits program n other = Unit {0}

-- a deferred that waits for the end of bodies was drawn
abbrev pub MarkFits : Drawn → Mark → Type 0
MarkFits n mark = mark.ivar < n.ivars

-- a body that has started
pub record StartedFits (n : Drawn) (body : Started) : Type 0 where
  pub context : body.ctx.mon < n.monitors
  pub result : body.to < n.ivars

-- a body that is not over runs
abbrev pub StandsAt : Fate → Stage Body → Type 0
StandsAt Undecided stage = stage ≡ Running
StandsAt Failing stage = stage ≡ Running
StandsAt Over stage = Unit {0}

abbrev pub StandAt : List Started → List (Stage Body) → Type 0
StandAt [] stages = Unit {0}
StandAt (body ∷ bodies) [] = ⊥
StandAt (body ∷ bodies) (stage ∷ stages) = StandsAt body.fate stage × StandAt bodies stages

-- a throttle, and its bodies that have started; no more bodies than ivars were numbered
pub record ThrottleFits (program : List NumProc) (n : Drawn) (t : Throttle Body) (started : List Started) : Type 0 where
  pub waiting : AllByRecursion (StageFits program n) t.bodies
  pub dropped : AllByRecursion (BodyFits program n) t.dropped
  pub marks : AllByRecursion (MarkFits n) t.marks
  pub bodies : AllByRecursion (StartedFits n) started
  pub so_many : HasStarted t (length started)
  pub stand : StandAt started t.bodies
  pub few : length t.bodies ≤ n.ivars

-- a read that waits or is owed the end: its context, both calls and their results
pub record ReadFits (program : List NumProc) (n : Drawn) (read : Read) : Type 0 where
  pub context : read.ctx.mon < n.monitors
  pub item : ValueCallFits program n read.item.proc read.item.vals
  pub item_to : read.item.to < n.ivars
  pub eof : CallFits program n read.eof.proc read.eof.vals
  pub eof_to : read.eof.to < n.ivars

-- the deferred of a flush was drawn
abbrev pub FlushFits : Drawn → Flush → Type 0
FlushFits n flush = flush.ivar < n.ivars

-- what waits for a pipe
pub record PipeFits (program : List NumProc) (n : Drawn) (p : part.Pipe Read) : Type 0 where
  pub reads : AllByRecursion (ReadFits program n) p.reads
  pub owed : AllByRecursion (ReadFits program n) p.owed
  pub pushbacks : AllByRecursion (λ i. i < n.ivars) p.pushbacks
  pub flushes : AllByRecursion (FlushFits n) p.flushes

-- a work that is out: its deferred was drawn, and the monitor of its context is there
pub record WorkFits (n : Drawn) (work : Outstanding) : Type 0 where
  pub monitor : work.ctx.mon < n.monitors
  pub result : work.to < n.ivars

-- all that a state holds, list by list: the root monitor is there, each group has its purpose, and each throttle its bodies
pub record ListsFit (program : List NumProc) (n : Drawn) (of_registrations : List (Registration Frame))
    (of_normal of_low : List (Job Task)) (of_monitors : List (Monitor Handler)) (of_purposes : List Purpose) (of_parts : List ℕ)
    (of_clock : Clock) (of_throttles : List (Throttle Body)) (of_started : List (List Started))
    (of_pipes : List (part.Pipe Read)) (of_works : List Outstanding) : Type 0 where
  pub root : 0 < n.monitors
  pub handlers : AllByRecursion (HandlerFits program n) of_registrations
  pub normal : AllByRecursion (JobFits program n) of_normal
  pub low : AllByRecursion (JobFits program n) of_low
  pub monitors : AllByRecursion (MonitorFits program n) of_monitors
  pub purposes : AllZip (PurposeFits program n) of_parts of_purposes
  pub clock : ClockFits n of_clock
  pub throttles : AllZip (ThrottleFits program n) of_throttles of_started
  pub pipes : AllByRecursion (PipeFits program n) of_pipes
  pub works : AllByRecursion (WorkFits n) of_works

abbrev pub StateFits : List NumProc → Drawn → State → Type 0
StateFits program n s =
    ListsFit program n s.cells.registrations s.queues.normal s.queues.low s.monitors s.purposes (parts_of s.groups) s.clock s.throttles
    s.started s.pipes s.works

-- all of a state fits a program
abbrev pub Fits : List NumProc → State → Type 0
Fits program s = StateFits program (drawn s) s

-- all of a state fits some program
pub record FitsSome (s : State) : Type 0 where
  pub program : List NumProc
  pub fits : Fits program s
