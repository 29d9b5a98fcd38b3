-- Which monitors a state names: in contexts, in values and in guards. Each of their numbers is below a bound.
use Rattle.std.proofs.Common.{ℕ, ℤ, ◌<◌, ◌≤◌, List, [], ◌∷◌, ◌++◌, map, arith}
use Rattle.std.specs.List.{AllByRecursion}
use Rattle.ak_base.specs.declared.number.Ctx.{Ctx}
use Rattle.ak_cells.specs.declared.registration.Registration.{Registration}
use Rattle.ak_rings.specs.declared.job.Job.{Job}
use Rattle.ak_monitor.specs.Monitors.{Monitor}
use Rattle.ak_throttle.specs.declared.stage.Stage.{Stage}
use Rattle.ak_throttle.specs.declared.stage.Stage.TheVariants.{Waiting, Running, Over}
use Rattle.ak_throttle.specs.Throttle.{Throttle}
use Rattle.ak_pipe.specs.Pipe.{Pipe}
use Rattle.ak_frames.specs.declared.value.Value.{Value}
use Rattle.ak_frames.specs.declared.value.Value.TheVariants as value
use Rattle.ak_frames.specs.declared.frame.Frame.{Frame}
use Rattle.ak_frames.specs.declared.frame.Frame.TheVariants.{Call, OnValue, AllPart, ChoicePart, TryDone, BodyDone, BodyFailed, Raise, AnswerOut}
use Rattle.ak_frames.specs.declared.frame.Task.{Task}
use Rattle.ak_program.specs.declared.statement.NumAtom.{NumAtom}
use Rattle.ak_program.specs.declared.statement.NumAtom.TheVariants.{Literal, Local}
use Rattle.ak_script.specs.declared.script.Kind.TheVariants as kind
use Rattle.ak_machine.specs.declared.held.Handler.{Handler}
use Rattle.ak_machine.specs.declared.held.Handler.TheVariants.{OnError, OfGuard, OfBody}
use Rattle.ak_machine.specs.declared.held.Purpose.{Purpose}
use Rattle.ak_machine.specs.declared.held.Purpose.TheVariants.{ForAll, ForAny, ForChoice, ForGuard}
use Rattle.ak_machine.specs.declared.held.Body.{Body}
use Rattle.ak_machine.specs.declared.held.Started.{Started}
use Rattle.ak_machine.specs.declared.held.Read.{Read}
use Rattle.ak_machine.specs.declared.held.Outstanding.{Outstanding}
use Rattle.ak_machine.specs.State.{State}
use Rattle.ak_machine.specs.Mapped.{value_mapped, values_mapped, frame_mapped, job_mapped, registration_mapped, handler_mapped, handled_mapped}
use Rattle.ak_machine.specs.Mapped.{monitor_mapped, purpose_mapped, body_mapped, stage_mapped, throttle_mapped, started_mapped, all_started_mapped}
use Rattle.ak_machine.specs.Mapped.{read_mapped, pipe_mapped, outstanding_mapped, state_mapped}
use Rattle.ak_machine.specs.Effect.{value_of, args_of, name_of, local}
use Rattle.ak_holders.specs.Typed.{KindFits}
use Rattle.ak_holders.proofs.Carry.{all_by, all_map, all_at}

-- ---- what each thing names
abbrev pub ValueIn : ℕ → Value → Type 0
ValueIn n (value.Mon m) = m < n
ValueIn n v = Unit {0}

abbrev pub ValsIn : ℕ → List Value → Type 0
ValsIn n vals = AllByRecursion (ValueIn n) vals

abbrev pub CtxIn : ℕ → Ctx → Type 0
CtxIn n ctx = ctx.mon < n

abbrev pub FrameIn : ℕ → Frame → Type 0
FrameIn n (Call proc vals ret) = ValsIn n vals
FrameIn n (OnValue proc vals ret) = ValsIn n vals
FrameIn n frame = Unit {0}

abbrev pub WaiterIn : ℕ → Registration Frame → Type 0
WaiterIn n g = CtxIn n g.ctx × FrameIn n g.frame

abbrev pub JobIn : ℕ → Job Task → Type 0
JobIn n job = CtxIn n job.ctx × FrameIn n job.frame.frame

abbrev pub ActorIn : ℕ → Handler → Type 0
ActorIn n (OnError proc vals) = ValsIn n vals
ActorIn n h = Unit {0}

abbrev pub HandledIn : ℕ → Ctx × Handler → Type 0
HandledIn n h = CtxIn n h.0 × ActorIn n h.1

abbrev pub MonitorIn : ℕ → Monitor Handler → Type 0
MonitorIn n m = AllByRecursion (HandledIn n) m.handlers

abbrev pub PurposeIn : ℕ → Purpose → Type 0
PurposeIn n (ForAll c) = ValsIn n c.vals
PurposeIn n (ForAny deferreds to) = Unit {0}
PurposeIn n (ForChoice choices vals to) = ValsIn n vals
PurposeIn n (ForGuard ctx m mode c) = CtxIn n ctx × (m < n) × ValsIn n c.vals

abbrev pub BodyIn : ℕ → Body → Type 0
BodyIn n body = CtxIn n body.ctx × ValsIn n body.call.vals

abbrev pub StageIn : ℕ → Stage Body → Type 0
StageIn n (Waiting body) = BodyIn n body
StageIn n stage = Unit {0}

abbrev pub ThrottleIn : ℕ → Throttle Body → Type 0
ThrottleIn n t = AllByRecursion (StageIn n) t.bodies × AllByRecursion (BodyIn n) t.dropped

abbrev pub StartedIn : ℕ → Started → Type 0
StartedIn n body = CtxIn n body.ctx

abbrev pub BodiesIn : ℕ → List Started → Type 0
BodiesIn n bodies = AllByRecursion (StartedIn n) bodies

abbrev pub ReadIn : ℕ → Read → Type 0
ReadIn n r = CtxIn n r.ctx × ValsIn n r.item.vals × ValsIn n r.eof.vals

abbrev pub PipeIn : ℕ → Pipe Read → Type 0
PipeIn n p = AllByRecursion (ReadIn n) p.reads × AllByRecursion (ReadIn n) p.owed

abbrev pub WorkIn : ℕ → Outstanding → Type 0
WorkIn n work = CtxIn n work.ctx

-- everything that a state keeps
abbrev pub StateIn : ℕ → State → Type 0
StateIn n s =
    AllByRecursion (WaiterIn n) s.cells.registrations
    × AllByRecursion (JobIn n) s.queues.normal
    × AllByRecursion (JobIn n) s.queues.low
    × AllByRecursion (MonitorIn n) s.monitors
    × AllByRecursion (PurposeIn n) s.purposes
    × AllByRecursion (ThrottleIn n) s.throttles
    × AllByRecursion (BodiesIn n) s.started
    × AllByRecursion (PipeIn n) s.pipes
    × AllByRecursion (WorkIn n) s.works

-- ---- locals
pub value_in : (n : ℕ) (vals : List Value) (a : NumAtom) → ValsIn n vals → ValueIn n (value_of vals a)
value_in n vals (Literal z) h = tt
value_in n vals (Local k) h = all_at (ValueIn n) vals k (value.Num _) tt h

pub args_in : (n : ℕ) (vals : List Value) (args : List NumAtom) → ValsIn n vals → ValsIn n (args_of vals args)
args_in n vals [] h = tt
args_in n vals (a ∷ args) h = (value_in n vals a h, args_in n vals args h)

pub nums_in : (n : ℕ) (nums : List ℤ) (vals : List Value) → ValsIn n vals → ValsIn n (map value.Num nums ++ vals)
nums_in n [] vals h = h
nums_in n (z ∷ nums) vals h = (tt, nums_in n nums vals h)

-- where a monitor stands, it exists
mon_in : (n : ℕ) (v : Value) → KindFits kind.Mon v → ValueIn n v → name_of v < n
mon_in n (value.Mon m) f h = h
mon_in n v f h = absurd f

pub local_in : (n : ℕ) (vals : List Value) (k : ℕ) → KindFits kind.Mon (local vals k) → ValsIn n vals → name_of (local vals k) < n
local_in n vals k f h = mon_in n (local vals k) f (all_at (ValueIn n) vals k (value.Num _) tt h)

-- ---- a greater bound
module _ (n m : ℕ) (l : n ≤ m) where
  less : (k : ℕ) → k < n → k < m
  less k h = omega (arith, h, l)

  value_more : (v : Value) → ValueIn n v → ValueIn m v
  value_more (value.Mon k) h = less k h
  value_more (value.Num z) h = tt
  value_more (value.Ivar i) h = tt
  value_more (value.Def i) h = tt
  value_more (value.Pipe p) h = tt
  value_more (value.Thr t) h = tt
  value_more (value.Event e) h = tt
  value_more (value.Helper x) h = tt

  pub vals_more : (vals : List Value) → ValsIn n vals → ValsIn m vals
  vals_more vals h = all_by (ValueIn n) (ValueIn m) value_more vals h

  pub frame_more : (f : Frame) → FrameIn n f → FrameIn m f
  frame_more (Call proc vals ret) h = vals_more vals h
  frame_more (OnValue proc vals ret) h = vals_more vals h
  frame_more (AllPart g k) h = tt
  frame_more (ChoicePart g) h = tt
  frame_more (TryDone g) h = tt
  frame_more (BodyDone b) h = tt
  frame_more (BodyFailed b e) h = tt
  frame_more (Raise e) h = tt
  frame_more (AnswerOut q) h = tt

  job_more : (job : Job Task) → JobIn n job → JobIn m job
  job_more job h = (less job.ctx.mon h.0, frame_more job.frame.frame h.1)

  actor_more : (x : Handler) → ActorIn n x → ActorIn m x
  actor_more (OnError proc vals) h = vals_more vals h
  actor_more (OfGuard g) h = tt
  actor_more (OfBody b) h = tt

  monitor_more : (x : Monitor Handler) → MonitorIn n x → MonitorIn m x
  monitor_more x h = all_by (HandledIn n) (HandledIn m) (λ a g. (less a.0.mon g.0, actor_more a.1 g.1)) x.handlers h

  purpose_more : (q : Purpose) → PurposeIn n q → PurposeIn m q
  purpose_more (ForAll c) h = vals_more c.vals h
  purpose_more (ForAny ds r) h = tt
  purpose_more (ForChoice choices vals r) h = vals_more vals h
  purpose_more (ForGuard ctx k mode c) h = (less ctx.mon h.0, less k h.1, vals_more c.vals h.2)

  body_more : (b : Body) → BodyIn n b → BodyIn m b
  body_more b h = (less b.ctx.mon h.0, vals_more b.call.vals h.1)

  stage_more : (x : Stage Body) → StageIn n x → StageIn m x
  stage_more (Waiting body) h = body_more body h
  stage_more Running h = tt
  stage_more Over h = tt

  throttle_more : (t : Throttle Body) → ThrottleIn n t → ThrottleIn m t
  throttle_more t h = (all_by (StageIn n) (StageIn m) stage_more t.bodies h.0, all_by (BodyIn n) (BodyIn m) body_more t.dropped h.1)

  read_more : (r : Read) → ReadIn n r → ReadIn m r
  read_more r h = (less r.ctx.mon h.0, vals_more r.item.vals h.1, vals_more r.eof.vals h.2)

  pipe_more : (p : Pipe Read) → PipeIn n p → PipeIn m p
  pipe_more p h = (all_by (ReadIn n) (ReadIn m) read_more p.reads h.0, all_by (ReadIn n) (ReadIn m) read_more p.owed h.1)

  pub state_more : (s : State) → StateIn n s → StateIn m s
  state_more s h = (
    all_by (WaiterIn n) (WaiterIn m) (λ g x. (less g.ctx.mon x.0, frame_more g.frame x.1)) s.cells.registrations h.0,
    all_by (JobIn n) (JobIn m) job_more s.queues.normal h.1,
    all_by (JobIn n) (JobIn m) job_more s.queues.low h.2,
    all_by (MonitorIn n) (MonitorIn m) monitor_more s.monitors h.3,
    all_by (PurposeIn n) (PurposeIn m) purpose_more s.purposes h.4,
    all_by (ThrottleIn n) (ThrottleIn m) throttle_more s.throttles h.5,
    all_by (BodiesIn n) (BodiesIn m) (λ bodies x. all_by (StartedIn n) (StartedIn m) (λ b y. less b.ctx.mon y) bodies x) s.started h.6,
    all_by (PipeIn n) (PipeIn m) pipe_more s.pipes h.7,
    all_by (WorkIn n) (WorkIn m) (λ w x. less w.ctx.mon x) s.works h.8,
  )

-- ---- other names of ivars
module _ (n : ℕ) (f : ℕ → ℕ) where
  value_mapped_in : (v : Value) → ValueIn n v → ValueIn n (value_mapped f v)
  value_mapped_in (value.Mon k) h = h
  value_mapped_in (value.Num z) h = tt
  value_mapped_in (value.Ivar i) h = tt
  value_mapped_in (value.Def i) h = tt
  value_mapped_in (value.Pipe p) h = tt
  value_mapped_in (value.Thr t) h = tt
  value_mapped_in (value.Event e) h = tt
  value_mapped_in (value.Helper x) h = tt

  vals_mapped_in : (vals : List Value) → ValsIn n vals → ValsIn n (values_mapped f vals)
  vals_mapped_in vals h = all_map (ValueIn n) (ValueIn n) (value_mapped f) value_mapped_in vals h

  frame_mapped_in : (x : Frame) → FrameIn n x → FrameIn n (frame_mapped f x)
  frame_mapped_in (Call proc vals ret) h = vals_mapped_in vals h
  frame_mapped_in (OnValue proc vals ret) h = vals_mapped_in vals h
  frame_mapped_in (AllPart g k) h = tt
  frame_mapped_in (ChoicePart g) h = tt
  frame_mapped_in (TryDone g) h = tt
  frame_mapped_in (BodyDone b) h = tt
  frame_mapped_in (BodyFailed b e) h = tt
  frame_mapped_in (Raise e) h = tt
  frame_mapped_in (AnswerOut q) h = tt

  job_mapped_in : (job : Job Task) → JobIn n job → JobIn n (job_mapped f job)
  job_mapped_in job h = (h.0, frame_mapped_in job.frame.frame h.1)

  actor_mapped_in : (x : Handler) → ActorIn n x → ActorIn n (handler_mapped f x)
  actor_mapped_in (OnError proc vals) h = vals_mapped_in vals h
  actor_mapped_in (OfGuard g) h = tt
  actor_mapped_in (OfBody b) h = tt

  monitor_mapped_in : (x : Monitor Handler) → MonitorIn n x → MonitorIn n (monitor_mapped f x)
  monitor_mapped_in x h = all_map (HandledIn n) (HandledIn n) (handled_mapped f) (λ a g. (g.0, actor_mapped_in a.1 g.1)) x.handlers h

  purpose_mapped_in : (q : Purpose) → PurposeIn n q → PurposeIn n (purpose_mapped f q)
  purpose_mapped_in (ForAll c) h = vals_mapped_in c.vals h
  purpose_mapped_in (ForAny ds r) h = tt
  purpose_mapped_in (ForChoice choices vals r) h = vals_mapped_in vals h
  purpose_mapped_in (ForGuard ctx k mode c) h = (h.0, h.1, vals_mapped_in c.vals h.2)

  body_mapped_in : (b : Body) → BodyIn n b → BodyIn n (body_mapped f b)
  body_mapped_in b h = (h.0, vals_mapped_in b.call.vals h.1)

  stage_mapped_in : (x : Stage Body) → StageIn n x → StageIn n (stage_mapped f x)
  stage_mapped_in (Waiting body) h = body_mapped_in body h
  stage_mapped_in Running h = tt
  stage_mapped_in Over h = tt

  throttle_mapped_in : (t : Throttle Body) → ThrottleIn n t → ThrottleIn n (throttle_mapped f t)
  throttle_mapped_in t h = (
    all_map (StageIn n) (StageIn n) (stage_mapped f) stage_mapped_in t.bodies h.0,
    all_map (BodyIn n) (BodyIn n) (body_mapped f) body_mapped_in t.dropped h.1,
  )

  bodies_mapped_in : (bodies : List Started) → BodiesIn n bodies → BodiesIn n (all_started_mapped f bodies)
  bodies_mapped_in bodies h = all_map (StartedIn n) (StartedIn n) (started_mapped f) (λ b g. g) bodies h

  read_mapped_in : (r : Read) → ReadIn n r → ReadIn n (read_mapped f r)
  read_mapped_in r h = (h.0, vals_mapped_in r.item.vals h.1, vals_mapped_in r.eof.vals h.2)

  pipe_mapped_in : (p : Pipe Read) → PipeIn n p → PipeIn n (pipe_mapped f p)
  pipe_mapped_in p h = (
    all_map (ReadIn n) (ReadIn n) (read_mapped f) read_mapped_in p.reads h.0,
    all_map (ReadIn n) (ReadIn n) (read_mapped f) read_mapped_in p.owed h.1,
  )

  pub state_mapped_in : (s : State) → StateIn n s → StateIn n (state_mapped f s)
  state_mapped_in s h = (
    all_map (WaiterIn n) (WaiterIn n) (registration_mapped f) (λ g x. (x.0, frame_mapped_in g.frame x.1)) s.cells.registrations h.0,
    all_map (JobIn n) (JobIn n) (job_mapped f) job_mapped_in s.queues.normal h.1,
    all_map (JobIn n) (JobIn n) (job_mapped f) job_mapped_in s.queues.low h.2,
    all_map (MonitorIn n) (MonitorIn n) (monitor_mapped f) monitor_mapped_in s.monitors h.3,
    all_map (PurposeIn n) (PurposeIn n) (purpose_mapped f) purpose_mapped_in s.purposes h.4,
    all_map (ThrottleIn n) (ThrottleIn n) (throttle_mapped f) throttle_mapped_in s.throttles h.5,
    all_map (BodiesIn n) (BodiesIn n) (all_started_mapped f) bodies_mapped_in s.started h.6,
    all_map (PipeIn n) (PipeIn n) (pipe_mapped f) pipe_mapped_in s.pipes h.7,
    all_map (WorkIn n) (WorkIn n) (outstanding_mapped f) (λ w x. x) s.works h.8,
  )
