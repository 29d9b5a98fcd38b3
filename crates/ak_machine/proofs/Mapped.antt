-- Laws of the maps of names: a map after a map is one map, and an operation on the named state is the operation, named.
use Rattle.std.proofs.Common.{ℕ, ◌+◌, ◌≡◌, List, [], ◌∷◌, ◌++◌, map, refl, ap, sym, ◌∙◌, Bool, true, false, cond}
use Rattle.std.specs.Prelude.{ℤ, filter, fold, Option, Some, None}
use Rattle.std.proofs.lemmas.List.{map-append}
use Rattle.ak_base.specs.declared.number.Ctx.{Ctx}
use Rattle.ak_frames.specs.declared.value.Value.{Value}
use Rattle.ak_frames.specs.declared.value.Value.TheVariants.{Num, Ivar, Def, Mon, Pipe, Thr, Event, Helper}
use Rattle.ak_frames.specs.declared.frame.Ret.{Ret}
use Rattle.ak_frames.specs.declared.frame.Ret.TheVariants.{Drop, To, TryBody, ThrottleBody}
use Rattle.ak_frames.specs.declared.frame.Frame.{Frame}
use Rattle.ak_frames.specs.declared.frame.Frame.TheVariants.{Call, OnValue, AllPart, ChoicePart, TryDone, BodyDone, BodyFailed, Raise, AnswerOut}
use Rattle.ak_frames.specs.declared.frame.Task.{Task}
use Rattle.ak_trace.specs.declared.entry.Entry.TheVariants as entry
use Rattle.ak_rings.specs.declared.job.Job.{Job}
use Rattle.ak_rings.specs.Queues.{Queues, with_job}
use Rattle.ak_cells.specs.declared.registration.Registration.{Registration}
use Rattle.ak_cells.specs.Cells.{filled, waiting_on, is_on, is_off}
use Rattle.ak_monitor.specs.Monitors.{Monitor}
use Rattle.ak_clock.specs.Clock.{Clock}
use Rattle.ak_throttle.specs.declared.stage.Stage.{Stage}
use Rattle.ak_throttle.specs.declared.stage.Stage.TheVariants.{Waiting, Running, Over}
use Rattle.ak_throttle.specs.Throttle.{Throttle}
use Rattle.ak_pipe.specs.Pipe as pipes
use Rattle.ak_machine.specs.declared.held.Callback.{Callback}
use Rattle.ak_machine.specs.declared.held.Handler.{Handler}
use Rattle.ak_machine.specs.declared.held.Handler.TheVariants.{OnError, OfGuard, OfBody}
use Rattle.ak_machine.specs.declared.held.Choosable.{Choosable}
use Rattle.ak_machine.specs.declared.held.Purpose.{Purpose}
use Rattle.ak_machine.specs.declared.held.Purpose.TheVariants.{ForAll, ForAny, ForChoice, ForGuard}
use Rattle.ak_machine.specs.declared.held.Body.{Body}
use Rattle.ak_machine.specs.declared.held.Started.{Started}
use Rattle.ak_machine.specs.declared.held.Read.{Read}
use Rattle.ak_machine.specs.State.{State}
use Rattle.ak_machine.specs.Deferred.{noting, enqueue, woken_task, woken_by, fill_empty, fill_at, fill, register, register_at, number_at}
use Rattle.ak_machine.specs.Mapped.{value_mapped, values_mapped, ret_mapped, frame_mapped, task_mapped, job_mapped, queues_mapped, registration_mapped, registration_named, callback_mapped, handler_mapped, handled_mapped, monitor_mapped, choosable_mapped, purpose_mapped, body_mapped, stage_mapped, mark_mapped, throttle_mapped, started_mapped, all_started_mapped, read_mapped, flush_mapped, pipe_mapped, alarm_mapped, clock_mapped, outstanding_mapped, requested_mapped, state_mapped, state_named}

-- a map after a map is a map
pub map_by : {A B C : Type 0} (g : B → C) (f : A → B) (h : A → C) → ((x : A) → g (f x) ≡ h x) → (xs : List A) → map g (map f xs) ≡ map h xs
map_by g f h e [] = refl
map_by g f h e (x ∷ xs) = ap (λ y. y ∷ map g (map f xs)) (e x) ∙ ap (λ ys. h x ∷ ys) (map_by g f h e xs)

pub numbers_law : (g f : ℕ → ℕ) (is : List ℕ) → map g (map f is) ≡ map (λ i. g (f i)) is
numbers_law g f is = map_by g f (λ i. g (f i)) (λ i. refl) is

pub value_law : (g f : ℕ → ℕ) (v : Value) → value_mapped g (value_mapped f v) ≡ value_mapped (λ i. g (f i)) v
value_law g f (Num z) = refl
value_law g f (Ivar i) = refl
value_law g f (Def i) = refl
value_law g f (Mon m) = refl
value_law g f (Pipe p) = refl
value_law g f (Thr t) = refl
value_law g f (Event e) = refl
value_law g f (Helper h) = refl

pub values_law : (g f : ℕ → ℕ) (vs : List Value) → values_mapped g (values_mapped f vs) ≡ values_mapped (λ i. g (f i)) vs
values_law g f vs = map_by (value_mapped g) (value_mapped f) (value_mapped (λ i. g (f i))) (value_law g f) vs

pub ret_law : (g f : ℕ → ℕ) (r : Ret) → ret_mapped g (ret_mapped f r) ≡ ret_mapped (λ i. g (f i)) r
ret_law g f Drop = refl
ret_law g f (To i) = refl
ret_law g f (TryBody b) = refl
ret_law g f (ThrottleBody b) = refl

pub frame_law : (g f : ℕ → ℕ) (fr : Frame) → frame_mapped g (frame_mapped f fr) ≡ frame_mapped (λ i. g (f i)) fr
frame_law g f (Call proc vals ret) = rw (values_law g f vals, ret_law g f ret) refl
frame_law g f (OnValue proc vals ret) = rw (values_law g f vals, ret_law g f ret) refl
frame_law g f (AllPart a k) = refl
frame_law g f (ChoicePart a) = refl
frame_law g f (TryDone a) = refl
frame_law g f (BodyDone b) = refl
frame_law g f (BodyFailed b e) = refl
frame_law g f (Raise e) = refl
frame_law g f (AnswerOut q) = refl

pub job_law : (g f : ℕ → ℕ) (job : Job Task) → job_mapped g (job_mapped f job) ≡ job_mapped (λ i. g (f i)) job
job_law g f job = rw (frame_law g f job.frame.frame) refl

pub jobs_law : (g f : ℕ → ℕ) (jobs : List (Job Task)) → map (job_mapped g) (map (job_mapped f) jobs) ≡ map (job_mapped (λ i. g (f i))) jobs
jobs_law g f jobs = map_by (job_mapped g) (job_mapped f) (job_mapped (λ i. g (f i))) (job_law g f) jobs

pub callback_law : (g f : ℕ → ℕ) (c : Callback) → callback_mapped g (callback_mapped f c) ≡ callback_mapped (λ i. g (f i)) c
callback_law g f c = rw (values_law g f c.vals) refl

pub handler_law : (g f : ℕ → ℕ) (h : Handler) → handler_mapped g (handler_mapped f h) ≡ handler_mapped (λ i. g (f i)) h
handler_law g f (OnError proc vals) = rw (values_law g f vals) refl
handler_law g f (OfGuard b) = refl
handler_law g f (OfBody b) = refl

pub handled_law : (g f : ℕ → ℕ) (h : Ctx × Handler) → handled_mapped g (handled_mapped f h) ≡ handled_mapped (λ i. g (f i)) h
handled_law g f h = rw (handler_law g f h.1) refl

pub monitor_law : (g f : ℕ → ℕ) (m : Monitor Handler) → monitor_mapped g (monitor_mapped f m) ≡ monitor_mapped (λ i. g (f i)) m
monitor_law g f m =
    rw (map_by (handled_mapped g) (handled_mapped f) (handled_mapped (λ i. g (f i))) (handled_law g f) m.handlers, numbers_law g f m.next_errors) refl

pub choosable_law : (g f : ℕ → ℕ) (c : Choosable) → choosable_mapped g (choosable_mapped f c) ≡ choosable_mapped (λ i. g (f i)) c
choosable_law g f c = refl

pub purpose_law : (g f : ℕ → ℕ) (p : Purpose) → purpose_mapped g (purpose_mapped f p) ≡ purpose_mapped (λ i. g (f i)) p
purpose_law g f (ForAll c) = rw (callback_law g f c) refl
purpose_law g f (ForAny ds r) = rw (numbers_law g f ds) refl
purpose_law g f (ForChoice choices vals r) =
    rw (map_by (choosable_mapped g) (choosable_mapped f) (choosable_mapped (λ i. g (f i))) (choosable_law g f) choices, values_law g f vals) refl
purpose_law g f (ForGuard ctx m mode c) = rw (callback_law g f c) refl

pub body_law : (g f : ℕ → ℕ) (b : Body) → body_mapped g (body_mapped f b) ≡ body_mapped (λ i. g (f i)) b
body_law g f b = rw (callback_law g f b.call) refl

pub stage_law : (g f : ℕ → ℕ) (x : Stage Body) → stage_mapped g (stage_mapped f x) ≡ stage_mapped (λ i. g (f i)) x
stage_law g f (Waiting body) = rw (body_law g f body) refl
stage_law g f Running = refl
stage_law g f Over = refl

pub throttle_law : (g f : ℕ → ℕ) (t : Throttle Body) → throttle_mapped g (throttle_mapped f t) ≡ throttle_mapped (λ i. g (f i)) t
throttle_law g f t =
    rw (
      map_by (stage_mapped g) (stage_mapped f) (stage_mapped (λ i. g (f i))) (stage_law g f) t.bodies,
      map_by (body_mapped g) (body_mapped f) (body_mapped (λ i. g (f i))) (body_law g f) t.dropped,
      map_by (mark_mapped g) (mark_mapped f) (mark_mapped (λ i. g (f i))) (λ m. refl) t.marks,
    )
    refl

pub all_started_law : (g f : ℕ → ℕ) (xs : List Started) → all_started_mapped g (all_started_mapped f xs) ≡ all_started_mapped (λ i. g (f i)) xs
all_started_law g f xs = map_by (started_mapped g) (started_mapped f) (started_mapped (λ i. g (f i))) (λ b. refl) xs

pub read_law : (g f : ℕ → ℕ) (r : Read) → read_mapped g (read_mapped f r) ≡ read_mapped (λ i. g (f i)) r
read_law g f r = rw (callback_law g f r.item, callback_law g f r.eof) refl

pub reads_law : (g f : ℕ → ℕ) (rs : List Read) → map (read_mapped g) (map (read_mapped f) rs) ≡ map (read_mapped (λ i. g (f i))) rs
reads_law g f rs = map_by (read_mapped g) (read_mapped f) (read_mapped (λ i. g (f i))) (read_law g f) rs

pub pipe_law : (g f : ℕ → ℕ) (p : pipes.Pipe Read) → pipe_mapped g (pipe_mapped f p) ≡ pipe_mapped (λ i. g (f i)) p
pipe_law g f p =
    rw (
      reads_law g f p.reads,
      numbers_law g f p.pushbacks,
      map_by (flush_mapped g) (flush_mapped f) (flush_mapped (λ i. g (f i))) (λ x. refl) p.flushes,
      reads_law g f p.owed,
    )
    refl

pub clock_law : (g f : ℕ → ℕ) (c : Clock) → clock_mapped g (clock_mapped f c) ≡ clock_mapped (λ i. g (f i)) c
clock_law g f c =
    rw (map_by (alarm_mapped g) (alarm_mapped f) (alarm_mapped (λ i. g (f i))) (λ a. refl) c.alarms, numbers_law g f c.yields) refl

pub registration_law : (g f : ℕ → ℕ) (r : Registration Frame) → registration_mapped g (registration_mapped f r) ≡ registration_mapped (λ i. g (f i)) r
registration_law g f r = rw (frame_law g f r.frame) refl

-- a map of the state after a map of it is one map
pub state_twice : (g f : ℕ → ℕ) (s : State) → state_mapped g (state_mapped f s) ≡ state_mapped (λ i. g (f i)) s
state_twice g f s =
    rw (
      map_by (registration_mapped g) (registration_mapped f) (registration_mapped (λ i. g (f i))) (registration_law g f) s.cells.registrations,
      jobs_law g f s.queues.normal,
      jobs_law g f s.queues.low,
      map_by (monitor_mapped g) (monitor_mapped f) (monitor_mapped (λ i. g (f i))) (monitor_law g f) s.monitors,
      map_by (purpose_mapped g) (purpose_mapped f) (purpose_mapped (λ i. g (f i))) (purpose_law g f) s.purposes,
      map_by (throttle_mapped g) (throttle_mapped f) (throttle_mapped (λ i. g (f i))) (throttle_law g f) s.throttles,
      map_by (all_started_mapped g) (all_started_mapped f) (all_started_mapped (λ i. g (f i))) (all_started_law g f) s.started,
      map_by (pipe_mapped g) (pipe_mapped f) (pipe_mapped (λ i. g (f i))) (pipe_law g f) s.pipes,
      clock_law g f s.clock,
      map_by (outstanding_mapped g) (outstanding_mapped f) (outstanding_mapped (λ i. g (f i))) (λ w. refl) s.works,
      map_by (requested_mapped g) (requested_mapped f) (requested_mapped (λ i. g (f i))) (λ q. refl) s.requests,
    )
    refl

-- a registration is mapped after its frame was named
pub registration_named_law : (g f : ℕ → ℕ) (r : Registration Frame)
    → registration_mapped g (registration_named f r) ≡ registration_named (λ i. g (f i)) (record r { ivar = g r.ivar })
registration_named_law g f r = rw (frame_law g f r.frame) refl

registrations_named_law : (g f : ℕ → ℕ) (rs : List (Registration Frame))
    → map (registration_mapped g) (map (registration_named f) rs) ≡ map (registration_named (λ i. g (f i)))
    (map (λ (r : Registration Frame). record r { ivar = g r.ivar }) rs)
registrations_named_law g f rs =
    map_by (registration_mapped g) (registration_named f) (λ r. registration_named (λ i. g (f i)) (record r { ivar = g r.ivar }))
    (registration_named_law g f) rs
    ∙ sym (map_by (registration_named (λ i. g (f i))) (λ (r : Registration Frame). record r { ivar = g r.ivar })
    (λ r. registration_named (λ i. g (f i)) (record r { ivar = g r.ivar })) (λ r. refl) rs)

-- a state is mapped after it was named: the handlers' ivars are mapped, and all else is named by both
pub state_named_law : (g f : ℕ → ℕ) (s : State)
    → state_mapped g (state_named f s) ≡ state_named (λ i. g (f i))
    (record s { cells = record s.cells { registrations = map (λ (r : Registration Frame). record r { ivar = g r.ivar }) s.cells.registrations } })
state_named_law g f s =
    rw (
      registrations_named_law g f s.cells.registrations,
      jobs_law g f s.queues.normal,
      jobs_law g f s.queues.low,
      map_by (monitor_mapped g) (monitor_mapped f) (monitor_mapped (λ i. g (f i))) (monitor_law g f) s.monitors,
      map_by (purpose_mapped g) (purpose_mapped f) (purpose_mapped (λ i. g (f i))) (purpose_law g f) s.purposes,
      map_by (throttle_mapped g) (throttle_mapped f) (throttle_mapped (λ i. g (f i))) (throttle_law g f) s.throttles,
      map_by (all_started_mapped g) (all_started_mapped f) (all_started_mapped (λ i. g (f i))) (all_started_law g f) s.started,
      map_by (pipe_mapped g) (pipe_mapped f) (pipe_mapped (λ i. g (f i))) (pipe_law g f) s.pipes,
      clock_law g f s.clock,
      map_by (outstanding_mapped g) (outstanding_mapped f) (outstanding_mapped (λ i. g (f i))) (λ w. refl) s.works,
      map_by (requested_mapped g) (requested_mapped f) (requested_mapped (λ i. g (f i))) (λ q. refl) s.requests,
    )
    refl

-- a job behind the others
job_last : (f : ℕ → ℕ) (b : Bool) (n : ℕ) (ctx : Ctx) (task : Task) (q : Queues Task) →
    queues_mapped f (cond b (record q { low = q.low ++ record { no = n; ctx = ctx; frame = task } ∷ []; next = q.next + 1 })
    (record q { normal = q.normal ++ record { no = n; ctx = ctx; frame = task } ∷ []; next = q.next + 1 }))
    ≡ cond b (record (queues_mapped f q) {
      low = map
          (job_mapped f) q.low ++ record { no = n; ctx = ctx; frame = task_mapped f task } ∷ [];
      next = q.next + 1;
    })
    (record (queues_mapped f q) {
      normal = map
          (job_mapped f) q.normal ++ record { no = n; ctx = ctx; frame = task_mapped f task } ∷ [];
      next = q.next + 1;
    })
job_last f true n ctx task q = rw map-append refl
job_last f false n ctx task q = rw map-append refl

pub with_job_named : (f : ℕ → ℕ) (ctx : Ctx) (task : Task) (q : Queues Task)
    → queues_mapped f (with_job ctx task q) ≡ with_job ctx (task_mapped f task) (queues_mapped f q)
with_job_named f ctx task q = job_last f ctx.low q.next ctx task q

pub enqueue_named : (f : ℕ → ℕ) (ctx : Ctx) (task : Task) (s : State) → state_named f (enqueue ctx task s) ≡ enqueue ctx (task_mapped f task) (state_named f s)
enqueue_named f ctx task s =
    ap (λ (q : Queues Task). noting (entry.Enq s.queues.next ctx.low) (record (state_named f s) { queues = q })) (with_job_named f ctx task s.queues)

-- a filter by what the map keeps
pub filter_mapped : {A B : Type 0} (p : A → Bool) (q : B → Bool) (h : A → B) → ((x : A) → q (h x) ≡ p x) → (xs : List A)
    → filter q (map h xs) ≡ map h (filter p xs)
filter_mapped p q h e [] = refl
filter_mapped p q h e (x ∷ xs) =
    ap (λ b. cond b (h x ∷ filter q (map h xs)) (filter q (map h xs))) (e x) ∙ ap (λ ys. cond (p x) (h x ∷ ys) ys) (filter_mapped p q h e xs) ∙ into (p x)
  where
    into : (b : Bool) → cond b (h x ∷ map h (filter p xs)) (map h (filter p xs)) ≡ map h (cond b (x ∷ filter p xs) (filter p xs))
    into true = refl
    into false = refl

pub woken_named : (f : ℕ → ℕ) (v : ℤ) (gs : List (Registration Frame)) (s : State)
    → state_named f (fold (woken_by v) s gs) ≡ fold (woken_by v) (state_named f s) (map (registration_named f) gs)
woken_named f v [] s = refl
woken_named f v (g ∷ gs) s =
    woken_named f v gs (woken_by v s g)
    ∙ ap (λ t. fold (woken_by v) t (map (registration_named f) gs)) (enqueue_named f g.ctx (woken_task g.frame v) s)

pub fill_empty_named : (f : ℕ → ℕ) (i : ℕ) (v : ℤ) (s : State) → state_named f (fill_empty i v s) ≡ fill_empty i v (state_named f s)
fill_empty_named f i v s =
    let t : State = noting (entry.Fill i v) (record s { cells = filled i v s.cells })
    in woken_named f v (waiting_on i s.cells) t
    ∙ ap (λ gs. fold (woken_by v) (state_named f t) gs) (sym (filter_mapped (is_on i) (is_on i) (registration_named f) (λ g. refl) s.cells.registrations))
    ∙ ap (λ (rs : List (Registration Frame)). fold (woken_by v) (record (state_named f t) { cells = record t.cells { registrations = rs } })
    (filter (is_on i) (map (registration_named f) s.cells.registrations)))
    (sym (filter_mapped (is_off i) (is_off i) (registration_named f) (λ g. refl) s.cells.registrations))

pub fill_at_named : (f : ℕ → ℕ) (o : Option ℤ) (i : ℕ) (v : ℤ) (s : State) → state_named f (fill_at o i v s) ≡ fill_at o i v (state_named f s)
fill_at_named f (Some w) i v s = refl
fill_at_named f None i v s = fill_empty_named f i v s

pub fill_named : (f : ℕ → ℕ) (i : ℕ) (v : ℤ) (s : State) → state_named f (fill i v s) ≡ fill i v (state_named f s)
fill_named f i v s = fill_at_named f (number_at i s) i v s

pub register_at_named : (f : ℕ → ℕ) (o : Option ℤ) (i : ℕ) (ctx : Ctx) (frame : Frame) (s : State)
    → state_named f (register_at o i ctx frame s) ≡ register_at o i ctx (frame_mapped f frame) (state_named f s)
register_at_named f (Some v) i ctx frame s = enqueue_named f ctx (woken_task frame v) s
register_at_named f None i ctx frame s = rw map-append refl

pub register_named : (f : ℕ → ℕ) (i : ℕ) (ctx : Ctx) (frame : Frame) (s : State)
    → state_named f (register i ctx frame s) ≡ register i ctx (frame_mapped f frame) (state_named f s)
register_named f i ctx frame s = register_at_named f (number_at i s) i ctx frame s
