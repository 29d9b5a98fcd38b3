-- Changes of ivars and jobs leave what fits.
use Rattle.std.proofs.Common.{◌≡◌, ℕ, zero, suc, ◌+◌, ◌<◌, ◌≤◌, List, [], ◌∷◌, ◌++◌, length, map, refl, ap, subst, sym, ◌∙◌, arith, Bool, true, false, cond}
use Rattle.std.specs.Prelude.{ℤ, pos, Option, Some, None, MatchOption, fold, filter, ◌==◌, slice_index_or}
use Rattle.std.specs.List.{AllByRecursion, AllZip, slice_get}
use Rattle.std.proofs.lemmas.List.{length-append, length-map}
use Rattle.std.proofs.Math.ListN.{length-set}
use Rattle.ak_base.specs.declared.number.Ctx.{Ctx}
use Rattle.ak_base.specs.Lists.{rest_of}
use Rattle.ak_base.proofs.Lists.{all_push}
use Rattle.ak_script.specs.declared.script.Kind.{Kind}
use Rattle.ak_script.specs.declared.script.Kind.TheVariants.{Num, Ivar, Def, Mon, Pipe, Thr, Event, Helper}
use Rattle.ak_rings.specs.declared.job.Job.{Job}
use Rattle.ak_rings.specs.Queues.{Queues, recounted}
use Rattle.ak_clock.specs.declared.alarm.Alarm.{Alarm}
use Rattle.ak_clock.specs.Clock as clock
use Rattle.ak_clock.specs.Order.{number_of}
use Rattle.ak_base.specs.Numbers.{AreNumbered}
use Rattle.ak_base.proofs.Numbers.{numbered_filtered}
use Rattle.ak_cells.specs.declared.registration.Registration.{Registration}
use Rattle.ak_cells.specs.Names.{renamed}
use Rattle.ak_cells.specs.Cells.{is_on, is_off, filled, waiting_on}
use Rattle.ak_frames.specs.declared.value.Value.{Value}
use Rattle.ak_frames.specs.declared.value.Value.TheVariants as value
use Rattle.ak_frames.specs.declared.frame.Ret.{Ret}
use Rattle.ak_frames.specs.declared.frame.Ret.TheVariants.{Drop, To, TryBody, ThrottleBody}
use Rattle.ak_frames.specs.declared.frame.Frame.{Frame}
use Rattle.ak_frames.specs.declared.frame.Frame.TheVariants.{Call, OnValue, TryDone, BodyDone, BodyFailed, Raise, AllPart, ChoicePart, AnswerOut}
use Rattle.ak_frames.specs.declared.frame.Task.{Task}
use Rattle.ak_trace.specs.declared.entry.Entry.{Entry}
use Rattle.ak_trace.specs.declared.entry.Entry.TheVariants as entry
use Rattle.ak_throttle.specs.declared.stage.Stage.{Stage}
use Rattle.ak_throttle.specs.declared.stage.Stage.TheVariants.{Waiting, Running}
use Rattle.ak_throttle.specs.declared.stage.Mark.{Mark}
use Rattle.ak_throttle.specs.Throttle.{Throttle}
use Rattle.ak_program.specs.declared.program.NumProc.{NumProc}
use Rattle.ak_monitor.specs.Monitors.{Monitor}
use Rattle.ak_machine.specs.declared.held.Choosable.{Choosable}
use Rattle.ak_machine.specs.declared.held.Handler.{Handler}
use Rattle.ak_machine.specs.declared.held.Handler.TheVariants.{OnError, OfGuard, OfBody}
use Rattle.ak_machine.specs.declared.held.Purpose.{Purpose}
use Rattle.ak_machine.specs.declared.held.Purpose.TheVariants.{ForGuard, ForAll, ForAny, ForChoice}
use Rattle.ak_pipe.specs.declared.flush.Flush.{Flush}
use Rattle.ak_pipe.specs.Pipe as part
use Rattle.ak_machine.specs.declared.held.Body.{Body}
use Rattle.ak_machine.specs.declared.held.Read.{Read}
use Rattle.ak_machine.specs.declared.held.Started.{Started}
use Rattle.ak_machine.specs.declared.held.Outstanding.{Outstanding}
use Rattle.ak_machine.specs.State.{State}
use Rattle.ak_machine.specs.Alarms.{yields_filled, alarm_filled, alarms_filled}
use Rattle.ak_machine.specs.Cycle.{cycle_begun}
use Rattle.ak_machine.specs.Deferred.{noting, enqueue, woken_task, with_ivar, woken_by, number_at, fill_empty, fill_at, fill, filled_with, register_at, register, connect_at, connect}
use Rattle.ak_machine.specs.Mapped.{value_mapped, values_mapped, ret_mapped, frame_mapped, job_mapped, registration_mapped, handler_mapped, handled_mapped, monitor_mapped, purpose_mapped, body_mapped, stage_mapped, mark_mapped, throttle_mapped, started_mapped, all_started_mapped, alarm_mapped, clock_mapped, state_renamed, choosable_mapped, read_mapped, flush_mapped, pipe_mapped, outstanding_mapped}
use Rattle.ak_state.specs.Drawn.{Drawn, drawn, More, parts_of}
use Rattle.ak_state.specs.Fits.{ValueFits, ValsFit, kinds_of, RetFits, CallFits, ValueCallFits, FrameFits, HeldFits, JobFits, HandlerFits, ActFits, ActorFits, MonitorFits, PurposeFits, AlarmFits, ClockFits, BodyFits, StageFits, MarkFits, StartedFits, ThrottleFits, StateFits, Fits, numbers, ChoosableFits, ReadFits, FlushFits, PipeFits, WorkFits}
use Rattle.ak_state.proofs.Started.{started_so_many, stand_mapped}

-- ---- lists
all_map : {A B : Type 0} (P : A → Type 0) (Q : B → Type 0) (f : A → B) (h : (x : A) → P x → Q (f x)) (xs : List A) → AllByRecursion P xs
    → AllByRecursion Q (map f xs)
all_map P Q f h [] p = tt
all_map P Q f h (x ∷ xs) p = (h x p.0, all_map P Q f h xs p.1)

pub all_by : {A : Type 0} (P Q : A → Type 0) (h : (x : A) → P x → Q x) (xs : List A) → AllByRecursion P xs → AllByRecursion Q xs
all_by P Q h [] p = tt
all_by P Q h (x ∷ xs) p = (h x p.0, all_by P Q h xs p.1)

pub all_filter : {A : Type 0} (P : A → Type 0) (p : A → Bool) (xs : List A) → AllByRecursion P xs → AllByRecursion P (filter p xs)
all_filter P p [] h = tt
all_filter P p (x ∷ xs) h = into (p x) (all_filter P p xs h.1)
  where
    into : (b : Bool) → AllByRecursion P (filter p xs) → AllByRecursion P (cond b (x ∷ filter p xs) (filter p xs))
    into true q = (h.0, q)
    into false q = q

zip_map : {A B C D : Type 0} (P : A → B → Type 0) (Q : C → D → Type 0) (g : A → C) (h : B → D)
    → ((x : A) (y : B) → P x y → Q (g x) (h y)) → (xs : List A) (ys : List B) → AllZip P xs ys → AllZip Q (map g xs) (map h ys)
zip_map P Q g h e [] [] z = tt
zip_map P Q g h e [] (y ∷ ys) z = absurd z
zip_map P Q g h e (x ∷ xs) [] z = absurd z
zip_map P Q g h e (x ∷ xs) (y ∷ ys) z = (e x y z.0, zip_map P Q g h e xs ys z.1)

zip_by : {A B : Type 0} (P Q : A → B → Type 0) → ((x : A) (y : B) → P x y → Q x y) → (xs : List A) (ys : List B) → AllZip P xs ys → AllZip Q xs ys
zip_by P Q e [] [] z = tt
zip_by P Q e [] (y ∷ ys) z = absurd z
zip_by P Q e (x ∷ xs) [] z = absurd z
zip_by P Q e (x ∷ xs) (y ∷ ys) z = (e x y z.0, zip_by P Q e xs ys z.1)

pub all_get : {A : Type 0} (P : A → Type 0) (xs : List A) (k : ℕ) (x : A) → AllByRecursion P xs → slice_get xs k ≡ Some x → P x
all_get P [] k x h e = absurd (cc)
all_get P (y ∷ ys) zero x h e = let same : y ≡ x = cc in subst P same h.0
all_get P (y ∷ ys) (suc k) x h e = all_get P ys k x h.1 e

-- ---- two lists, place by place
zip_right : {A B : Type 0} (P : A → B → Type 0) (f : B → B) (h : (x : A) (y : B) → P x y → P x (f y)) (xs : List A) (ys : List B) → AllZip P xs ys
    → AllZip P xs (map f ys)
zip_right P f h [] [] p = tt
zip_right P f h (x ∷ xs) (y ∷ ys) p = (h x y p.0, zip_right P f h xs ys p.1)
zip_right P f h [] (y ∷ ys) p = absurd p
zip_right P f h (x ∷ xs) [] p = absurd p

pub zip_push : {A B : Type 0} (P : A → B → Type 0) (xs : List A) (ys : List B) (x : A) (y : B) → AllZip P xs ys → P x y
    → AllZip P (xs ++ x ∷ []) (ys ++ y ∷ [])
zip_push P [] [] x y p q = (q, tt)
zip_push P (v ∷ xs) (w ∷ ys) x y p q = (p.0, zip_push P xs ys x y p.1 q)
zip_push P [] (w ∷ ys) x y p q = absurd p
zip_push P (v ∷ xs) [] x y p q = absurd p

pub zip_at : {A B : Type 0} (P : A → B → Type 0) (xs : List A) (ys : List B) (k : ℕ) (d : A) (e : B) → k < length xs → AllZip P xs ys
    → P (slice_index_or xs k d) (slice_index_or ys k e)
zip_at P [] ys k d e h p = absurd (omega (arith, h))
zip_at P (x ∷ xs) [] k d e h p = absurd p
zip_at P (x ∷ xs) (y ∷ ys) zero d e h p = p.0
zip_at P (x ∷ xs) (y ∷ ys) (suc k) d e h p = zip_at P xs ys k d e (omega (arith, h)) p.1

pub zip_long : {A B : Type 0} (P : A → B → Type 0) (xs : List A) (ys : List B) → AllZip P xs ys → length ys ≡ length xs
zip_long P [] [] p = refl
zip_long P (x ∷ xs) (y ∷ ys) p = ap suc (zip_long P xs ys p.1)
zip_long P [] (y ∷ ys) p = absurd p
zip_long P (x ∷ xs) [] p = absurd p

-- ---- as much is drawn, or more
pub same_more : (n : Drawn) → More n n
same_more n =
    record { ivars = omega arith; monitors = omega arith; groups = omega arith; parts = λ g. omega arith; throttles = omega arith; pipes = omega arith }

pub more_more : (n n' n'' : Drawn) → More n n' → More n' n'' → More n n''
more_more n n' n'' h k = record {
  ivars = omega (arith, h.ivars, k.ivars);
  monitors = omega (arith, h.monitors, k.monitors);
  groups = omega (arith, h.groups, k.groups);
  parts = λ g. omega (arith, h.parts g, k.parts g);
  throttles = omega (arith, h.throttles, k.throttles);
  pipes = omega (arith, h.pipes, k.pipes);
}

-- ---- what fits goes on fitting as more is drawn
value_grows : (n n' : Drawn) (kind : Kind) (v : Value) → More n n' → ValueFits n kind v → ValueFits n' kind v
value_grows n n' Num (value.Num z) h f = tt
value_grows n n' Ivar (value.Ivar i) h f = omega (arith, h.ivars, f)
value_grows n n' Def (value.Ivar i) h f = omega (arith, h.ivars, f)
value_grows n n' Def (value.Def i) h f = omega (arith, h.ivars, f)
value_grows n n' Mon (value.Mon m) h f = omega (arith, h.monitors, f)
value_grows n n' Pipe (value.Pipe p) h f = omega (arith, h.pipes, f)
value_grows n n' Thr (value.Thr t) h f = omega (arith, h.throttles, f)
value_grows n n' Event (value.Event e) h f = tt
value_grows n n' Helper (value.Helper x) h f = tt
value_grows n n' Num v h f = absurd f
value_grows n n' Ivar v h f = absurd f
value_grows n n' Def v h f = absurd f
value_grows n n' Mon v h f = absurd f
value_grows n n' Pipe v h f = absurd f
value_grows n n' Thr v h f = absurd f
value_grows n n' Event v h f = absurd f
value_grows n n' Helper v h f = absurd f

pub vals_grow : (n n' : Drawn) (kinds : List Kind) (vals : List Value) → More n n' → ValsFit n kinds vals → ValsFit n' kinds vals
vals_grow n n' [] [] h f = tt
vals_grow n n' (kind ∷ kinds) (v ∷ vals) h f = (value_grows n n' kind v h f.0, vals_grow n n' kinds vals h f.1)
vals_grow n n' [] (v ∷ vals) h f = absurd f
vals_grow n n' (kind ∷ kinds) [] h f = absurd f

pub ret_grows : (n n' : Drawn) (r : Ret) → More n n' → RetFits n r → RetFits n' r
ret_grows n n' Drop h f = tt
ret_grows n n' (To i) h f = omega (arith, h.ivars, f)
ret_grows n n' (TryBody g) h f = omega (arith, h.groups, f)
ret_grows n n' (ThrottleBody b) h f = tt

call_grows : (o : Option NumProc) (n n' : Drawn) (vals : List Value) → More n n' → MatchOption o ⊥ (λ (p : NumProc). ValsFit n (kinds_of p.params) vals)
    → MatchOption o ⊥ (λ (p : NumProc). ValsFit n' (kinds_of p.params) vals)
call_grows None n n' vals h f = absurd f
call_grows (Some p) n n' vals h f = vals_grow n n' (kinds_of p.params) vals h f

pub call_more : (program : List NumProc) (n n' : Drawn) → More n n' → (proc : ℕ) (vals : List Value) → CallFits program n proc vals
    → CallFits program n' proc vals
call_more program n n' h proc vals f = call_grows (slice_get program proc) n n' vals h f

frame_grows : (program : List NumProc) (n n' : Drawn) → More n n' → (frame : Frame) → FrameFits program n frame → FrameFits program n' frame
frame_grows program n n' h (Call proc vals ret) f = (call_grows (slice_get program proc) n n' vals h f.0, ret_grows n n' ret h f.1)
frame_grows program n n' h (OnValue proc vals ret) f = (call_grows (slice_get program proc) n n' (value.Num (pos 0) ∷ vals) h f.0, ret_grows n n' ret h f.1)
frame_grows program n n' h (AllPart g k) f = omega (arith, h.parts g, f)
frame_grows program n n' h (ChoicePart g) f = omega (arith, h.groups, f)
frame_grows program n n' h (TryDone g) f = omega (arith, h.groups, f)
frame_grows program n n' h (BodyDone b) f = tt
frame_grows program n n' h (BodyFailed b e) f = tt
frame_grows program n n' h (Raise e) f = tt
frame_grows program n n' h (AnswerOut q) f = tt

pub held_grows : (program : List NumProc) (n n' : Drawn) → More n n' → (ctx : Ctx) (frame : Frame) → HeldFits program n ctx frame
    → HeldFits program n' ctx frame
held_grows program n n' h ctx frame f = record { monitor = omega (arith, h.monitors, f.monitor); frame_fits = frame_grows program n n' h frame f.frame_fits }

act_grows : (program : List NumProc) (n n' : Drawn) → More n n' → (x : Handler) → ActFits program n x → ActFits program n' x
act_grows program n n' h (OnError proc vals) f = call_grows (slice_get program proc) n n' (value.Num (pos 0) ∷ vals) h f
act_grows program n n' h (OfGuard g) f = omega (arith, h.groups, f)
act_grows program n n' h (OfBody b) f = tt

pub actor_grows : (program : List NumProc) (n n' : Drawn) → More n n' → (x : Ctx × Handler) → ActorFits program n x → ActorFits program n' x
actor_grows program n n' h x f = record { monitor = omega (arith, h.monitors, f.monitor); act = act_grows program n n' h x.1 f.act }

below_more : (n n' i : ℕ) → n ≤ n' → i < n → i < n'
below_more n n' i h p = omega (arith, h, p)

monitor_grows : (program : List NumProc) (n n' : Drawn) → More n n' → (m : Monitor Handler) → MonitorFits program n m → MonitorFits program n' m
monitor_grows program n n' h m f = record {
  next_errors = all_by (λ i. i < n.ivars) (λ i. i < n'.ivars) (λ i p. below_more n.ivars n'.ivars i h.ivars p) m.next_errors f.next_errors;
  actors = all_by (ActorFits program n) (ActorFits program n') (actor_grows program n n' h) m.handlers f.actors;
}

choosable_grows : (program : List NumProc) (n n' : Drawn) → More n n' → (vals : List Value) (x : Choosable) → ChoosableFits program n vals x
    → ChoosableFits program n' vals x
choosable_grows program n n' h vals x f =
    record { deferred = omega (arith, h.ivars, f.deferred); call = call_more program n n' h x.proc (value.Num (pos 0) ∷ vals) f.call }

pub purpose_grows : (program : List NumProc) (n n' : Drawn) → More n n' → (parts : ℕ) (x : Purpose) → PurposeFits program n parts x
    → PurposeFits program n' parts x
purpose_grows program n n' h parts (ForAll c) f = record {
  few = f.few;
  call = call_more program n n' h c.proc (numbers parts ++ c.vals) f.call;
  result = omega (arith, h.ivars, f.result);
}
purpose_grows program n n' h parts (ForAny ds to) f =
    (all_by (λ i. i < n.ivars) (λ i. i < n'.ivars) (λ i p. below_more n.ivars n'.ivars i h.ivars p) ds f.0, omega (arith, h.ivars, f.1))
purpose_grows program n n' h parts (ForChoice choices vals to) f = (
  all_by (ChoosableFits program n vals) (ChoosableFits program n' vals)
      (choosable_grows program n n' h vals) choices f.0,
  omega (arith, h.ivars, f.1),
)
purpose_grows program n n' h parts (ForGuard ctx m mode c) f = record {
  context = omega (arith, h.monitors, f.context);
  monitor = omega (arith, h.monitors, f.monitor);
  catches = call_grows (slice_get program c.proc) n n' (value.Num (pos 0) ∷ c.vals) h f.catches;
  result = omega (arith, h.ivars, f.result);
}

alarm_grows : (n n' : Drawn) → More n n' → (a : Alarm) → AlarmFits n a → AlarmFits n' a
alarm_grows n n' h a f = omega (arith, h.ivars, f)

clock_grows : (n n' : Drawn) → More n n' → (c : clock.Clock) → ClockFits n c → ClockFits n' c
clock_grows n n' h c f = record {
  yields = all_by (λ i. i < n.ivars) (λ i. i < n'.ivars) (λ i p. below_more n.ivars n'.ivars i h.ivars p) c.yields f.yields;
  alarms = all_by (AlarmFits n) (AlarmFits n') (alarm_grows n n' h) c.alarms f.alarms;
  numbered = f.numbered;
  few = omega (arith, h.ivars, f.few);
}

body_grows : (program : List NumProc) (n n' : Drawn) → More n n' → (x : Body) → BodyFits program n x → BodyFits program n' x
body_grows program n n' h x f = record {
  context = omega (arith, h.monitors, f.context);
  call = call_grows (slice_get program x.call.proc) n n' x.call.vals h f.call;
  result = omega (arith, h.ivars, f.result);
}

stage_grows : (program : List NumProc) (n n' : Drawn) → More n n' → (x : Stage Body) → StageFits program n x → StageFits program n' x
stage_grows program n n' h (Waiting body) f = body_grows program n n' h body f
stage_grows program n n' h x f = f

mark_grows : (n n' : Drawn) → More n n' → (x : Mark) → MarkFits n x → MarkFits n' x
mark_grows n n' h x f = omega (arith, h.ivars, f)

started_grows : (n n' : Drawn) → More n n' → (x : Started) → StartedFits n x → StartedFits n' x
started_grows n n' h x f = record { context = omega (arith, h.monitors, f.context); result = omega (arith, h.ivars, f.result) }

pub throttle_grows : (program : List NumProc) (n n' : Drawn) → More n n' → (x : Throttle Body) (started : List Started)
    → ThrottleFits program n x started → ThrottleFits program n' x started
throttle_grows program n n' h x started f = record {
  waiting = all_by (StageFits program n) (StageFits program n') (stage_grows program n n' h) x.bodies f.waiting;
  dropped = all_by (BodyFits program n) (BodyFits program n') (body_grows program n n' h) x.dropped f.dropped;
  marks = all_by (MarkFits n) (MarkFits n') (mark_grows n n' h) x.marks f.marks;
  bodies = all_by (StartedFits n) (StartedFits n') (started_grows n n' h) started f.bodies;
  so_many = f.so_many;
  stand = f.stand;
  few = omega (arith, h.ivars, f.few);
}

pub read_grows : (program : List NumProc) (n n' : Drawn) → More n n' → (r : Read) → ReadFits program n r → ReadFits program n' r
read_grows program n n' h r f = record {
  context = omega (arith, h.monitors, f.context);
  item = call_grows (slice_get program r.item.proc) n n' (value.Num (pos 0) ∷ r.item.vals) h f.item;
  item_to = omega (arith, h.ivars, f.item_to);
  eof = call_grows (slice_get program r.eof.proc) n n' r.eof.vals h f.eof;
  eof_to = omega (arith, h.ivars, f.eof_to);
}

flush_grows : (n n' : Drawn) → More n n' → (x : Flush) → FlushFits n x → FlushFits n' x
flush_grows n n' h x f = omega (arith, h.ivars, f)

pipe_more : (program : List NumProc) (n n' : Drawn) → More n n' → (x : part.Pipe Read) → PipeFits program n x → PipeFits program n' x
pipe_more program n n' h x f = record {
  reads = all_by (ReadFits program n) (ReadFits program n') (read_grows program n n' h) x.reads f.reads;
  owed = all_by (ReadFits program n) (ReadFits program n') (read_grows program n n' h) x.owed f.owed;
  pushbacks = all_by (λ i. i < n.ivars) (λ i. i < n'.ivars) (λ i p. below_more n.ivars n'.ivars i h.ivars p) x.pushbacks f.pushbacks;
  flushes = all_by (FlushFits n) (FlushFits n') (flush_grows n n' h) x.flushes f.flushes;
}

work_grows : (n n' : Drawn) → More n n' → (work : Outstanding) → WorkFits n work → WorkFits n' work
work_grows n n' h work f = record { monitor = omega (arith, h.monitors, f.monitor); result = omega (arith, h.ivars, f.result) }

-- ---- and as names change within the range
value_mapped_fits : (g : ℕ → ℕ) (n : Drawn) → ((i : ℕ) → i < n.ivars → g i < n.ivars) → (kind : Kind) (v : Value) → ValueFits n kind v
    → ValueFits n kind (value_mapped g v)
value_mapped_fits g n h Num (value.Num z) f = tt
value_mapped_fits g n h Ivar (value.Ivar i) f = h i f
value_mapped_fits g n h Def (value.Ivar i) f = h i f
value_mapped_fits g n h Def (value.Def i) f = h i f
value_mapped_fits g n h Mon (value.Mon m) f = f
value_mapped_fits g n h Pipe (value.Pipe p) f = f
value_mapped_fits g n h Thr (value.Thr t) f = f
value_mapped_fits g n h Event (value.Event e) f = tt
value_mapped_fits g n h Helper (value.Helper x) f = tt
value_mapped_fits g n h Num v f = absurd f
value_mapped_fits g n h Ivar v f = absurd f
value_mapped_fits g n h Def v f = absurd f
value_mapped_fits g n h Mon v f = absurd f
value_mapped_fits g n h Pipe v f = absurd f
value_mapped_fits g n h Thr v f = absurd f
value_mapped_fits g n h Event v f = absurd f
value_mapped_fits g n h Helper v f = absurd f

vals_mapped_fit : (g : ℕ → ℕ) (n : Drawn) → ((i : ℕ) → i < n.ivars → g i < n.ivars) → (kinds : List Kind) (vals : List Value) → ValsFit n kinds vals
    → ValsFit n kinds (values_mapped g vals)
vals_mapped_fit g n h [] [] f = tt
vals_mapped_fit g n h (kind ∷ kinds) (v ∷ vals) f = (value_mapped_fits g n h kind v f.0, vals_mapped_fit g n h kinds vals f.1)
vals_mapped_fit g n h [] (v ∷ vals) f = absurd f
vals_mapped_fit g n h (kind ∷ kinds) [] f = absurd f

call_mapped_fits : (o : Option NumProc) (g : ℕ → ℕ) (n : Drawn) → ((i : ℕ) → i < n.ivars → g i < n.ivars) → (vals : List Value)
    → MatchOption o ⊥ (λ (p : NumProc). ValsFit n (kinds_of p.params) vals)
    → MatchOption o ⊥ (λ (p : NumProc). ValsFit n (kinds_of p.params) (values_mapped g vals))
call_mapped_fits None g n h vals f = absurd f
call_mapped_fits (Some p) g n h vals f = vals_mapped_fit g n h (kinds_of p.params) vals f

ret_mapped_fits : (g : ℕ → ℕ) (n : Drawn) → ((i : ℕ) → i < n.ivars → g i < n.ivars) → (r : Ret) → RetFits n r → RetFits n (ret_mapped g r)
ret_mapped_fits g n h Drop f = tt
ret_mapped_fits g n h (To i) f = h i f
ret_mapped_fits g n h (TryBody x) f = f
ret_mapped_fits g n h (ThrottleBody b) f = tt

frame_mapped_fits : (program : List NumProc) (g : ℕ → ℕ) (n : Drawn) → ((i : ℕ) → i < n.ivars → g i < n.ivars) → (frame : Frame)
    → FrameFits program n frame → FrameFits program n (frame_mapped g frame)
frame_mapped_fits program g n h (Call proc vals ret) f = (call_mapped_fits (slice_get program proc) g n h vals f.0, ret_mapped_fits g n h ret f.1)
frame_mapped_fits program g n h (OnValue proc vals ret) f =
    (call_mapped_fits (slice_get program proc) g n h (value.Num (pos 0) ∷ vals) f.0, ret_mapped_fits g n h ret f.1)
frame_mapped_fits program g n h (AllPart x k) f = f
frame_mapped_fits program g n h (ChoicePart x) f = f
frame_mapped_fits program g n h (TryDone x) f = f
frame_mapped_fits program g n h (BodyDone b) f = tt
frame_mapped_fits program g n h (BodyFailed b e) f = tt
frame_mapped_fits program g n h (Raise e) f = tt
frame_mapped_fits program g n h (AnswerOut q) f = tt

held_mapped : (program : List NumProc) (g : ℕ → ℕ) (n : Drawn) → ((i : ℕ) → i < n.ivars → g i < n.ivars) → (ctx : Ctx) (frame : Frame)
    → HeldFits program n ctx frame → HeldFits program n ctx (frame_mapped g frame)
held_mapped program g n h ctx frame f = record { monitor = f.monitor; frame_fits = frame_mapped_fits program g n h frame f.frame_fits }

act_mapped : (program : List NumProc) (g : ℕ → ℕ) (n : Drawn) → ((i : ℕ) → i < n.ivars → g i < n.ivars) → (x : Handler) → ActFits program n x
    → ActFits program n (handler_mapped g x)
act_mapped program g n h (OnError proc vals) f = call_mapped_fits (slice_get program proc) g n h (value.Num (pos 0) ∷ vals) f
act_mapped program g n h (OfGuard x) f = f
act_mapped program g n h (OfBody b) f = tt

monitor_fits_mapped : (program : List NumProc) (g : ℕ → ℕ) (n : Drawn) → ((i : ℕ) → i < n.ivars → g i < n.ivars) → (m : Monitor Handler)
    → MonitorFits program n m → MonitorFits program n (monitor_mapped g m)
monitor_fits_mapped program g n h m f = record {
  next_errors = all_map (λ i. i < n.ivars) (λ i. i < n.ivars) g h m.next_errors f.next_errors;
  actors =
      all_map (ActorFits program n) (ActorFits program n) (handled_mapped g)
      (λ x p. record { monitor = p.monitor; act = act_mapped program g n h x.1 p.act }) m.handlers f.actors;
}

-- numbers in front of values are no names
pub numbers_mapped : (g : ℕ → ℕ) (parts : ℕ) (vals : List Value) → values_mapped g (numbers parts ++ vals) ≡ numbers parts ++ values_mapped g vals
numbers_mapped g zero vals = refl
numbers_mapped g (suc parts) vals = ap (λ vs. value.Num (pos 0) ∷ vs) (numbers_mapped g parts vals)

purpose_fits_mapped : (program : List NumProc) (g : ℕ → ℕ) (n : Drawn) → ((i : ℕ) → i < n.ivars → g i < n.ivars) → (parts : ℕ) (x : Purpose)
    → PurposeFits program n parts x → PurposeFits program n parts (purpose_mapped g x)
purpose_fits_mapped program g n h parts (ForAll c) f = record {
  few = f.few;
  call = subst (CallFits program n c.proc) (numbers_mapped g parts c.vals)
      (call_mapped_fits (slice_get program c.proc) g n h (numbers parts ++ c.vals) f.call);
  result = h c.to f.result;
}
purpose_fits_mapped program g n h parts (ForAny ds to) f = (all_map (λ i. i < n.ivars) (λ i. i < n.ivars) g h ds f.0, h to f.1)
purpose_fits_mapped program g n h parts (ForChoice choices vals to) f = (
  all_map (ChoosableFits program n vals) (ChoosableFits program n (values_mapped g vals)) (choosable_mapped g)
      (λ x p. record { deferred = h x.deferred p.deferred; call = call_mapped_fits (slice_get program x.proc) g n h (value.Num (pos 0) ∷ vals) p.call })
      choices f.0,
  h to f.1,
)
purpose_fits_mapped program g n h parts (ForGuard ctx m mode c) f = record {
  context = f.context;
  monitor = f.monitor;
  catches = call_mapped_fits (slice_get program c.proc) g n h (value.Num (pos 0) ∷ c.vals) f.catches;
  result = h c.to f.result;
}

numbered_mapped : (g : ℕ → ℕ) (low high : ℕ) (alarms : List Alarm) → AreNumbered number_of low high alarms
    → AreNumbered number_of low high (map (alarm_mapped g) alarms)
numbered_mapped g low high [] h = tt
numbered_mapped g low high (a ∷ alarms) h = (h.0, h.1, numbered_mapped g (a.no + 1) high alarms h.2)

clock_fits_mapped : (g : ℕ → ℕ) (n : Drawn) → ((i : ℕ) → i < n.ivars → g i < n.ivars) → (c : clock.Clock) → ClockFits n c
    → ClockFits n (clock_mapped g c)
clock_fits_mapped g n h c f = record {
  yields = all_map (λ i. i < n.ivars) (λ i. i < n.ivars) g h c.yields f.yields;
  alarms = all_map (AlarmFits n) (AlarmFits n) (alarm_mapped g) (λ a p. h a.ivar p) c.alarms f.alarms;
  numbered = numbered_mapped g 0 c.next c.alarms f.numbered;
  few = f.few;
}

body_fits_mapped : (program : List NumProc) (g : ℕ → ℕ) (n : Drawn) → ((i : ℕ) → i < n.ivars → g i < n.ivars) → (x : Body) → BodyFits program n x
    → BodyFits program n (body_mapped g x)
body_fits_mapped program g n h x f = record {
  context = f.context;
  call = call_mapped_fits (slice_get program x.call.proc) g n h x.call.vals f.call;
  result = h x.call.to f.result;
}

stage_fits_mapped : (program : List NumProc) (g : ℕ → ℕ) (n : Drawn) → ((i : ℕ) → i < n.ivars → g i < n.ivars) → (x : Stage Body)
    → StageFits program n x → StageFits program n (stage_mapped g x)
stage_fits_mapped program g n h (Waiting body) f = body_fits_mapped program g n h body f
stage_fits_mapped program g n h Running f = tt
stage_fits_mapped program g n h x f = tt

throttle_fits_mapped : (program : List NumProc) (g : ℕ → ℕ) (n : Drawn) → ((i : ℕ) → i < n.ivars → g i < n.ivars) → (x : Throttle Body)
    (started : List Started) → ThrottleFits program n x started → ThrottleFits program n (throttle_mapped g x) (all_started_mapped g started)
throttle_fits_mapped program g n h x started f = record {
  waiting = all_map (StageFits program n) (StageFits program n) (stage_mapped g) (stage_fits_mapped program g n h) x.bodies f.waiting;
  dropped = all_map (BodyFits program n) (BodyFits program n) (body_mapped g) (body_fits_mapped program g n h) x.dropped f.dropped;
  marks = all_map (MarkFits n) (MarkFits n) (mark_mapped g) (λ mark p. h mark.ivar p) x.marks f.marks;
  bodies =
      all_map (StartedFits n) (StartedFits n) (started_mapped g)
      (λ body p. record { context = p.context; result = h body.to p.result }) started f.bodies;
  so_many = started_so_many g x started f.so_many;
  stand = stand_mapped g started x.bodies f.stand;
  few = omega (arith, f.few, length-map x.bodies (stage_mapped g));
}

read_fits_mapped : (program : List NumProc) (g : ℕ → ℕ) (n : Drawn) → ((i : ℕ) → i < n.ivars → g i < n.ivars) → (r : Read) → ReadFits program n r
    → ReadFits program n (read_mapped g r)
read_fits_mapped program g n h r f = record {
  context = f.context;
  item = call_mapped_fits (slice_get program r.item.proc) g n h (value.Num (pos 0) ∷ r.item.vals) f.item;
  item_to = h r.item.to f.item_to;
  eof = call_mapped_fits (slice_get program r.eof.proc) g n h r.eof.vals f.eof;
  eof_to = h r.eof.to f.eof_to;
}

pipe_fits_mapped : (program : List NumProc) (g : ℕ → ℕ) (n : Drawn) → ((i : ℕ) → i < n.ivars → g i < n.ivars) → (x : part.Pipe Read)
    → PipeFits program n x → PipeFits program n (pipe_mapped g x)
pipe_fits_mapped program g n h x f = record {
  reads = all_map (ReadFits program n) (ReadFits program n) (read_mapped g) (read_fits_mapped program g n h) x.reads f.reads;
  owed = all_map (ReadFits program n) (ReadFits program n) (read_mapped g) (read_fits_mapped program g n h) x.owed f.owed;
  pushbacks = all_map (λ i. i < n.ivars) (λ i. i < n.ivars) g h x.pushbacks f.pushbacks;
  flushes = all_map (FlushFits n) (FlushFits n) (flush_mapped g) (λ flush p. h flush.ivar p) x.flushes f.flushes;
}

-- ---- the changes of a state
pub grown_fits : (program : List NumProc) (n n' : Drawn) (s : State) → More n n' → StateFits program n s → StateFits program n' s
grown_fits program n n' s h f = record {
  root = omega (arith, h.monitors, f.root);
  handlers = all_by (HandlerFits program n) (HandlerFits program n') (λ g. held_grows program n n' h g.ctx g.frame) s.cells.registrations f.handlers;
  normal = all_by (JobFits program n) (JobFits program n') (λ job. held_grows program n n' h job.ctx job.frame.frame) s.queues.normal f.normal;
  low = all_by (JobFits program n) (JobFits program n') (λ job. held_grows program n n' h job.ctx job.frame.frame) s.queues.low f.low;
  monitors = all_by (MonitorFits program n) (MonitorFits program n') (monitor_grows program n n' h) s.monitors f.monitors;
  purposes = zip_by (PurposeFits program n) (PurposeFits program n') (purpose_grows program n n' h) (parts_of s.groups) s.purposes f.purposes;
  clock = clock_grows n n' h s.clock f.clock;
  throttles = zip_by (ThrottleFits program n) (ThrottleFits program n') (throttle_grows program n n' h) s.throttles s.started f.throttles;
  pipes = all_by (PipeFits program n) (PipeFits program n') (pipe_more program n n' h) s.pipes f.pipes;
  works = all_by (WorkFits n) (WorkFits n') (work_grows n n' h) s.works f.works;
}

job_pushed : (program : List NumProc) (n : Drawn) (b : Bool) (job : Job Task) (q : Queues Task) (s : State)
    → StateFits program n (record s { queues = q }) → JobFits program n job → (e : Entry) →
    StateFits program n (noting e (record s {
      queues = cond b (record q { low = q.low ++ job ∷ []; next = q.next + 1 })
          (record q { normal = q.normal ++ job ∷ []; next = q.next + 1 });
    }))
job_pushed program n true job q s f p e = record {
  root = f.root;
  handlers = f.handlers;
  normal = f.normal;
  low = all_push (JobFits program n) q.low job f.low p;
  monitors = f.monitors;
  purposes = f.purposes;
  clock = f.clock;
  throttles = f.throttles;
  pipes = f.pipes;
  works = f.works;
}
job_pushed program n false job q s f p e = record {
  root = f.root;
  handlers = f.handlers;
  normal = all_push (JobFits program n) q.normal job f.normal p;
  low = f.low;
  monitors = f.monitors;
  purposes = f.purposes;
  clock = f.clock;
  throttles = f.throttles;
  pipes = f.pipes;
  works = f.works;
}

enqueue_fits : (program : List NumProc) (n : Drawn) (ctx : Ctx) (task : Task) (s : State) → StateFits program n s → HeldFits program n ctx task.frame
    → StateFits program n (enqueue ctx task s)
enqueue_fits program n ctx task s f p =
    job_pushed program n ctx.low (record { no = s.queues.next; ctx = ctx; frame = task }) s.queues s f p (entry.Enq s.queues.next ctx.low)

register_at_fits : (program : List NumProc) (n : Drawn) (o : Option ℤ) (i : ℕ) (ctx : Ctx) (frame : Frame) (s : State) → StateFits program n s
    → HeldFits program n ctx frame → StateFits program n (register_at o i ctx frame s)
register_at_fits program n (Some v) i ctx frame s f p = enqueue_fits program n ctx (woken_task frame v) s f p
register_at_fits program n None i ctx frame s f p =
    record {
      root = f.root;
      handlers = all_push (HandlerFits program n) s.cells.registrations
          (record { number = s.cells.next; ivar = i; ctx = ctx; frame = frame }) f.handlers p;
      normal = f.normal;
      low = f.low;
      monitors = f.monitors;
      purposes = f.purposes;
      clock = f.clock;
      throttles = f.throttles;
      pipes = f.pipes;
      works = f.works;
    }

woken_fits : (program : List NumProc) (n : Drawn) (v : ℤ) (gs : List (Registration Frame)) (s : State) → StateFits program n s
    → AllByRecursion (HandlerFits program n) gs → StateFits program n (fold (woken_by v) s gs)
woken_fits program n v [] s f p = f
woken_fits program n v (g ∷ gs) s f p = woken_fits program n v gs (woken_by v s g) (enqueue_fits program n g.ctx (woken_task g.frame v) s f p.0) p.1

fill_empty_fits : (program : List NumProc) (n : Drawn) (i : ℕ) (v : ℤ) (s : State) → StateFits program n s → StateFits program n (fill_empty i v s)
fill_empty_fits program n i v s f =
    woken_fits program n v (waiting_on i s.cells) (noting (entry.Fill i v) (record s { cells = filled i v s.cells }))
    (record {
      root = f.root;
      handlers = all_filter (HandlerFits program n) (is_off i) s.cells.registrations f.handlers;
      normal = f.normal;
      low = f.low;
      monitors = f.monitors;
      purposes = f.purposes;
      clock = f.clock;
      throttles = f.throttles;
      pipes = f.pipes;
      works = f.works;
    })
    (all_filter (HandlerFits program n) (is_on i) s.cells.registrations f.handlers)

fill_at_fits : (program : List NumProc) (n : Drawn) (o : Option ℤ) (i : ℕ) (v : ℤ) (s : State) → StateFits program n s → StateFits program n (fill_at o i v s)
fill_at_fits program n (Some w) i v s f = f
fill_at_fits program n None i v s f = fill_empty_fits program n i v s f

renamed_below : (from to n i : ℕ) → to < n → i < n → renamed from to i < n
renamed_below from to n i h p = either (i == from)
  where
    either : (b : Bool) → cond b to i < n
    either true = h
    either false = p

renamed_fits : (program : List NumProc) (n : Drawn) (from to : ℕ) (s : State) → to < n.ivars → StateFits program n s
    → StateFits program n (state_renamed from to s)
renamed_fits program n from to s h f =
    let g : ℕ → ℕ = renamed from to
    in let p : (i : ℕ) → i < n.ivars → g i < n.ivars = λ i q. renamed_below from to n.ivars i h q
    in record {
      root = f.root;
      handlers =
          all_map (HandlerFits program n) (HandlerFits program n) (registration_mapped g)
          (λ r. held_mapped program g n p r.ctx r.frame) s.cells.registrations f.handlers;
      normal =
          all_map (JobFits program n) (JobFits program n) (job_mapped g) (λ job. held_mapped program g n p job.ctx job.frame.frame) s.queues.normal f.normal;
      low = all_map (JobFits program n) (JobFits program n) (job_mapped g) (λ job. held_mapped program g n p job.ctx job.frame.frame) s.queues.low f.low;
      monitors = all_map (MonitorFits program n) (MonitorFits program n) (monitor_mapped g) (monitor_fits_mapped program g n p) s.monitors f.monitors;
      purposes = zip_right (PurposeFits program n) (purpose_mapped g) (purpose_fits_mapped program g n p) (parts_of s.groups) s.purposes f.purposes;
      clock = clock_fits_mapped g n p s.clock f.clock;
      throttles =
          zip_map (ThrottleFits program n) (ThrottleFits program n) (throttle_mapped g) (all_started_mapped g) (throttle_fits_mapped program g n p)
          s.throttles s.started f.throttles;
      pipes = all_map (PipeFits program n) (PipeFits program n) (pipe_mapped g) (pipe_fits_mapped program g n p) s.pipes f.pipes;
      works =
          all_map (WorkFits n) (WorkFits n) (outstanding_mapped g)
          (λ work k. record { monitor = k.monitor; result = p work.to k.result }) s.works f.works;
    }

connect_at_fits : (program : List NumProc) (n : Drawn) (b : Bool) (o p : Option ℤ) (result right : ℕ) (s : State) → result < n.ivars
    → StateFits program n s → StateFits program n (cond b s (connect_at o p result right s))
connect_at_fits program n true o p result right s h f = f
connect_at_fits program n false (Some w) p result right s h f = f
connect_at_fits program n false None (Some v) result right s h f = fill_at_fits program n (number_at result s) result v s f
connect_at_fits program n false None None result right s h f = renamed_fits program n right result (noting (entry.Join result right) s) h f

-- ---- what is drawn afterwards
woken_drawn : (v : ℤ) (gs : List (Registration Frame)) (s : State) → drawn (fold (woken_by v) s gs) ≡ drawn s
woken_drawn v [] s = refl
woken_drawn v (g ∷ gs) s = woken_drawn v gs (woken_by v s g)

fill_at_drawn : (o : Option ℤ) (i : ℕ) (v : ℤ) (s : State) → drawn (fill_at o i v s) ≡ drawn s
fill_at_drawn (Some w) i v s = refl
fill_at_drawn None i v s =
    woken_drawn v (waiting_on i s.cells) (noting (entry.Fill i v) (record s { cells = filled i v s.cells }))
    ∙ ap (λ k. record (drawn s) { ivars = k }) (length-set s.cells.ivars i (Some v))

pub fill_drawn : (i : ℕ) (v : ℤ) (s : State) → drawn (fill i v s) ≡ drawn s
fill_drawn i v s = fill_at_drawn (number_at i s) i v s

register_at_drawn : (o : Option ℤ) (i : ℕ) (ctx : Ctx) (frame : Frame) (s : State) → drawn (register_at o i ctx frame s) ≡ drawn s
register_at_drawn (Some v) i ctx frame s = refl
register_at_drawn None i ctx frame s = refl

pub register_drawn : (i : ℕ) (ctx : Ctx) (frame : Frame) (s : State) → drawn (register i ctx frame s) ≡ drawn s
register_drawn i ctx frame s = register_at_drawn (number_at i s) i ctx frame s

connect_at_drawn : (b : Bool) (o p : Option ℤ) (result right : ℕ) (s : State) → drawn (cond b s (connect_at o p result right s)) ≡ drawn s
connect_at_drawn true o p result right s = refl
connect_at_drawn false (Some w) p result right s = refl
connect_at_drawn false None (Some v) result right s = fill_at_drawn (number_at result s) result v s
connect_at_drawn false None None result right s =
    ap (λ k. record (drawn s) {
      monitors = k;
      throttles = length (map (throttle_mapped (renamed right result)) s.throttles);
      pipes = length (map (pipe_mapped (renamed right result)) s.pipes);
    })
    (length-map s.monitors (monitor_mapped (renamed right result)))
    ∙ ap (λ k. record (drawn s) { throttles = k; pipes = length (map (pipe_mapped (renamed right result)) s.pipes) })
    (length-map s.throttles (throttle_mapped (renamed right result)))
    ∙ ap (λ k. record (drawn s) { pipes = k }) (length-map s.pipes (pipe_mapped (renamed right result)))

-- ---- a change: nothing is gone, and all fits
pub record Grows (program : List NumProc) (s s' : State) : Type 0 where
  pub more : More (drawn s) (drawn s')
  pub fits : Fits program s'

pub same_grows : (program : List NumProc) (s s' : State) → drawn s' ≡ drawn s → StateFits program (drawn s) s' → Grows program s s'
same_grows program s s' e f = record {
  more = subst (More (drawn s)) (sym e) (same_more (drawn s));
  fits = subst (λ n. StateFits program n s') (sym e) f;
}

pub kept_grows : (program : List NumProc) (s : State) → Fits program s → Grows program s s
kept_grows program s f = record { more = same_more (drawn s); fits = f }

pub then_grows : (program : List NumProc) (s t u : State) → Grows program s t → Grows program t u → Grows program s u
then_grows program s t u g h = record { more = more_more (drawn s) (drawn t) (drawn u) g.more h.more; fits = h.fits }

pub noted_grows : (program : List NumProc) (e : Entry) (s : State) → Fits program s → Grows program s (noting e s)
noted_grows program e s f = record { more = same_more (drawn s); fits = f }

pub enqueue_grows : (program : List NumProc) (ctx : Ctx) (task : Task) (s : State) → Fits program s
    → HeldFits program (drawn s) ctx task.frame → Grows program s (enqueue ctx task s)
enqueue_grows program ctx task s f p = record { more = same_more (drawn s); fits = enqueue_fits program (drawn s) ctx task s f p }

pub fill_grows : (program : List NumProc) (i : ℕ) (v : ℤ) (s : State) → Fits program s → Grows program s (fill i v s)
fill_grows program i v s f =
    same_grows program s (fill i v s) (fill_drawn i v s) (fill_at_fits program (drawn s) (number_at i s) i v s f)

pub register_grows : (program : List NumProc) (i : ℕ) (ctx : Ctx) (frame : Frame) (s : State) → Fits program s
    → HeldFits program (drawn s) ctx frame → Grows program s (register i ctx frame s)
register_grows program i ctx frame s f p =
    same_grows program s (register i ctx frame s) (register_drawn i ctx frame s)
    (register_at_fits program (drawn s) (number_at i s) i ctx frame s f p)

pub drawn_one : (s : State) → length (with_ivar s).cells.ivars ≡ length s.cells.ivars + 1
drawn_one s = length-append s.cells.ivars (None ∷ [])

pub ivar_grows : (program : List NumProc) (s : State) → Fits program s → Grows program s (with_ivar s)
ivar_grows program s f =
    let more : More (drawn s) (drawn (with_ivar s)) = record {
      ivars = omega (arith, drawn_one s);
      monitors = omega arith;
      groups = omega arith;
      parts = λ g. omega arith;
      throttles = omega arith;
      pipes = omega arith;
    }
    in record { more = more; fits = grown_fits program (drawn s) (drawn (with_ivar s)) s more f }

pub connect_grows : (program : List NumProc) (result right : ℕ) (s : State) → result < length s.cells.ivars → Fits program s
    → Grows program s (connect result right s)
connect_grows program result right s h f =
    same_grows program s (connect result right s) (connect_at_drawn (result == right) (number_at result s) (number_at right s) result right s)
    (connect_at_fits program (drawn s) (result == right) (number_at result s) (number_at right s) result right s h f)

-- ---- a cycle begins
pub all_filled_grow : (program : List NumProc) (v : ℤ) (is : List ℕ) (s : State) → Fits program s → Grows program s (fold (filled_with v) s is)
all_filled_grow program v [] s f = kept_grows program s f
all_filled_grow program v (i ∷ is) s f =
    let one = fill_grows program i v s f
    in then_grows program s (fill i v s) (fold (filled_with v) (fill i v s) is) one (all_filled_grow program v is (fill i v s) one.fits)

alarms_filled_grow : (program : List NumProc) (alarms : List Alarm) (s : State) → Fits program s → Grows program s (fold alarm_filled s alarms)
alarms_filled_grow program [] s f = kept_grows program s f
alarms_filled_grow program (alarm ∷ alarms) s f =
    let one = fill_grows program alarm.ivar (pos 0) s f
    in then_grows program s (alarm_filled s alarm) (fold alarm_filled (alarm_filled s alarm) alarms) one
    (alarms_filled_grow program alarms (alarm_filled s alarm) one.fits)

pub clock_set_grows : (program : List NumProc) (c : clock.Clock) (s : State) → Fits program s → ClockFits (drawn s) c
    → Grows program s (record s { clock = c })
clock_set_grows program c s f p = record {
  more = same_more (drawn s);
  fits =
      record {
        root = f.root;
        handlers = f.handlers;
        normal = f.normal;
        low = f.low;
        monitors = f.monitors;
        purposes = f.purposes;
        clock = p;
        throttles = f.throttles;
        pipes = f.pipes;
        works = f.works;
      };
}

pub rest_all : {A : Type 0} (P : A → Type 0) (xs : List A) → AllByRecursion P xs → AllByRecursion P (rest_of xs)
rest_all P [] h = tt
rest_all P (x ∷ xs) h = h.1

-- with only some of the alarms
pub fewer_alarms : (n : Drawn) (p : Alarm → Bool) (c : clock.Clock) → ClockFits n c → ClockFits n (record c { alarms = filter p c.alarms })
fewer_alarms n p c f = record {
  yields = f.yields;
  alarms = all_filter (AlarmFits n) p c.alarms f.alarms;
  numbered = numbered_filtered number_of p 0 c.next c.alarms f.numbered;
  few = f.few;
}

without_yields_grows : (program : List NumProc) (s : State) → Fits program s → Grows program s (record s { clock = clock.without_yields s.clock })
without_yields_grows program s f =
    clock_set_grows program (clock.without_yields s.clock) s f
    (record { yields = tt; alarms = f.clock.alarms; numbered = f.clock.numbered; few = f.clock.few })

pub yields_filled_grow : (program : List NumProc) (s : State) → Fits program s → Grows program s (yields_filled s)
yields_filled_grow program s f =
    let t : State = record s { clock = clock.without_yields s.clock }
    in let one = without_yields_grows program s f
    in then_grows program s t (yields_filled s) one (all_filled_grow program (pos 0) s.clock.yields t one.fits)

pub alarms_filled_grows : (program : List NumProc) (s : State) → Fits program s → Grows program s (alarms_filled s)
alarms_filled_grows program s f =
    let t : State = record s { clock = clock.without_due s.clock }
    in let one = clock_set_grows program (clock.without_due s.clock) s f (fewer_alarms (drawn s) (clock.is_early s.clock.time) s.clock f.clock)
    in then_grows program s t (alarms_filled s) one (alarms_filled_grow program (clock.due_alarms s.clock) t one.fits)

pub cycle_grows : (program : List NumProc) (s : State) → Fits program s → Grows program s (cycle_begun s)
cycle_grows program s f =
    let t : State = noting entry.Cycle (record s { queues = recounted s.queues })
    in let one = yields_filled_grow program t f
    in let two = alarms_filled_grows program (yields_filled t) one.fits
    in record { more = more_more (drawn s) (drawn (yields_filled t)) (drawn (cycle_begun s)) one.more two.more; fits = two.fits }

-- ---- any numbers may stand in front of the values of a call
any_number : (n : Drawn) (kind : Kind) (z : ℤ) → ValueFits n kind (value.Num (pos 0)) → ValueFits n kind (value.Num z)
any_number n Num z f = tt
any_number n Ivar z f = absurd f
any_number n Def z f = absurd f
any_number n Mon z f = absurd f
any_number n Pipe z f = absurd f
any_number n Thr z f = absurd f
any_number n Event z f = absurd f
any_number n Helper z f = absurd f

any_numbers : (n : Drawn) (params : List Kind) (zs : List ℤ) (vals : List Value) → ValsFit n params (numbers (length zs) ++ vals)
    → ValsFit n params (map value.Num zs ++ vals)
any_numbers n params [] vals f = f
any_numbers n [] (z ∷ zs) vals f = absurd f
any_numbers n (kind ∷ params) (z ∷ zs) vals f = (any_number n kind z f.0, any_numbers n params zs vals f.1)

pub numbers_call : (program : List NumProc) (n : Drawn) (proc : ℕ) (zs : List ℤ) (vals : List Value)
    → CallFits program n proc (numbers (length zs) ++ vals) → CallFits program n proc (map value.Num zs ++ vals)
numbers_call program n proc zs vals h = by (slice_get program proc) h
  where
    by : (o : Option NumProc) → MatchOption o ⊥ (λ (p : NumProc). ValsFit n (kinds_of p.params) (numbers (length zs) ++ vals))
        → MatchOption o ⊥ (λ (p : NumProc). ValsFit n (kinds_of p.params) (map value.Num zs ++ vals))
    by None f = absurd f
    by (Some p) f = any_numbers n (kinds_of p.params) zs vals f

pub value_call : (program : List NumProc) (n : Drawn) (proc : ℕ) (z : ℤ) (vals : List Value) → ValueCallFits program n proc vals
    → CallFits program n proc (value.Num z ∷ vals)
value_call program n proc z vals h = numbers_call program n proc (z ∷ []) vals h
