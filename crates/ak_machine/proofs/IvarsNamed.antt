-- To map the names of a state is to map the list of them, so a name that is renamed stands nowhere.
use Rattle.std.proofs.Common.{ℕ, ◌≡◌, List, [], ◌∷◌, ◌++◌, map, refl, ap, sym, ◌∙◌, Bool, true, false, cond}
use Rattle.std.specs.Prelude.{◌==◌, None, slice_index_or}
use Rattle.std.specs.List.{All, flat_map}
use Rattle.std.proofs.lemmas.Bool.{eqb-true, eq-eqb, both_ways}
use Rattle.std.proofs.lemmas.List.{map-append}
use Rattle.std.proofs.lemmas.List.Elements.{All-map, All-same}
use Rattle.ak_base.specs.declared.number.Ctx.{Ctx}
use Rattle.ak_frames.specs.declared.value.Value.{Value}
use Rattle.ak_frames.specs.declared.value.Value.TheVariants.{Num, Ivar, Def, Mon, Pipe, Thr, Event, Helper}
use Rattle.ak_frames.specs.declared.frame.Ret.{Ret}
use Rattle.ak_frames.specs.declared.frame.Ret.TheVariants.{Drop, To, TryBody, ThrottleBody}
use Rattle.ak_frames.specs.declared.frame.Frame.{Frame}
use Rattle.ak_frames.specs.declared.frame.Frame.TheVariants.{Call, OnValue, AllPart, ChoicePart, TryDone, BodyDone, BodyFailed, Raise, AnswerOut}
use Rattle.ak_frames.specs.declared.frame.Task.{Task}
use Rattle.ak_cells.specs.declared.registration.Registration.{Registration}
use Rattle.ak_cells.specs.Names.{renamed}
use Rattle.ak_rings.specs.declared.job.Job.{Job}
use Rattle.ak_monitor.specs.Monitors.{Monitor}
use Rattle.ak_clock.specs.Clock.{Clock}
use Rattle.ak_throttle.specs.declared.stage.Stage.{Stage}
use Rattle.ak_throttle.specs.declared.stage.Stage.TheVariants.{Waiting, Running, Over}
use Rattle.ak_throttle.specs.Throttle.{Throttle}
use Rattle.ak_pipe.specs.Pipe as pipes
use Rattle.ak_machine.specs.declared.held.Callback.{Callback}
use Rattle.ak_machine.specs.declared.held.Handler.{Handler}
use Rattle.ak_machine.specs.declared.held.Handler.TheVariants.{OnError, OfGuard, OfBody}
use Rattle.ak_machine.specs.declared.held.Purpose.{Purpose}
use Rattle.ak_machine.specs.declared.held.Purpose.TheVariants.{ForAll, ForAny, ForChoice, ForGuard}
use Rattle.ak_machine.specs.declared.held.Body.{Body}
use Rattle.ak_machine.specs.declared.held.Started.{Started}
use Rattle.ak_machine.specs.declared.held.Read.{Read}
use Rattle.ak_machine.specs.State.{State}
use Rattle.ak_trace.specs.declared.entry.Entry.TheVariants as entry
use Rattle.ak_machine.specs.Deferred.{noting, number_at, connect, connect_at}
use Rattle.ak_machine.specs.Mapped.{value_mapped, values_mapped, ret_mapped, frame_mapped, job_mapped, registration_mapped, callback_mapped, handler_mapped, handled_mapped, monitor_mapped, choosable_mapped, purpose_mapped, body_mapped, stage_mapped, mark_mapped, throttle_mapped, started_mapped, all_started_mapped, read_mapped, flush_mapped, pipe_mapped, alarm_mapped, clock_mapped, outstanding_mapped, requested_mapped, state_mapped, state_renamed}
use Rattle.ak_machine.specs.IvarsNamed.{in_value, in_values, in_ret, in_frame, in_job, in_registration, in_callback, in_handler, in_handled, in_monitor_state, in_choosable, in_purpose, in_body, in_stage, in_mark, in_throttle, in_started, in_all_started, in_read, in_flush, in_pipe, in_alarm, in_clock, in_outstanding, in_requested, ivars_named}

-- names of two lists
joined : (f : ℕ → ℕ) (xs' xs ys' ys : List ℕ) → xs' ≡ map f xs → ys' ≡ map f ys → xs' ++ ys' ≡ map f (xs ++ ys)
joined f xs' xs ys' ys p q = ap (λ l. l ++ ys') p ∙ ap (λ l. map f xs ++ l) q ∙ sym (map-append f xs ys)

-- names of each item
each : {A : Type 0} (f : ℕ → ℕ) (names : A → List ℕ) (m : A → A) → ((x : A) → names (m x) ≡ map f (names x)) → (xs : List A)
    → flat_map names (map m xs) ≡ map f (flat_map names xs)
each f names m h [] = refl
each f names m h (x ∷ xs) = joined f (names (m x)) (names x) (flat_map names (map m xs)) (flat_map names xs) (h x) (each f names m h xs)

value_held : (f : ℕ → ℕ) (v : Value) → in_value (value_mapped f v) ≡ map f (in_value v)
value_held f (Num z) = refl
value_held f (Ivar i) = refl
value_held f (Def i) = refl
value_held f (Mon m) = refl
value_held f (Pipe p) = refl
value_held f (Thr t) = refl
value_held f (Event e) = refl
value_held f (Helper h) = refl

values_held : (f : ℕ → ℕ) (vs : List Value) → in_values (values_mapped f vs) ≡ map f (in_values vs)
values_held f vs = each f in_value (value_mapped f) (value_held f) vs

ret_held : (f : ℕ → ℕ) (r : Ret) → in_ret (ret_mapped f r) ≡ map f (in_ret r)
ret_held f Drop = refl
ret_held f (To i) = refl
ret_held f (TryBody g) = refl
ret_held f (ThrottleBody b) = refl

frame_held : (f : ℕ → ℕ) (x : Frame) → in_frame (frame_mapped f x) ≡ map f (in_frame x)
frame_held f (Call proc vals ret) =
    joined f (in_values (values_mapped f vals)) (in_values vals) (in_ret (ret_mapped f ret)) (in_ret ret) (values_held f vals) (ret_held f ret)
frame_held f (OnValue proc vals ret) =
    joined f (in_values (values_mapped f vals)) (in_values vals) (in_ret (ret_mapped f ret)) (in_ret ret) (values_held f vals) (ret_held f ret)
frame_held f (AllPart g k) = refl
frame_held f (ChoicePart g) = refl
frame_held f (TryDone g) = refl
frame_held f (BodyDone b) = refl
frame_held f (BodyFailed b e) = refl
frame_held f (Raise e) = refl
frame_held f (AnswerOut q) = refl

job_held : (f : ℕ → ℕ) (x : Job Task) → in_job (job_mapped f x) ≡ map f (in_job x)
job_held f x = frame_held f x.frame.frame

registration_held : (f : ℕ → ℕ) (x : Registration Frame) → in_registration (registration_mapped f x) ≡ map f (in_registration x)
registration_held f x = ap (λ l. f x.ivar ∷ l) (frame_held f x.frame)

callback_held : (f : ℕ → ℕ) (x : Callback) → in_callback (callback_mapped f x) ≡ map f (in_callback x)
callback_held f x = ap (λ l. f x.to ∷ l) (values_held f x.vals)

handler_held : (f : ℕ → ℕ) (x : Handler) → in_handler (handler_mapped f x) ≡ map f (in_handler x)
handler_held f (OnError proc vals) = values_held f vals
handler_held f (OfGuard g) = refl
handler_held f (OfBody b) = refl

handled_held : (f : ℕ → ℕ) (x : Ctx × Handler) → in_handled (handled_mapped f x) ≡ map f (in_handled x)
handled_held f x = handler_held f x.1

monitor_held : (f : ℕ → ℕ) (x : Monitor Handler) → in_monitor_state (monitor_mapped f x) ≡ map f (in_monitor_state x)
monitor_held f x =
    joined f (flat_map in_handled (map (handled_mapped f) x.handlers)) (flat_map in_handled x.handlers) (map f x.next_errors) x.next_errors
    (each f in_handled (handled_mapped f) (handled_held f) x.handlers) refl

purpose_held : (f : ℕ → ℕ) (x : Purpose) → in_purpose (purpose_mapped f x) ≡ map f (in_purpose x)
purpose_held f (ForAll c) = callback_held f c
purpose_held f (ForAny ds r) = refl
purpose_held f (ForChoice choices vals r) =
    joined f (f r ∷ flat_map in_choosable (map (choosable_mapped f) choices)) (r ∷ flat_map in_choosable choices) (in_values (values_mapped f vals))
    (in_values vals)
    (ap (λ l. f r ∷ l) (each f in_choosable (choosable_mapped f) (λ c. refl) choices)) (values_held f vals)
purpose_held f (ForGuard ctx m mode c) = callback_held f c

body_held : (f : ℕ → ℕ) (x : Body) → in_body (body_mapped f x) ≡ map f (in_body x)
body_held f x = callback_held f x.call

stage_held : (f : ℕ → ℕ) (x : Stage Body) → in_stage (stage_mapped f x) ≡ map f (in_stage x)
stage_held f (Waiting body) = body_held f body
stage_held f Running = refl
stage_held f Over = refl

throttle_held : (f : ℕ → ℕ) (x : Throttle Body) → in_throttle (throttle_mapped f x) ≡ map f (in_throttle x)
throttle_held f x =
    joined f (flat_map in_stage (map (stage_mapped f) x.bodies) ++ flat_map in_body (map (body_mapped f) x.dropped))
    (flat_map in_stage x.bodies ++ flat_map in_body x.dropped) (flat_map in_mark (map (mark_mapped f) x.marks)) (flat_map in_mark x.marks)
    (joined f (flat_map in_stage (map (stage_mapped f) x.bodies)) (flat_map in_stage x.bodies) (flat_map in_body (map (body_mapped f) x.dropped))
    (flat_map in_body x.dropped)
    (each f in_stage (stage_mapped f) (stage_held f) x.bodies) (each f in_body (body_mapped f) (body_held f) x.dropped))
    (each f in_mark (mark_mapped f) (λ m. refl) x.marks)

all_started_held : (f : ℕ → ℕ) (xs : List Started) → in_all_started (all_started_mapped f xs) ≡ map f (in_all_started xs)
all_started_held f xs = each f in_started (started_mapped f) (λ b. refl) xs

read_held : (f : ℕ → ℕ) (x : Read) → in_read (read_mapped f x) ≡ map f (in_read x)
read_held f x =
    joined f (in_callback (callback_mapped f x.item)) (in_callback x.item) (in_callback (callback_mapped f x.eof)) (in_callback x.eof)
    (callback_held f x.item) (callback_held f x.eof)

reads_held : (f : ℕ → ℕ) (xs : List Read) → flat_map in_read (map (read_mapped f) xs) ≡ map f (flat_map in_read xs)
reads_held f xs = each f in_read (read_mapped f) (read_held f) xs

pipe_held : (f : ℕ → ℕ) (x : pipes.Pipe Read) → in_pipe (pipe_mapped f x) ≡ map f (in_pipe x)
pipe_held f x =
    let reads' : List ℕ = flat_map in_read (map (read_mapped f) x.reads)
    in let reads : List ℕ = flat_map in_read x.reads
    in let flushes' : List ℕ = flat_map in_flush (map (flush_mapped f) x.flushes)
    in let flushes : List ℕ = flat_map in_flush x.flushes
    in joined f (reads' ++ map f x.pushbacks ++ flushes') (reads ++ x.pushbacks ++ flushes) (flat_map in_read (map (read_mapped f) x.owed))
    (flat_map in_read x.owed)
    (joined f (reads' ++ map f x.pushbacks) (reads ++ x.pushbacks) flushes' flushes
    (joined f reads' reads (map f x.pushbacks) x.pushbacks (reads_held f x.reads) refl)
    (each f in_flush (flush_mapped f) (λ y. refl) x.flushes))
    (reads_held f x.owed)

clock_held : (f : ℕ → ℕ) (x : Clock) → in_clock (clock_mapped f x) ≡ map f (in_clock x)
clock_held f x =
    joined f (flat_map in_alarm (map (alarm_mapped f) x.alarms)) (flat_map in_alarm x.alarms) (map f x.yields) x.yields
    (each f in_alarm (alarm_mapped f) (λ a. refl) x.alarms) refl

-- the names of a state that is mapped are its names, mapped
pub state_held : (f : ℕ → ℕ) (s : State) → ivars_named (state_mapped f s) ≡ map f (ivars_named s)
state_held f s =
    rw (
      each f in_registration (registration_mapped f) (registration_held f) s.cells.registrations,
      each f in_job (job_mapped f) (job_held f) s.queues.normal,
      each f in_job (job_mapped f) (job_held f) s.queues.low,
      each f in_monitor_state (monitor_mapped f) (monitor_held f) s.monitors,
      each f in_purpose (purpose_mapped f) (purpose_held f) s.purposes,
      each f in_throttle (throttle_mapped f) (throttle_held f) s.throttles,
      each f in_all_started (all_started_mapped f) (all_started_held f) s.started,
      each f in_pipe (pipe_mapped f) (pipe_held f) s.pipes,
      clock_held f s.clock,
      each f in_outstanding (outstanding_mapped f) (λ w. refl) s.works,
      each f in_requested (requested_mapped f) (λ q. refl) s.requests,
    )
    (simp (map-append) refl)

-- what is renamed is not the old name
renamed_other : (from to i : ℕ) (b : Bool) → (i == from) ≡ b → ¬ (to ≡ from) → ¬ (renamed from to i ≡ from)
renamed_other from to i true e h = λ p. h (sym (ap (λ x. cond x to i) e) ∙ p)
renamed_other from to i false e h = λ p. both_ways (i == from) e (eq-eqb i from (sym (ap (λ x. cond x to i) e) ∙ p))

pub renamed_held : (from to : ℕ) (s : State) → ¬ (to ≡ from) → All (λ i. ¬ (i ≡ from)) (ivars_named (state_renamed from to s))
renamed_held from to s h =
    All-same (λ i. ¬ (i ≡ from)) (ivars_named (state_renamed from to s)) (map (renamed from to) (ivars_named s)) (state_held (renamed from to) s)
    (All-map (λ i. ¬ (i ≡ from)) (renamed from to) (ivars_named s)
    (λ k d p. renamed_other from to (slice_index_or (ivars_named s) k d) (slice_index_or (ivars_named s) k d == from) refl h))

connected_held : (left right : ℕ) (s : State) (b : Bool) → (left == right) ≡ b → ¬ (left ≡ right) → number_at left s ≡ None → number_at right s ≡ None
    → All (λ i. ¬ (i ≡ right)) (ivars_named (cond b s (connect_at (number_at left s) (number_at right s) left right s)))
connected_held left right s true e h p q = absurd (h (eqb-true left right e))
connected_held left right s false e h p q = rw (p, q) (renamed_held right left (noting (entry.Join left right) s) h)

-- after a connection of two empty deferreds the right one is not named
pub connection_held : (left right : ℕ) (s : State) → ¬ (left ≡ right) → number_at left s ≡ None → number_at right s ≡ None
    → All (λ i. ¬ (i ≡ right)) (ivars_named (connect left right s))
connection_held left right s h p q = connected_held left right s (left == right) refl h p q
