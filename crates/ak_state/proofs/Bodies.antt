-- What comes to throttles and their bodies leaves what fits.
use Rattle.std.proofs.Common.{◌≡◌, ℕ, zero, suc, ◌+◌, ◌<◌, ◌≤◌, List, [], ◌∷◌, ◌++◌, length, map, fold, refl, ap, sym, ◌∙◌, subst, arith, Bool, true, false, cond}
use Rattle.std.specs.Prelude.{pos, Option, Some, None, slice_get, slice_set, slice_index_or}
use Rattle.std.specs.List.{AllByRecursion, AllZip}
use Rattle.std.proofs.lemmas.List.{length-append, length-set}
use Rattle.ak_base.specs.declared.number.Ctx.{Ctx}
use Rattle.ak_base.proofs.Lists.{all_push, all_append}
use Rattle.ak_frames.specs.declared.value.Value.{Value}
use Rattle.ak_frames.specs.declared.frame.BodyId.{BodyId}
use Rattle.ak_frames.specs.declared.frame.Ret.{Ret}
use Rattle.ak_frames.specs.declared.frame.Ret.TheVariants.{ThrottleBody}
use Rattle.ak_frames.specs.declared.frame.Frame.TheVariants.{Call, Raise}
use Rattle.ak_throttle.specs.declared.stage.Stage.{Stage}
use Rattle.ak_throttle.specs.declared.stage.Stage.TheVariants as stage
use Rattle.ak_throttle.specs.declared.stage.Mark.{Mark}
use Rattle.ak_throttle.specs.declared.answer.Enqueued.TheVariants as answer
use Rattle.ak_throttle.specs.Throttle as throttle
use Rattle.ak_throttle.specs.Throttle.{Throttle, has_room, enqueued, stage_in, front_waiting, body_over, started_by_end, after_end, never_started, waiting_bodies, killed, started_by_failure, after_failure, without_dropped, is_done, with_mark, awaited, is_satisfied, satisfied_marks, without_satisfied, fresh_throttle}
use Rattle.ak_throttle.specs.Held.{HasStarted}
use Rattle.ak_throttle.specs.Runs.{Enqueue, Ended, Failed, number_of, numbers_from}
use Rattle.ak_throttle.proofs.Order.{IsStep, call_step, dropped_held, marks_held, fresh_held}
use Rattle.ak_program.specs.declared.program.NumProc.{NumProc}
use Rattle.ak_machine.specs.declared.held.Body.{Body}
use Rattle.ak_machine.specs.declared.held.Fate.{Fate}
use Rattle.ak_machine.specs.declared.held.Fate.TheVariants.{Undecided, Failing, Over}
use Rattle.ak_machine.specs.declared.held.Handler.{Handler}
use Rattle.ak_machine.specs.declared.held.Handler.TheVariants.{OfBody}
use Rattle.ak_machine.specs.declared.held.Started.{Started}
use Rattle.ak_machine.specs.State.{State}
use Rattle.ak_machine.specs.Deferred.{plain_task, with_ivar, fill, filled_where}
use Rattle.ak_machine.specs.Monitors.{with_monitor, detach, handled_by, in_monitor, called_under}
use Rattle.ak_machine.specs.Effect.{call_to_fresh}
use Rattle.ak_machine.specs.Throttles as throttles
use Rattle.ak_machine.specs.Throttles.{no_throttle, no_started, throttle_at, with_throttle_at, with_throttle, started_of, with_started, with_fate, body_called, front_called, body_placed, body_enqueued, mark_filled, marks_filled, done_awaited, body_left, ended_at, body_ended, waits_at, body_waits, acts_at, body_acts, drop_raised, drops_raised, dropped_error, body_lost, failed_at, body_failed}
use Rattle.ak_streams.specs.Throttles.{with_fate_at}
use Rattle.ak_state.specs.Drawn.{Drawn, drawn, More}
use Rattle.ak_state.specs.Fits.{CallFits, RetFits, ActFits, BodyFits, StageFits, MarkFits, StartedFits, StandsAt, StandAt, ThrottleFits, Fits}
use Rattle.ak_state.specs.Bodies.{body_begun}
use Rattle.ak_state.proofs.Fitting.{zip_push, zip_long, Grows, same_grows, kept_grows, then_grows, grown_fits, enqueue_grows, fill_grows, ivar_grows, drawn_one, call_more, all_filter}
use Rattle.ak_state.proofs.Monitors.{child_drawn, child_grows, detach_grows, handled_grows, all_set}

-- ---- two lists of which each place fits
zip_both : {A B : Type 0} (R : A → B → Type 0) (xs : List A) (ys : List B) (k : ℕ) (x : A) (y : B) → AllZip R xs ys → R x y
    → AllZip R (slice_set xs k x) (slice_set ys k y)
zip_both R [] [] k x y z r = tt
zip_both R [] (b ∷ ys) k x y z r = absurd z
zip_both R (a ∷ xs) [] k x y z r = absurd z
zip_both R (a ∷ xs) (b ∷ ys) zero x y z r = (r, z.1)
zip_both R (a ∷ xs) (b ∷ ys) (suc k) x y z r = (z.0, zip_both R xs ys k x y z.1 r)

zip_left : {A B : Type 0} (R : A → B → Type 0) (xs : List A) (ys : List B) (k : ℕ) (x : A) (d : B) → AllZip R xs ys
    → R x (slice_index_or ys k d) → AllZip R (slice_set xs k x) ys
zip_left R [] [] k x d z r = tt
zip_left R [] (b ∷ ys) k x d z r = absurd z
zip_left R (a ∷ xs) [] k x d z r = absurd z
zip_left R (a ∷ xs) (b ∷ ys) zero x d z r = (r, z.1)
zip_left R (a ∷ xs) (b ∷ ys) (suc k) x d z r = (z.0, zip_left R xs ys k x d z.1 r)

zip_right : {A B : Type 0} (R : A → B → Type 0) (xs : List A) (ys : List B) (k : ℕ) (y : B) (d : A) → AllZip R xs ys
    → R (slice_index_or xs k d) y → AllZip R xs (slice_set ys k y)
zip_right R [] [] k y d z r = tt
zip_right R [] (b ∷ ys) k y d z r = absurd z
zip_right R (a ∷ xs) [] k y d z r = absurd z
zip_right R (a ∷ xs) (b ∷ ys) zero y d z r = (r, z.1)
zip_right R (a ∷ xs) (b ∷ ys) (suc k) y d z r = (z.0, zip_right R xs ys k y d z.1 r)

-- ---- a throttle of a state that fits
none_held : HasStarted no_throttle 0
none_held = record {
  most = 0;
  stop = false;
  dead = true;
  overs = [];
  lost = 0;
  bodies = [];
  marks = [];
  is = refl;
  few = omega arith;
  full = λ d h. absurd (omega (arith, h));
  started = refl;
}

none_fits : (program : List NumProc) (n : Drawn) → ThrottleFits program n no_throttle []
none_fits program n =
    record { waiting = tt; dropped = tt; marks = tt; bodies = tt; so_many = none_held; stand = tt; few = omega arith }

zip_at : (program : List NumProc) (n : Drawn) (xs : List (Throttle Body)) (ys : List (List Started)) (t : ℕ)
    → AllZip (ThrottleFits program n) xs ys → ThrottleFits program n (slice_index_or xs t no_throttle) (slice_index_or ys t [])
zip_at program n [] [] t z = none_fits program n
zip_at program n [] (y ∷ ys) t z = absurd z
zip_at program n (x ∷ xs) [] t z = absurd z
zip_at program n (x ∷ xs) (y ∷ ys) zero z = z.0
zip_at program n (x ∷ xs) (y ∷ ys) (suc t) z = zip_at program n xs ys t z.1

pub throttle_fits : (program : List NumProc) (t : ℕ) (s : State) → Fits program s
    → ThrottleFits program (drawn s) (throttle_at t s) (started_of t s)
throttle_fits program t s f = zip_at program (drawn s) s.throttles s.started t f.throttles

-- as many lists of bodies as throttles
pub throttles_paired : (program : List NumProc) (s : State) → Fits program s → length s.throttles ≡ length s.started
throttles_paired program s f = sym (zip_long (ThrottleFits program (drawn s)) s.throttles s.started f.throttles)

-- ---- throttles and bodies give way to others
streams_grow : (program : List NumProc) (xs : List (Throttle Body)) (ys : List (List Started)) (s : State) → Fits program s
    → length xs ≡ length s.throttles → AllZip (ThrottleFits program (drawn s)) xs ys
    → Grows program s (record s { throttles = xs; started = ys })
streams_grow program xs ys s f e z =
    same_grows program s (record s { throttles = xs; started = ys }) (ap (λ k. record (drawn s) { throttles = k }) e)
    (record {
      root = f.root;
      handlers = f.handlers;
      normal = f.normal;
      low = f.low;
      monitors = f.monitors;
      purposes = f.purposes;
      clock = f.clock;
      works = f.works;
      throttles = z;
      pipes = f.pipes;
    })

pub set_throttle_grows : (program : List NumProc) (t : ℕ) (x : Throttle Body) (s : State) → Fits program s
    → ThrottleFits program (drawn s) x (started_of t s) → Grows program s (with_throttle_at t x s)
set_throttle_grows program t x s f p =
    streams_grow program (slice_set s.throttles t x) s.started s f (length-set s.throttles t x)
    (zip_left (ThrottleFits program (drawn s)) s.throttles s.started t x [] f.throttles p)

set_both_grow : (program : List NumProc) (t : ℕ) (x : Throttle Body) (bodies : List Started) (s : State) → Fits program s
    → ThrottleFits program (drawn s) x bodies
    → Grows program s (record s { throttles = slice_set s.throttles t x; started = slice_set s.started t bodies })
set_both_grow program t x bodies s f p =
    streams_grow program (slice_set s.throttles t x) (slice_set s.started t bodies) s f (length-set s.throttles t x)
    (zip_both (ThrottleFits program (drawn s)) s.throttles s.started t x bodies f.throttles p)

set_bodies_grow : (program : List NumProc) (t : ℕ) (bodies : List Started) (s : State) → Fits program s
    → ThrottleFits program (drawn s) (throttle_at t s) bodies → Grows program s (record s { started = slice_set s.started t bodies })
set_bodies_grow program t bodies s f p =
    streams_grow program s.throttles (slice_set s.started t bodies) s f refl
    (zip_right (ThrottleFits program (drawn s)) s.throttles s.started t bodies no_throttle f.throttles p)

-- ---- a fresh throttle
fresh_fits : (program : List NumProc) (n : Drawn) (most : ℕ) (stop : Bool) → ThrottleFits program n (fresh_throttle most stop) []
fresh_fits program n most stop =
    record { waiting = tt; dropped = tt; marks = tt; bodies = tt; so_many = fresh_held most stop; stand = tt; few = omega arith }

pub fresh_drawn : (most : ℕ) (stop : Bool) (s : State) → length (with_throttle most stop s).throttles ≡ length s.throttles + 1
fresh_drawn most stop s = length-append s.throttles (fresh_throttle most stop ∷ [])

pub fresh_grows : (program : List NumProc) (most : ℕ) (stop : Bool) (s : State) → Fits program s → Grows program s (with_throttle most stop s)
fresh_grows program most stop s f =
    let t : State = with_throttle most stop s
    in let more : More (drawn s) (drawn t) =
    record {
      ivars = omega arith;
      monitors = omega arith;
      groups = omega arith;
      parts = λ g. omega arith;
      throttles = omega (arith, fresh_drawn most stop s);
      pipes = omega arith;
    }
    in let g = grown_fits program (drawn s) (drawn t) s more f
    in record {
      more = more;
      fits =
          record {
            root = g.root;
            handlers = g.handlers;
            normal = g.normal;
            low = g.low;
            monitors = g.monitors;
            purposes = g.purposes;
            clock = g.clock;
            works = g.works;
            throttles =
                zip_push (ThrottleFits program (drawn t)) s.throttles s.started (fresh_throttle most stop) [] g.throttles
                (fresh_fits program (drawn t) most stop);
            pipes = g.pipes;
          };
    }

-- ---- where bodies stand
stand_last : (bodies : List Started) (stages : List (Stage Body)) (y : Stage Body) → StandAt bodies stages → StandAt bodies (stages ++ y ∷ [])
stand_last [] stages y h = tt
stand_last (x ∷ bodies) [] y h = absurd h
stand_last (x ∷ bodies) (z ∷ stages) y h = (h.0, stand_last bodies stages y h.1)

stand_starts : (bodies : List Started) (stages : List (Stage Body)) (x : Started) (y : Stage Body) → length stages ≡ length bodies
    → StandAt bodies stages → StandsAt x.fate y → StandAt (bodies ++ x ∷ []) (stages ++ y ∷ [])
stand_starts [] [] x y e h p = (p, tt)
stand_starts [] (z ∷ stages) x y e h p = absurd (omega (arith, e))
stand_starts (a ∷ bodies) [] x y e h p = absurd h
stand_starts (a ∷ bodies) (z ∷ stages) x y e h p = (h.0, stand_starts bodies stages x y (omega (arith, e)) h.1 p)

stand_front : (bodies : List Started) (stages : List (Stage Body)) (x : Started) (y : Stage Body) → length bodies < length stages
    → StandAt bodies stages → StandsAt x.fate y → StandAt (bodies ++ x ∷ []) (slice_set stages (length bodies) y)
stand_front [] [] x y l h p = absurd (omega (arith, l))
stand_front [] (z ∷ stages) x y l h p = (p, tt)
stand_front (a ∷ bodies) [] x y l h p = absurd h
stand_front (a ∷ bodies) (z ∷ stages) x y l h p = (h.0, stand_front bodies stages x y (omega (arith, l)) h.1 p)

stands_over : (fate : Fate) → fate ≡ Over → StandsAt fate stage.Over
stands_over Undecided e = absurd (cc)
stands_over Failing e = absurd (cc)
stands_over Over e = tt

stand_over : (bodies : List Started) (stages : List (Stage Body)) (k : ℕ) → StandAt bodies stages → (slice_index_or bodies k no_started).fate ≡ Over
    → StandAt bodies (slice_set stages k stage.Over)
stand_over [] stages k h e = tt
stand_over (x ∷ bodies) [] k h e = absurd h
stand_over (x ∷ bodies) (z ∷ stages) zero h e = (stands_over x.fate e, h.1)
stand_over (x ∷ bodies) (z ∷ stages) (suc k) h e = (h.0, stand_over bodies stages k h.1 e)

stands_never : (fate : Fate) (y : Stage Body) → StandsAt fate y → StandsAt fate (never_started y)
stands_never Undecided y h = ap never_started h
stands_never Failing y h = ap never_started h
stands_never Over y h = tt

stand_never : (bodies : List Started) (stages : List (Stage Body)) → StandAt bodies stages → StandAt bodies (map never_started stages)
stand_never [] stages h = tt
stand_never (x ∷ bodies) [] h = absurd h
stand_never (x ∷ bodies) (y ∷ stages) h = (stands_never x.fate y h.0, stand_never bodies stages h.1)

-- a body that is not over runs
runs_undecided : (fate : Fate) (y : Stage Body) → StandsAt fate y → fate ≡ Undecided → y ≡ stage.Running
runs_undecided Undecided y h e = h
runs_undecided Failing y h e = h
runs_undecided Over y h e = absurd (cc)

runs_failing : (fate : Fate) (y : Stage Body) → StandsAt fate y → fate ≡ Failing → y ≡ stage.Running
runs_failing Undecided y h e = h
runs_failing Failing y h e = h
runs_failing Over y h e = absurd (cc)

pub undecided_runs : (bodies : List Started) (stages : List (Stage Body)) (k : ℕ) → StandAt bodies stages
    → (slice_index_or bodies k no_started).fate ≡ Undecided → slice_get stages k ≡ Some stage.Running
undecided_runs [] stages k h e = absurd (cc)
undecided_runs (x ∷ bodies) [] k h e = absurd h
undecided_runs (x ∷ bodies) (y ∷ stages) zero h e = ap (λ z. Some z) (runs_undecided x.fate y h.0 e)
undecided_runs (x ∷ bodies) (y ∷ stages) (suc k) h e = undecided_runs bodies stages k h.1 e

pub failing_runs : (bodies : List Started) (stages : List (Stage Body)) (k : ℕ) → StandAt bodies stages
    → (slice_index_or bodies k no_started).fate ≡ Failing → slice_get stages k ≡ Some stage.Running
failing_runs [] stages k h e = absurd (cc)
failing_runs (x ∷ bodies) [] k h e = absurd h
failing_runs (x ∷ bodies) (y ∷ stages) zero h e = ap (λ z. Some z) (runs_failing x.fate y h.0 e)
failing_runs (x ∷ bodies) (y ∷ stages) (suc k) h e = failing_runs bodies stages k h.1 e

-- a body that came so far stands where it stood
stand_fate : (bodies : List Started) (stages : List (Stage Body)) (k : ℕ) (fate : Fate) → StandAt bodies stages
    → ((y : Stage Body) → StandsAt (slice_index_or bodies k no_started).fate y → StandsAt fate y) → StandAt (with_fate_at k fate bodies) stages
stand_fate [] stages k fate h p = tt
stand_fate (x ∷ bodies) [] k fate h p = absurd h
stand_fate (x ∷ bodies) (y ∷ stages) zero fate h p = (p y h.0, h.1)
stand_fate (x ∷ bodies) (y ∷ stages) (suc k) fate h p = (h.0, stand_fate bodies stages k fate h.1 p)

all_fate : (n : Drawn) (bodies : List Started) (k : ℕ) (fate : Fate) → AllByRecursion (StartedFits n) bodies
    → AllByRecursion (StartedFits n) (with_fate_at k fate bodies)
all_fate n [] k fate h = tt
all_fate n (x ∷ bodies) zero fate h = (record { context = h.0.context; result = h.0.result }, h.1)
all_fate n (x ∷ bodies) (suc k) fate h = (h.0, all_fate n bodies k fate h.1)

fate_long : (k : ℕ) (fate : Fate) (bodies : List Started) → length (with_fate_at k fate bodies) ≡ length bodies
fate_long k fate bodies = length-set bodies k (record (slice_index_or bodies k no_started) { fate = fate })

fate_fits : (program : List NumProc) (n : Drawn) (x : Throttle Body) (bodies : List Started) (k : ℕ) (fate : Fate)
    → ThrottleFits program n x bodies
    → ((y : Stage Body) → StandsAt (slice_index_or bodies k no_started).fate y → StandsAt fate y)
    → ThrottleFits program n x (with_fate_at k fate bodies)
fate_fits program n x bodies k fate f p = record {
  waiting = f.waiting;
  dropped = f.dropped;
  marks = f.marks;
  bodies = all_fate n bodies k fate f.bodies;
  so_many = subst (HasStarted x) (sym (fate_long k fate bodies)) f.so_many;
  stand = stand_fate bodies x.bodies k fate f.stand p;
  few = f.few;
}

fate_grows : (program : List NumProc) (fate : Fate) (b : BodyId) (s : State) → Fits program s
    → ((y : Stage Body) → StandsAt (throttles.started_at b s).fate y → StandsAt fate y) → Grows program s (with_fate fate b s)
fate_grows program fate b s f p =
    set_bodies_grow program b.throttle (with_fate_at b.no fate (started_of b.throttle s)) s f
    (fate_fits program (drawn s) (throttle_at b.throttle s) (started_of b.throttle s) b.no fate (throttle_fits program b.throttle s f) p)

pub over_grows : (program : List NumProc) (b : BodyId) (s : State) → Fits program s → Grows program s (with_fate Over b s)
over_grows program b s f = fate_grows program Over b s f (λ y h. tt)

pub failing_grows : (program : List NumProc) (b : BodyId) (s : State) → Fits program s → (throttles.started_at b s).fate ≡ Undecided
    → Grows program s (with_fate Failing b s)
failing_grows program b s f e =
    fate_grows program Failing b s f (λ y h. runs_undecided (throttles.started_at b s).fate y h e)

-- ---- a call in a fresh monitor
pub under_grows : (program : List NumProc) (h : Handler) (ctx : Ctx) (proc : ℕ) (vals : List Value) (ret : Ret) (s : State) → Fits program s
    → ctx.mon < length s.monitors → CallFits program (drawn s) proc vals → ((n : Drawn) → ActFits program n h) → ((n : Drawn) → RetFits n ret)
    → Grows program s (called_under h ctx proc vals ret s)
under_grows program h ctx proc vals ret s f mon call act to =
    let m : ℕ = length s.monitors
    in let s1 : State = with_monitor ctx.mon s
    in let s2 : State = detach m s1
    in let s3 : State = handled_by m ctx h s2
    in let one = child_grows program ctx.mon s f
    in let two = detach_grows program m s1 one.fits
    in let to2 = then_grows program s s1 s2 one two
    in let three = handled_grows program m ctx h s2 two.fits (omega (arith, mon, to2.more.monitors)) (act (drawn s2))
    in let to3 = then_grows program s s2 s3 to2 three
    in then_grows program s s3 (called_under h ctx proc vals ret s) to3
    (enqueue_grows program (in_monitor m ctx) (plain_task (Call proc vals ret)) s3 three.fits
    (record {
      monitor = omega (arith, child_drawn ctx.mon s, two.more.monitors, three.more.monitors);
      frame_fits = (call_more program (drawn s) (drawn s3) to3.more proc vals call, to (drawn s3));
    }))

-- ---- a body that starts
abbrev pub started_now : Body → Started
started_now body = record { fate = Undecided; ctx = body.ctx; to = body.call.to }

-- it is called where its throttle has it run
starts_grow : (program : List NumProc) (b : BodyId) (x : Throttle Body) (body : Body) (s : State) → Fits program s
    → BodyFits program (drawn s) body → ThrottleFits program (drawn s) x (started_of b.throttle s ++ started_now body ∷ [])
    → Grows program s (body_called b body (with_throttle_at b.throttle x s))
starts_grow program b x body s f p q =
    let t : State = with_started b.throttle (started_now body) (with_throttle_at b.throttle x s)
    in let one = set_both_grow program b.throttle x (started_of b.throttle s ++ started_now body ∷ []) s f q
    in then_grows program s t (body_called b body (with_throttle_at b.throttle x s)) one
    (under_grows program (OfBody b) body.ctx body.call.proc body.call.vals (ThrottleBody b) t one.fits p.context
    (call_more program (drawn s) (drawn t) one.more body.call.proc body.call.vals p.call) (λ n. tt) (λ n. tt))

-- ---- a body is enqueued
record Placed (x : Throttle Body) (n : ℕ) (room : Bool) (body : Body) : Type 0 where
  pub held : HasStarted (record x { bodies = x.bodies ++ cond room stage.Running (stage.Waiting body) ∷ [] }) (n + length (cond room (length x.bodies ∷ []) []))
  pub in_order : cond room (length x.bodies ∷ []) [] ≡ numbers_from n (length (cond room (length x.bodies ∷ []) []))

placed_step : (x : Throttle Body) (n : ℕ) (room : Bool) (body : Body) → x.dead ≡ false → has_room x ≡ room → HasStarted x n → Placed x n room body
placed_step x n room body alive e h =
    let step = call_step (Enqueue body) x n tt h
    in let living : IsStep n x.most (cond (has_room x) (length x.bodies ∷ []) []) (enqueued body x) =
    subst (λ d. IsStep n x.most (cond d [] (cond (has_room x) (length x.bodies ∷ []) [])) (cond d x (enqueued body x))) alive step
    in let here : IsStep n x.most (cond room (length x.bodies ∷ []) []) (record x { bodies = x.bodies ++ cond room stage.Running (stage.Waiting body) ∷ [] }) =
    subst (λ r. IsStep n x.most (cond r (length x.bodies ∷ []) []) (record x { bodies = x.bodies ++ cond r stage.Running (stage.Waiting body) ∷ [] })) e living
    in record { held = here.held; in_order = here.in_order }

enqueued_long : (x : Throttle Body) (y : Stage Body) → length (x.bodies ++ y ∷ []) ≡ length x.bodies + 1
enqueued_long x y = length-append x.bodies (y ∷ [])

-- one that waits
waits_fits : (program : List NumProc) (n : Drawn) (x : Throttle Body) (bodies : List Started) (body : Body) → Placed x (length bodies) false body
    → ThrottleFits program n x bodies → BodyFits program n body → length x.bodies + 1 ≤ n.ivars
    → ThrottleFits program n (record x { bodies = x.bodies ++ stage.Waiting body ∷ [] }) bodies
waits_fits program n x bodies body step f p few =
    let y : Throttle Body = record x { bodies = x.bodies ++ stage.Waiting body ∷ [] }
    in let same : length bodies + 0 ≡ length bodies = omega arith
    in record {
      waiting = all_push (StageFits program n) x.bodies (stage.Waiting body) f.waiting p;
      dropped = f.dropped;
      marks = f.marks;
      bodies = f.bodies;
      so_many = subst (HasStarted y) same step.held;
      stand = stand_last bodies x.bodies (stage.Waiting body) f.stand;
      few = omega (arith, few, enqueued_long x (stage.Waiting body));
    }

-- one that starts at once
runs_fits : (program : List NumProc) (n : Drawn) (x : Throttle Body) (bodies : List Started) (body : Body) → Placed x (length bodies) true body
    → ThrottleFits program n x bodies → BodyFits program n body → length x.bodies + 1 ≤ n.ivars
    → ThrottleFits program n (record x { bodies = x.bodies ++ stage.Running ∷ [] }) (bodies ++ started_now body ∷ [])
runs_fits program n x bodies body step f p few =
    let y : Throttle Body = record x { bodies = x.bodies ++ stage.Running ∷ [] }
    in let now : Started = started_now body
    in let many : length bodies + 1 ≡ length (bodies ++ now ∷ []) = sym (length-append bodies (now ∷ []))
    in let place : length x.bodies ≡ length bodies = ap (λ (ns : List ℕ). slice_index_or ns 0 0) step.in_order
    in record {
      waiting = all_push (StageFits program n) x.bodies stage.Running f.waiting tt;
      dropped = f.dropped;
      marks = f.marks;
      bodies = all_push (StartedFits n) bodies now f.bodies (record { context = p.context; result = p.result });
      so_many = subst (HasStarted y) many step.held;
      stand = stand_starts bodies x.bodies now stage.Running place f.stand refl;
      few = omega (arith, few, enqueued_long x stage.Running);
    }

enqueue_by : (program : List NumProc) (t n : ℕ) (body : Body) (s : State) (room : Bool) → n ≡ length (throttle_at t s).bodies
    → Placed (throttle_at t s) (length (started_of t s)) room body → Fits program s → BodyFits program (drawn s) body
    → length (throttle_at t s).bodies + 1 ≤ length s.cells.ivars
    → Grows program s (body_placed (cond room (answer.Start n body) (answer.Waits n)) t
    (with_throttle_at t (record (throttle_at t s) { bodies = (throttle_at t s).bodies ++ cond room stage.Running (stage.Waiting body) ∷ [] }) s))
enqueue_by program t n body s true e step f p few =
    starts_grow program (record { throttle = t; no = n }) (record (throttle_at t s) { bodies = (throttle_at t s).bodies ++ stage.Running ∷ [] }) body s f p
    (runs_fits program (drawn s) (throttle_at t s) (started_of t s) body step (throttle_fits program t s f) p few)
enqueue_by program t n body s false e step f p few =
    set_throttle_grows program t (record (throttle_at t s) { bodies = (throttle_at t s).bodies ++ stage.Waiting body ∷ [] }) s f
    (waits_fits program (drawn s) (throttle_at t s) (started_of t s) body step (throttle_fits program t s f) p few)

enqueued_grows : (program : List NumProc) (t : ℕ) (body : Body) (s : State) → Fits program s → BodyFits program (drawn s) body
    → (throttle_at t s).dead ≡ false → length (throttle_at t s).bodies + 1 ≤ length s.cells.ivars → Grows program s (body_enqueued t body s)
enqueued_grows program t body s f p alive few =
    let x : Throttle Body = throttle_at t s
    in enqueue_by program t (length x.bodies) body s (has_room x) refl
    (placed_step x (length (started_of t s)) (has_room x) body alive refl (throttle_fits program t s f).so_many) f p few

begun_from : (program : List NumProc) (t : ℕ) (ctx : Ctx) (proc : ℕ) (vals : List Value) (s : State) → Fits program s
    → ctx.mon < length s.monitors → CallFits program (drawn s) proc vals → (throttle_at t s).dead ≡ false
    → Grows program (with_ivar s) (body_begun t ctx proc vals s)
begun_from program t ctx proc vals s f mon call alive =
    let u : State = with_ivar s
    in let one = ivar_grows program s f
    in let body : Body = record { ctx = ctx; call = call_to_fresh s proc vals }
    in enqueued_grows program t body u one.fits
    (record {
      context = mon;
      call = call_more program (drawn s) (drawn u) one.more proc vals call;
      result = omega (arith, drawn_one s);
    }) alive (omega (arith, drawn_one s, (throttle_fits program t s f).few))

pub begun_grows : (program : List NumProc) (t : ℕ) (ctx : Ctx) (proc : ℕ) (vals : List Value) (s : State) → Fits program s
    → ctx.mon < length s.monitors → CallFits program (drawn s) proc vals → (throttle_at t s).dead ≡ false
    → Grows program s (body_begun t ctx proc vals s)
begun_grows program t ctx proc vals s f mon call alive =
    then_grows program s (with_ivar s) (body_begun t ctx proc vals s) (ivar_grows program s f) (begun_from program t ctx proc vals s f mon call alive)

-- the deferred that was drawn for it is one
pub begun_drawn : (program : List NumProc) (t : ℕ) (ctx : Ctx) (proc : ℕ) (vals : List Value) (s : State) → Fits program s
    → ctx.mon < length s.monitors → CallFits program (drawn s) proc vals → (throttle_at t s).dead ≡ false
    → length s.cells.ivars < length (body_begun t ctx proc vals s).cells.ivars
begun_drawn program t ctx proc vals s f mon call alive =
    omega (arith, drawn_one s, (begun_from program t ctx proc vals s f mon call alive).more.ivars)

-- ---- the front body that waits
front_body : (program : List NumProc) (n : Drawn) (k : ℕ) (stages : List (Stage Body)) (front : ℕ × Body)
    → AllByRecursion (StageFits program n) stages → front_waiting k stages ≡ Some front → BodyFits program n front.1
front_body program n k [] front h e = absurd (cc)
front_body program n k (stage.Waiting body ∷ stages) front h e =
    let same : (k, body) ≡ front = cc in subst (λ (x : ℕ × Body). BodyFits program n x.1) same h.0
front_body program n k (stage.Running ∷ stages) front h e = front_body program n (k + 1) stages front h.1 e
front_body program n k (stage.Over ∷ stages) front h e = front_body program n (k + 1) stages front h.1 e

front_there : (k : ℕ) (stages : List (Stage Body)) (front : ℕ × Body) → front_waiting k stages ≡ Some front → front.0 < k + length stages
front_there k [] front e = absurd (cc)
front_there k (stage.Waiting body ∷ stages) front e =
    let same : (k, body) ≡ front = cc
    in let number : k ≡ front.0 = ap (λ (x : ℕ × Body). x.0) same
    in omega (arith, number)
front_there k (stage.Running ∷ stages) front e = let h : front.0 < k + 1 + length stages = front_there (k + 1) stages front e in omega (arith, h)
front_there k (stage.Over ∷ stages) front e = let h : front.0 < k + 1 + length stages = front_there (k + 1) stages front e in omega (arith, h)

-- the front body that starts as one ends or fails
pub end_front_fits : (program : List NumProc) (t k : ℕ) (s : State) (front : ℕ × Body) → Fits program s
    → started_by_end k (throttle_at t s) ≡ Some front → BodyFits program (drawn s) front.1
end_front_fits program t k s front f e =
    let x : Throttle Body = throttle_at t s
    in front_body program (drawn s) 0 (slice_set x.bodies k stage.Over) front
    (all_set (StageFits program (drawn s)) x.bodies k stage.Over (throttle_fits program t s f).waiting tt) e

pub failure_front_fits : (program : List NumProc) (t k : ℕ) (s : State) (front : ℕ × Body) → Fits program s
    → started_by_failure k (throttle_at t s) ≡ Some front → BodyFits program (drawn s) front.1
failure_front_fits program t k s front f e = by (throttle_at t s).stop e
  where
    by : (b : Bool) → cond b None (started_by_end k (throttle_at t s)) ≡ Some front → BodyFits program (drawn s) front.1
    by true q = absurd (cc)
    by false q = end_front_fits program t k s front f q

-- ---- a body that ends
ended_fits : (program : List NumProc) (n : Drawn) (x : Throttle Body) (bodies : List Started) (k : ℕ) → ThrottleFits program n x bodies
    → (slice_index_or bodies k no_started).fate ≡ Over → HasStarted (body_over k x) (length bodies) → ThrottleFits program n (body_over k x) bodies
ended_fits program n x bodies k f e h = record {
  waiting = all_set (StageFits program n) x.bodies k stage.Over f.waiting tt;
  dropped = f.dropped;
  marks = f.marks;
  bodies = f.bodies;
  so_many = h;
  stand = stand_over bodies x.bodies k f.stand e;
  few = omega (arith, f.few, length-set x.bodies k stage.Over);
}

next_fits : (program : List NumProc) (n : Drawn) (x : Throttle Body) (bodies : List Started) (k : ℕ) (front : ℕ × Body) → ThrottleFits program n x bodies
    → (slice_index_or bodies k no_started).fate ≡ Over → started_by_end k x ≡ Some front → front.0 ≡ length bodies
    → HasStarted (throttle.with_stage front.0 stage.Running (body_over k x)) (length bodies + 1)
    → ThrottleFits program n (throttle.with_stage front.0 stage.Running (body_over k x)) (bodies ++ started_now front.1 ∷ [])
next_fits program n x bodies k front f e w place h =
    let stages : List (Stage Body) = slice_set x.bodies k stage.Over
    in let y : Throttle Body = throttle.with_stage front.0 stage.Running (body_over k x)
    in let now : Started = started_now front.1
    in let all = all_set (StageFits program n) x.bodies k stage.Over f.waiting tt
    in let p = front_body program n 0 stages front all w
    in let many : length bodies + 1 ≡ length (bodies ++ now ∷ []) = sym (length-append bodies (now ∷ []))
    in let there : front.0 < 0 + length stages = front_there 0 stages front w
    in record {
      waiting = all_set (StageFits program n) stages front.0 stage.Running all tt;
      dropped = f.dropped;
      marks = f.marks;
      bodies = all_push (StartedFits n) bodies now f.bodies (record { context = p.context; result = p.result });
      so_many = subst (HasStarted y) many h;
      stand =
          subst (λ m. StandAt (bodies ++ now ∷ []) (slice_set stages m stage.Running)) (sym place)
          (stand_front bodies stages now stage.Running (omega (arith, place, there)) (stand_over bodies x.bodies k f.stand e) refl);
      few = omega (arith, f.few, length-set x.bodies k stage.Over, length-set stages front.0 stage.Running);
    }

left_by : (program : List NumProc) (t k : ℕ) (s : State) (o : Option (ℕ × Body)) → Fits program s
    → (slice_index_or (started_of t s) k no_started).fate ≡ Over → started_by_end k (throttle_at t s) ≡ o
    → IsStep (length (started_of t s)) (throttle_at t s).most (number_of o) (throttle.started_at o (body_over k (throttle_at t s)))
    → Grows program s (front_called t o (with_throttle_at t (throttle.started_at o (body_over k (throttle_at t s))) s))
left_by program t k s None f e w step =
    let same : length (started_of t s) + 0 ≡ length (started_of t s) = omega arith
    in set_throttle_grows program t (body_over k (throttle_at t s)) s f
    (ended_fits program (drawn s) (throttle_at t s) (started_of t s) k (throttle_fits program t s f) e
    (subst (HasStarted (body_over k (throttle_at t s))) same step.held))
left_by program t k s (Some front) f e w step =
    let x : Throttle Body = throttle_at t s
    in let fits = throttle_fits program t s f
    in let place : front.0 ≡ length (started_of t s) = ap (λ (ns : List ℕ). slice_index_or ns 0 0) step.in_order
    in let p = end_front_fits program t k s front f w
    in starts_grow program (record { throttle = t; no = front.0 }) (throttle.with_stage front.0 stage.Running (body_over k x)) front.1 s f p
    (next_fits program (drawn s) x (started_of t s) k front fits e w place step.held)

pub left_grows : (program : List NumProc) (b : BodyId) (s : State) → Fits program s → stage_in b.no (throttle_at b.throttle s) ≡ Some stage.Running
    → (throttles.started_at b s).fate ≡ Over → Grows program s (body_left b s)
left_grows program b s f runs e =
    let x : Throttle Body = throttle_at b.throttle s
    in left_by program b.throttle b.no s (started_by_end b.no x) f e refl
    (call_step (Ended b.no) x (length (started_of b.throttle s)) runs (throttle_fits program b.throttle s f).so_many)

-- ---- a body that fails
never_fits : (program : List NumProc) (n : Drawn) (stages : List (Stage Body)) → AllByRecursion (StageFits program n) (map never_started stages)
never_fits program n [] = tt
never_fits program n (stage.Waiting body ∷ stages) = (tt, never_fits program n stages)
never_fits program n (stage.Running ∷ stages) = (tt, never_fits program n stages)
never_fits program n (stage.Over ∷ stages) = (tt, never_fits program n stages)

lost_fit : (program : List NumProc) (n : Drawn) (stages : List (Stage Body)) → AllByRecursion (StageFits program n) stages
    → AllByRecursion (BodyFits program n) (waiting_bodies stages)
lost_fit program n [] h = tt
lost_fit program n (stage.Waiting body ∷ stages) h = (h.0, lost_fit program n stages h.1)
lost_fit program n (stage.Running ∷ stages) h = lost_fit program n stages h.1
lost_fit program n (stage.Over ∷ stages) h = lost_fit program n stages h.1

never_long : (stages : List (Stage Body)) → length (map never_started stages) ≡ length stages
never_long [] = refl
never_long (y ∷ stages) = ap suc (never_long stages)

-- over, and so many have started
over_held : (x : Throttle Body) (n k : ℕ) → stage_in k x ≡ Some stage.Running → HasStarted x n → HasStarted (killed (body_over k x)) n
over_held x n k runs h =
    let y : Throttle Body = record x { stop = true }
    in let held : HasStarted y n = record {
      most = h.most;
      stop = true;
      dead = h.dead;
      overs = h.overs;
      lost = h.lost;
      bodies = h.bodies;
      marks = h.marks;
      is = ap (λ (z : Throttle Body). record z { stop = true }) h.is;
      few = h.few;
      full = h.full;
      started = h.started;
    }
    in let step = (call_step (Failed k) y n runs held).held
    in let same : n + 0 ≡ n = omega arith
    in record {
      most = step.most;
      stop = x.stop;
      dead = step.dead;
      overs = step.overs;
      lost = step.lost;
      bodies = step.bodies;
      marks = step.marks;
      is = ap (λ (z : Throttle Body). record z { stop = x.stop }) step.is;
      few = step.few;
      full = step.full;
      started = step.started ∙ same;
    }

dies_fits : (program : List NumProc) (n : Drawn) (x : Throttle Body) (bodies : List Started) (k : ℕ) → ThrottleFits program n x bodies
    → stage_in k x ≡ Some stage.Running → (slice_index_or bodies k no_started).fate ≡ Over → ThrottleFits program n (killed (body_over k x)) bodies
dies_fits program n x bodies k f runs e = record {
  waiting = never_fits program n (slice_set x.bodies k stage.Over);
  dropped =
      all_append (BodyFits program n) x.dropped (waiting_bodies (slice_set x.bodies k stage.Over)) f.dropped
      (lost_fit program n (slice_set x.bodies k stage.Over) (all_set (StageFits program n) x.bodies k stage.Over f.waiting tt));
  marks = f.marks;
  bodies = f.bodies;
  so_many = over_held x (length bodies) k runs f.so_many;
  stand = stand_never bodies (slice_set x.bodies k stage.Over) (stand_over bodies x.bodies k f.stand e);
  few = omega (arith, f.few, never_long (slice_set x.bodies k stage.Over), length-set x.bodies k stage.Over);
}

fails_by : (program : List NumProc) (b : BodyId) (s : State) (stop : Bool) → Fits program s
    → stage_in b.no (throttle_at b.throttle s) ≡ Some stage.Running → (throttles.started_at b s).fate ≡ Over
    → Grows program s (front_called b.throttle (cond stop None (started_by_end b.no (throttle_at b.throttle s)))
    (with_throttle_at b.throttle (cond stop (killed (body_over b.no (throttle_at b.throttle s))) (after_end b.no (throttle_at b.throttle s))) s))
fails_by program b s true f runs e =
    set_throttle_grows program b.throttle (killed (body_over b.no (throttle_at b.throttle s))) s f
    (dies_fits program (drawn s) (throttle_at b.throttle s) (started_of b.throttle s) b.no (throttle_fits program b.throttle s f) runs e)
fails_by program b s false f runs e = left_grows program b s f runs e

abbrev pub front_lost : BodyId → State → State
front_lost b s =
    let x : Throttle Body = throttle_at b.throttle s
    in front_called b.throttle (started_by_failure b.no x) (with_throttle_at b.throttle (after_failure b.no x) s)

pub front_lost_grows : (program : List NumProc) (b : BodyId) (s : State) → Fits program s → stage_in b.no (throttle_at b.throttle s) ≡ Some stage.Running
    → (throttles.started_at b s).fate ≡ Over → Grows program s (front_lost b s)
front_lost_grows program b s f runs e = fails_by program b s (throttle_at b.throttle s).stop f runs e

-- errors of dropped bodies
drops_by : (program : List NumProc) (bodies : List Body) (s : State) → Fits program s → AllByRecursion (BodyFits program (drawn s)) bodies
    → Grows program s (fold drop_raised s bodies)
drops_by program [] s f h = kept_grows program s f
drops_by program (body ∷ bodies) s f h =
    let one = enqueue_grows program body.ctx (plain_task (Raise dropped_error)) s f (record { monitor = h.0.context; frame_fits = tt })
    in then_grows program s (drop_raised s body) (fold drop_raised (drop_raised s body) bodies) one
    (drops_by program bodies (drop_raised s body) one.fits h.1)

pub drops_grow : (program : List NumProc) (t : ℕ) (s : State) → Fits program s → Grows program s (drops_raised t s)
drops_grow program t s f =
    let x : Throttle Body = throttle_at t s
    in let p = throttle_fits program t s f
    in let u : State = with_throttle_at t (without_dropped x) s
    in let one = set_throttle_grows program t (without_dropped x) s f
    (record {
      waiting = p.waiting;
      dropped = tt;
      marks = p.marks;
      bodies = p.bodies;
      so_many = dropped_held x (length (started_of t s)) p.so_many;
      stand = p.stand;
      few = p.few;
    })
    in then_grows program s u (drops_raised t s) one
    (drops_by program x.dropped u one.fits
    (subst (λ n. AllByRecursion (BodyFits program n) x.dropped)
    (ap (λ k. record (drawn s) { throttles = k }) (sym (length-set s.throttles t (without_dropped x)))) p.dropped))

-- ---- marks
pub with_marks_fits : (program : List NumProc) (n : Drawn) (x : Throttle Body) (bodies : List Started) (marks : List Mark) → ThrottleFits program n x bodies
    → AllByRecursion (MarkFits n) marks → ThrottleFits program n (record x { marks = marks }) bodies
with_marks_fits program n x bodies marks f h = record {
  waiting = f.waiting;
  dropped = f.dropped;
  marks = h;
  bodies = f.bodies;
  so_many = marks_held x (length bodies) marks f.so_many;
  stand = f.stand;
  few = f.few;
}

marks_by : (program : List NumProc) (marks : List Mark) (s : State) → Fits program s → Grows program s (fold mark_filled s marks)
marks_by program [] s f = kept_grows program s f
marks_by program (mark ∷ marks) s f =
    let one = fill_grows program mark.ivar (pos 0) s f
    in then_grows program s (mark_filled s mark) (fold mark_filled (mark_filled s mark) marks) one (marks_by program marks (mark_filled s mark) one.fits)

pub marks_grow : (program : List NumProc) (t : ℕ) (s : State) → Fits program s → Grows program s (marks_filled t s)
marks_grow program t s f =
    let x : Throttle Body = throttle_at t s
    in let p = throttle_fits program t s f
    in let u : State = with_throttle_at t (without_satisfied x) s
    in let one = set_throttle_grows program t (without_satisfied x) s f
    (with_marks_fits program (drawn s) x (started_of t s) _ p (all_filter (MarkFits (drawn s)) (throttle.is_unsatisfied x.bodies) x.marks p.marks))
    in then_grows program s u (marks_filled t s) one (marks_by program (satisfied_marks x) u one.fits)

awaited_by : (program : List NumProc) (t i : ℕ) (s : State) (done : Bool) → Fits program s → i < length s.cells.ivars
    → Grows program s (filled_where done i (with_throttle_at t (cond done (throttle_at t s) (with_mark i (throttle_at t s))) s))
awaited_by program t i s true f h =
    let u : State = with_throttle_at t (throttle_at t s) s
    in let one = set_throttle_grows program t (throttle_at t s) s f (throttle_fits program t s f)
    in then_grows program s u (fill i (pos 0) u) one (fill_grows program i (pos 0) u one.fits)
awaited_by program t i s false f h =
    let p = throttle_fits program t s f
    in set_throttle_grows program t (with_mark i (throttle_at t s)) s f
    (with_marks_fits program (drawn s) (throttle_at t s) (started_of t s) _ p (all_push (MarkFits (drawn s)) (throttle_at t s).marks _ p.marks h))

pub awaited_bodies_grow : (program : List NumProc) (t i : ℕ) (s : State) → Fits program s → i < length s.cells.ivars
    → Grows program s (done_awaited t i s)
awaited_bodies_grow program t i s f h = awaited_by program t i s (is_done (throttle_at t s)) f h
