-- Errors go up in the trace so far, and the state names monitors that exist: what groups, throttles, pipes and errors keep of it.
use Rattle.std.proofs.Common.{ℕ, ℤ, ◌+◌, ◌<◌, ◌≡◌, List, [], ◌∷◌, ◌++◌, length, map, Bool, true, false, cond, Option, Some, None}
use Rattle.std.proofs.Common.{refl, ◌∙◌, arith, fold}
use Rattle.std.specs.Prelude.{pos, slice_set}
use Rattle.std.specs.List.{AllByRecursion}
use Rattle.ak_base.proofs.Lists.{all_push}
use Rattle.ak_base.specs.Lists.{first_of}
use Rattle.ak_base.specs.declared.number.Ctx.{Ctx}
use Rattle.ak_script.specs.declared.statement.GuardMode.{GuardMode}
use Rattle.ak_script.specs.declared.statement.GuardMode.TheVariants as mode
use Rattle.ak_cells.specs.declared.registration.Registration.{Registration}
use Rattle.ak_cells.specs.Cells.{waiting_on, filled}
use Rattle.ak_monitor.specs.Monitors.{monitor_in, without_next_errors, catcher, path, up_to}
use Rattle.ak_throttle.specs.declared.answer.Enqueued.TheVariants as placed
use Rattle.ak_throttle.specs.declared.stage.Stage.{Stage}
use Rattle.ak_throttle.specs.declared.stage.Stage.TheVariants as stage
use Rattle.ak_throttle.specs.Throttle as throttle
use Rattle.ak_throttle.specs.Throttle.{Throttle}
use Rattle.ak_pipe.specs.Pipe as pipe
use Rattle.ak_pipe.specs.Pipe.{Pipe, fresh_pipe}
use Rattle.ak_frames.specs.declared.value.Value.{Value}
use Rattle.ak_frames.specs.declared.value.Value.TheVariants.{Num}
use Rattle.ak_frames.specs.declared.frame.BodyId.{BodyId}
use Rattle.ak_frames.specs.declared.frame.Ret.TheVariants.{Drop, To, TryBody, ThrottleBody}
use Rattle.ak_frames.specs.declared.frame.Frame.{Frame}
use Rattle.ak_frames.specs.declared.frame.Frame.TheVariants.{AllPart, ChoicePart, TryDone, BodyDone, BodyFailed, Raise}
use Rattle.ak_trace.specs.declared.entry.Entry.TheVariants as entry
use Rattle.ak_trace.specs.declared.entry.Ending.TheVariants as ending
use Rattle.ak_machine.specs.declared.flow.Flow.{Flow}
use Rattle.ak_machine.specs.declared.flow.Flow.TheVariants as flow
use Rattle.ak_machine.specs.declared.held.Handler.{Handler}
use Rattle.ak_machine.specs.declared.held.Handler.TheVariants.{OnError, OfGuard, OfBody}
use Rattle.ak_machine.specs.declared.held.Callback.{Callback}
use Rattle.ak_machine.specs.declared.held.Choosable.{Choosable}
use Rattle.ak_machine.specs.declared.held.Purpose.{Purpose}
use Rattle.ak_machine.specs.declared.held.Purpose.TheVariants.{ForAll, ForAny, ForChoice, ForGuard}
use Rattle.ak_machine.specs.declared.held.Body.{Body}
use Rattle.ak_machine.specs.declared.held.Fate.{Fate}
use Rattle.ak_machine.specs.declared.held.Fate.TheVariants.{Undecided, Failing, Over}
use Rattle.ak_machine.specs.declared.held.Started.{Started}
use Rattle.ak_machine.specs.declared.held.Read.{Read}
use Rattle.ak_machine.specs.State.{State}
use Rattle.ak_machine.specs.Deferred.{noting, plain_task, number_at, fill, register, woken_by, fill_at, filled_with}
use Rattle.ak_machine.specs.Groups as group
use Rattle.ak_machine.specs.Throttles as throttles
use Rattle.ak_machine.specs.Pipes as pipes
use Rattle.ak_machine.specs.Errors.{stopped, next_errors_filled, acted, handler_acts, caught_at, send}
use Rattle.ak_holders.proofs.Carry.{all_append, all_map, all_at, all_set}
use Rattle.ak_laws.specs.Errors.{ErrorsGoUp}
use Rattle.ak_laws.proofs.Routes.{else_told, catcher_is, other_goes, caught_goes, unhandled_goes}
use Rattle.ak_laws.proofs.Routes.{IsFilled, IsHandled, just_caught, fill_filled, enqueue_filled, filled_handled, enqueue_handled, attach_handled}
use Rattle.ak_laws.proofs.Routes.{drop_handled, dropped_goes}
use Rattle.ak_laws.proofs.Scopes.{ValsIn, CtxIn, HandledIn, PurposeIn, BodyIn, StageIn, ThrottleIn, StartedIn, BodiesIn, ReadIn, PipeIn, StateIn}
use Rattle.ak_laws.proofs.Scopes.{vals_more, state_more}
use Rattle.ak_laws.proofs.Routing.{Routed, Later, now, then, changed, root_in, all_routed, enqueued, call_routed, fill_routed, where_routed}
use Rattle.ak_laws.proofs.Routing.{fills_routed, register_routed, forgotten_routed, monitor_at_in, attach_routed, next_errors_routed}
use Rattle.ak_laws.proofs.Routing.{called_under_routed}

-- ---- an error that was caught fills next errors
woken_filled : (e v : ℤ) (gs : List (Registration Frame)) (s : State) → IsFilled e s.trace → IsFilled e (fold (woken_by v) s gs).trace
woken_filled e v [] s x = x
woken_filled e v (g ∷ gs) s x = woken_filled e v gs (woken_by v s g) (enqueue_filled e s.trace s.queues.next g.ctx.low x)

one_filled : (e : ℤ) (o : Option ℤ) (i : ℕ) (s : State) → IsFilled e s.trace → IsFilled e (fill_at o i e s).trace
one_filled e (Some w) i s x = x
one_filled e None i s x =
    woken_filled e e (waiting_on i s.cells) (noting (entry.Fill i e) (record s { cells = filled i e s.cells })) (fill_filled e s.trace i x)

each_filled : (e : ℤ) (is : List ℕ) (s : State) → IsFilled e s.trace → IsFilled e (fold (filled_with e) s is).trace
each_filled e [] s x = x
each_filled e (i ∷ is) s x = each_filled e is (fill i e s) (one_filled e (number_at i s) i s x)

next_filled : (e : ℤ) (ms : List ℕ) (s : State) → IsFilled e s.trace → IsFilled e (fold (next_errors_filled e) s ms).trace
next_filled e [] s x = x
next_filled e (m ∷ ms) s x =
    next_filled e ms (next_errors_filled e s m)
    (each_filled e (monitor_in s.monitors m).next_errors (record s { monitors = without_next_errors m s.monitors }) x)

-- ---- and then handlers act
decided_handled : (e : ℤ) (kind : GuardMode) (m g : ℕ) (s : State) → IsHandled e s.trace → IsHandled e (group.guard_decided kind m g s).trace
decided_handled e mode.Drop m g s x = x
decided_handled e mode.Raise m g s x = attach_handled e s.trace m x

guard_handled : (q : Purpose) (b : Bool) (g : ℕ) (e : ℤ) (s : State) → IsHandled e s.trace → IsHandled e (group.guard_catches q b g e s).trace
guard_handled (ForGuard ctx m kind c) false g e s x =
    let t : State = group.guard_decided kind m g s in enqueue_handled e t.trace t.queues.next ctx.low (decided_handled e kind m g s x)
guard_handled (ForGuard ctx m kind c) true g e s x = drop_handled e s.trace x
guard_handled (ForAll c) b g e s x = x
guard_handled (ForAny ds r) b g e s x = x
guard_handled (ForChoice choices vals r) b g e s x = x

body_handled : (f : Fate) (b : BodyId) (e : ℤ) (s : State) → IsHandled e s.trace → IsHandled e (throttles.acts_at f b e s).trace
body_handled Undecided b e s x = enqueue_handled e s.trace s.queues.next (throttles.started_at b s).ctx.low x
body_handled Failing b e s x = drop_handled e s.trace x
body_handled Over b e s x = drop_handled e s.trace x

acted_handled : (e : ℤ) (ctx : Ctx) (a : Handler) (s : State) → IsHandled e s.trace → IsHandled e (acted e ctx a s).trace
acted_handled e ctx (OnError proc vals) s x = enqueue_handled e s.trace s.queues.next ctx.low x
acted_handled e ctx (OfGuard g) s x = guard_handled (group.purpose_at g s) (group.group_at g s).decided g e s x
acted_handled e ctx (OfBody b) s x = body_handled (throttles.started_at b s).fate b e s x

-- a later error is dropped
dropped_routed : (n : ℕ) (e : ℤ) (s : State) → Routed n s → IsHandled e s.trace → Routed n (noting (entry.Rest e) s)
dropped_routed n e s h x = record {
  count = h.count;
  told = else_told s.monitors s.trace (entry.Rest e) tt h.told;
  goes = dropped_goes s.trace e x h.goes;
  keeps = h.keeps;
}

module _ (n : ℕ) where
  -- ---- groups
  pub group_routed : (parts : ℕ) (q : Purpose) (s : State) → PurposeIn n q → Routed n s → Routed n (group.with_group parts q s)
  group_routed parts q s f h =
      let k : StateIn n s = h.keeps
      in changed n s (group.with_group parts q s) refl refl
      (k.0, k.1, k.2, k.3, all_push (PurposeIn n) s.purposes q k.4 f, k.5, k.6, k.7, k.8) h

  pub purpose_in : (g : ℕ) (s : State) → Routed n s → PurposeIn n (group.purpose_at g s)
  purpose_in g s h = let k : StateIn n s = h.keeps in all_at (PurposeIn n) s.purposes g (ForAny [] 0) tt k.4

  all_parts_routed : (ctx : Ctx) (g : ℕ) (ds : List ℕ) (k : ℕ) (s : State) → CtxIn n ctx → Routed n s → Routed n (group.all_registered ctx g ds k s)
  all_parts_routed ctx g [] k s c h = h
  all_parts_routed ctx g (d ∷ ds) k s c h =
      all_parts_routed ctx g ds (k + 1) (register d ctx (AllPart g k) s) c (register_routed n d ctx (AllPart g k) s c tt h)

  noted_at_routed : (o : Option ℤ) (g : ℕ) (s : State) → Routed n s → Routed n (group.noted_at o g s)
  noted_at_routed (Some v) g s h = h
  noted_at_routed None g s h = changed n s (group.noted_at None g s) refl refl h.keeps h

  choice_parts_routed : (ctx : Ctx) (g : ℕ) (ds : List ℕ) (s : State) → CtxIn n ctx → Routed n s → Routed n (group.choice_registered ctx g ds s)
  choice_parts_routed ctx g [] s c h = h
  choice_parts_routed ctx g (d ∷ ds) s c h =
      let t : State = group.noted g d s
      in choice_parts_routed ctx g ds (register d ctx (ChoicePart g) t) c
      (register_routed n d ctx (ChoicePart g) t c tt (noted_at_routed (number_at d s) g s h))

  pub all_begun_routed : (ctx : Ctx) (ds : List ℕ) (c : Callback) (s : State) → CtxIn n ctx → ValsIn n c.vals → Routed n s
      → Routed n (group.all_begun ctx ds c s)
  all_begun_routed ctx ds c s i v h = all_parts_routed ctx (length s.groups) ds 0 _ i (group_routed (length ds) (ForAll c) s v h)

  pub any_begun_routed : (ctx : Ctx) (ds : List ℕ) (r : ℕ) (s : State) → CtxIn n ctx → Routed n s → Routed n (group.any_begun ctx ds r s)
  any_begun_routed ctx ds r s i h = choice_parts_routed ctx (length s.groups) ds _ i (group_routed 0 (ForAny ds r) s tt h)

  pub choice_begun_routed : (ctx : Ctx) (cs : List Choosable) (vals : List Value) (r : ℕ) (s : State) → CtxIn n ctx → ValsIn n vals → Routed n s
      → Routed n (group.choice_begun ctx cs vals r s)
  choice_begun_routed ctx cs vals r s i v h =
      choice_parts_routed ctx (length s.groups) (map group.deferred_of cs) _ i (group_routed 0 (ForChoice cs vals r) s v h)

  pub choice_decided_routed : (g : ℕ) (s : State) → Routed n s → Routed n (group.choice_decided g s)
  choice_decided_routed g s h =
      let t : State = record s { cells = (group.choice_decided g s).cells }
      in let x : Routed n t = forgotten_routed n (group.group_at g s).notes s h
      in changed n t (group.choice_decided g s) refl refl x.keeps x

  guard_decided_routed : (kind : GuardMode) (m g : ℕ) (s : State) → m < n → Routed n s → Routed n (group.guard_decided kind m g s)
  guard_decided_routed mode.Drop m g s l h = changed n s (group.decided g s) refl refl h.keeps h
  guard_decided_routed mode.Raise m g s l h = attach_routed n m (group.decided g s) l (changed n s (group.decided g s) refl refl h.keeps h)

  guard_catches_routed : (q : Purpose) (b : Bool) (g : ℕ) (e : ℤ) (s : State) → PurposeIn n q → Routed n s → IsHandled e s.trace
      → Routed n (group.guard_catches q b g e s)
  guard_catches_routed (ForGuard ctx m kind c) false g e s f h x =
      call_routed n ctx c.proc (Num e ∷ c.vals) (To c.to) (group.guard_decided kind m g s) f.0 (tt, f.2) (guard_decided_routed kind m g s f.1 h)
  guard_catches_routed (ForGuard ctx m kind c) true g e s f h x = dropped_routed n e s h x
  guard_catches_routed (ForAll c) b g e s f h x = h
  guard_catches_routed (ForAny ds r) b g e s f h x = h
  guard_catches_routed (ForChoice choices vals r) b g e s f h x = h

  guard_filled_routed : (q : Purpose) (b : Bool) (g : ℕ) (v : ℤ) (s : State) → PurposeIn n q → Routed n s → Routed n (group.guard_filled q b g v s)
  guard_filled_routed (ForGuard ctx m kind c) false g v s f h =
      fill_routed n c.to v (group.guard_decided kind m g s) (guard_decided_routed kind m g s f.1 h)
  guard_filled_routed (ForGuard ctx m kind c) true g v s f h = h
  guard_filled_routed (ForAll c) b g v s f h = h
  guard_filled_routed (ForAny ds r) b g v s f h = h
  guard_filled_routed (ForChoice choices vals r) b g v s f h = h

  guard_waits_routed : (q : Purpose) (b : Bool) (g i : ℕ) (s : State) → PurposeIn n q → Routed n s → Routed n (group.guard_waits q b g i s)
  guard_waits_routed (ForGuard ctx m kind c) false g i s f h = register_routed n i ctx (TryDone g) s f.0 tt h
  guard_waits_routed (ForGuard ctx m kind c) true g i s f h = h
  guard_waits_routed (ForAll c) b g i s f h = h
  guard_waits_routed (ForAny ds r) b g i s f h = h
  guard_waits_routed (ForChoice choices vals r) b g i s f h = h

  guard_acts_routed : (g : ℕ) (e : ℤ) (s : State) → Routed n s → IsHandled e s.trace → Routed n (group.guard_acts g e s)
  guard_acts_routed g e s h x = guard_catches_routed (group.purpose_at g s) (group.group_at g s).decided g e s (purpose_in g s h) h x

  pub try_done_routed : (g : ℕ) (v : ℤ) (s : State) → Routed n s → Routed n (group.try_done g v s)
  try_done_routed g v s h = guard_filled_routed (group.purpose_at g s) (group.group_at g s).decided g v s (purpose_in g s h) h

  pub try_waits_routed : (g i : ℕ) (s : State) → Routed n s → Routed n (group.try_waits g i s)
  try_waits_routed g i s h = guard_waits_routed (group.purpose_at g s) (group.group_at g s).decided g i s (purpose_in g s h) h

  -- ---- throttles
  throttle_in : (t : ℕ) (s : State) → Routed n s → ThrottleIn n (throttles.throttle_at t s)
  throttle_in t s h = let k : StateIn n s = h.keeps in all_at (ThrottleIn n) s.throttles t throttles.no_throttle (tt, tt) k.5

  throttle_set : (t : ℕ) (x : Throttle Body) (s : State) → ThrottleIn n x → Routed n s → Routed n (throttles.with_throttle_at t x s)
  throttle_set t x s f h =
      let k : StateIn n s = h.keeps
      in changed n s (throttles.with_throttle_at t x s) refl refl
      (k.0, k.1, k.2, k.3, k.4, all_set (ThrottleIn n) s.throttles t x f k.5, k.6, k.7, k.8) h

  pub throttle_routed : (most : ℕ) (stop : Bool) (s : State) → Routed n s → Routed n (throttles.with_throttle most stop s)
  throttle_routed most stop s h =
      let k : StateIn n s = h.keeps
      in changed n s (throttles.with_throttle most stop s) refl refl (
        k.0,
        k.1,
        k.2,
        k.3,
        k.4,
        all_push (ThrottleIn n) s.throttles (throttle.fresh_throttle most stop) k.5 (tt, tt),
        all_push (BodiesIn n) s.started [] k.6 tt,
        k.7,
        k.8,
      ) h

  bodies_in : (t : ℕ) (s : State) → Routed n s → BodiesIn n (throttles.started_of t s)
  bodies_in t s h = let k : StateIn n s = h.keeps in all_at (BodiesIn n) s.started t [] tt k.6

  started_in : (b : BodyId) (s : State) → Routed n s → CtxIn n (throttles.started_at b s).ctx
  started_in b s h = all_at (StartedIn n) (throttles.started_of b.throttle s) b.no throttles.no_started (root_in n s h) (bodies_in b.throttle s h)

  bodies_set : (t : ℕ) (xs : List Started) (s : State) → BodiesIn n xs → Routed n s → Routed n (record s { started = slice_set s.started t xs })
  bodies_set t xs s f h =
      let k : StateIn n s = h.keeps
      in changed n s (record s { started = slice_set s.started t xs }) refl refl
      (k.0, k.1, k.2, k.3, k.4, k.5, all_set (BodiesIn n) s.started t xs f k.6, k.7, k.8) h

  fate_routed : (fate : Fate) (b : BodyId) (s : State) → Routed n s → Routed n (throttles.with_fate fate b s)
  fate_routed fate b s h =
      let x : Started = record (throttles.started_at b s) { fate = fate }
      in let xs : List Started = throttles.started_of b.throttle s
      in bodies_set b.throttle (slice_set xs b.no x) s (all_set (StartedIn n) xs b.no x (started_in b s h) (bodies_in b.throttle s h)) h

  marks_routed : (t : ℕ) (s : State) → Routed n s → Routed n (throttles.marks_filled t s)
  marks_routed t s h =
      let x : Throttle Body = throttles.throttle_at t s
      in all_routed n throttles.mark_filled (λ u mark g. fill_routed n mark.ivar (pos 0) u g) (throttle.satisfied_marks x)
      (throttles.with_throttle_at t (throttle.without_satisfied x) s) (throttle_set t (throttle.without_satisfied x) s (throttle_in t s h) h)

  awaited_in : (b : Bool) (i : ℕ) (x : Throttle Body) → ThrottleIn n x → ThrottleIn n (cond b x (throttle.with_mark i x))
  awaited_in true i x f = f
  awaited_in false i x f = f

  pub done_awaited_routed : (t i : ℕ) (s : State) → Routed n s → Routed n (throttles.done_awaited t i s)
  done_awaited_routed t i s h =
      let x : Throttle Body = throttles.throttle_at t s
      in where_routed n (throttle.is_done x) i (throttles.with_throttle_at t (throttle.awaited i x) s)
      (throttle_set t (throttle.awaited i x) s (awaited_in (throttle.is_done x) i x (throttle_in t s h)) h)

  -- the first body that waits
  abbrev FrontIn : Option (ℕ × Body) → Type 0
  FrontIn None = Unit {0}
  FrontIn (Some front) = BodyIn n front.1

  front_in : (k : ℕ) (stages : List (Stage Body)) → AllByRecursion (StageIn n) stages → FrontIn (throttle.front_waiting k stages)
  front_in k [] f = tt
  front_in k (stage.Waiting body ∷ stages) f = f.0
  front_in k (stage.Running ∷ stages) f = front_in (k + 1) stages f.1
  front_in k (stage.Over ∷ stages) f = front_in (k + 1) stages f.1

  started_at_in : (o : Option (ℕ × Body)) (x : Throttle Body) → ThrottleIn n x → ThrottleIn n (throttle.started_at o x)
  started_at_in None x f = f
  started_at_in (Some front) x f = (all_set (StageIn n) x.bodies front.0 stage.Running tt f.0, f.1)

  over_in : (k : ℕ) (x : Throttle Body) → ThrottleIn n x → ThrottleIn n (throttle.body_over k x)
  over_in k x f = (all_set (StageIn n) x.bodies k stage.Over tt f.0, f.1)

  end_in : (k : ℕ) (x : Throttle Body) → ThrottleIn n x → ThrottleIn n (throttle.after_end k x)
  end_in k x f = started_at_in (throttle.started_by_end k x) (throttle.body_over k x) (over_in k x f)

  never_in : (x : Stage Body) → StageIn n x → StageIn n (throttle.never_started x)
  never_in (stage.Waiting body) f = tt
  never_in stage.Running f = tt
  never_in stage.Over f = tt

  waiting_in : (stages : List (Stage Body)) → AllByRecursion (StageIn n) stages → AllByRecursion (BodyIn n) (throttle.waiting_bodies stages)
  waiting_in [] f = tt
  waiting_in (stage.Waiting body ∷ stages) f = (f.0, waiting_in stages f.1)
  waiting_in (stage.Running ∷ stages) f = waiting_in stages f.1
  waiting_in (stage.Over ∷ stages) f = waiting_in stages f.1

  killed_in : (x : Throttle Body) → ThrottleIn n x → ThrottleIn n (throttle.killed x)
  killed_in x f = (
    all_map (StageIn n) (StageIn n) throttle.never_started never_in x.bodies f.0,
    all_append (BodyIn n) x.dropped (throttle.waiting_bodies x.bodies) f.1 (waiting_in x.bodies f.0),
  )

  failure_in : (k : ℕ) (b : Bool) (x : Throttle Body) → ThrottleIn n x
      → ThrottleIn n (cond b (throttle.killed (throttle.body_over k x)) (throttle.after_end k x))
  failure_in k true x f = killed_in (throttle.body_over k x) (over_in k x f)
  failure_in k false x f = end_in k x f

  failing_front_in : (k : ℕ) (b : Bool) (x : Throttle Body) → ThrottleIn n x → FrontIn (cond b None (throttle.started_by_end k x))
  failing_front_in k true x f = tt
  failing_front_in k false x f = let g : ThrottleIn n (throttle.body_over k x) = over_in k x f in front_in 0 (throttle.body_over k x).bodies g.0

  body_called_routed : (b : BodyId) (body : Body) (s : State) → BodyIn n body → Routed n s → Routed (n + 1) (throttles.body_called b body s)
  body_called_routed b body s f h =
      let x : Started = record { fate = Undecided; ctx = body.ctx; to = body.call.to }
      in let xs : List Started = throttles.started_of b.throttle s
      in let t : State = throttles.with_started b.throttle x s
      in let g : Routed n t = bodies_set b.throttle (xs ++ x ∷ []) s (all_push (StartedIn n) xs x (bodies_in b.throttle s h) f.0) h
      in called_under_routed n (OfBody b) body.ctx body.call.proc body.call.vals (ThrottleBody b) t t refl refl
      (state_more n (n + 1) (omega arith) t g.keeps) tt f.0 f.1 g

  front_routed : (t : ℕ) (o : Option (ℕ × Body)) (s : State) → FrontIn o → Routed n s → Later n (throttles.front_called t o s)
  front_routed t None s f h = now n s h
  front_routed t (Some front) s f h =
      record { most = n + 1; more = omega arith; routed = body_called_routed (record { throttle = t; no = front.0 }) front.1 s f h }

  body_placed_routed : (b : Bool) (t : ℕ) (body : Body) (s : State) → BodyIn n body → Routed n s
      → Later n (throttles.body_placed (cond b (placed.Start (length (throttles.throttle_at t s).bodies) body)
      (placed.Waits (length (throttles.throttle_at t s).bodies))) t (throttles.with_throttle_at t (record (throttles.throttle_at t s) {
        bodies = (throttles.throttle_at t s).bodies ++ cond b stage.Running (stage.Waiting body) ∷ [];
      }) s))
  body_placed_routed true t body s f h =
      let x : Throttle Body = throttles.throttle_at t s
      in let g : ThrottleIn n x = throttle_in t s h
      in let y : Throttle Body = record x { bodies = x.bodies ++ stage.Running ∷ [] }
      in record {
        most = n + 1;
        more = omega arith;
        routed = body_called_routed (record { throttle = t; no = length x.bodies }) body (throttles.with_throttle_at t y s) f
            (throttle_set t y s (all_push (StageIn n) x.bodies stage.Running g.0 tt, g.1) h);
      }
  body_placed_routed false t body s f h =
      let x : Throttle Body = throttles.throttle_at t s
      in let g : ThrottleIn n x = throttle_in t s h
      in let y : Throttle Body = record x { bodies = x.bodies ++ stage.Waiting body ∷ [] }
      in now n (throttles.with_throttle_at t y s) (throttle_set t y s (all_push (StageIn n) x.bodies (stage.Waiting body) g.0 f, g.1) h)

  pub body_enqueued_routed : (t : ℕ) (body : Body) (s : State) → BodyIn n body → Routed n s → Later n (throttles.body_enqueued t body s)
  body_enqueued_routed t body s f h = body_placed_routed (throttle.has_room (throttles.throttle_at t s)) t body s f h

  body_left_routed : (b : BodyId) (s : State) → Routed n s → Later n (throttles.body_left b s)
  body_left_routed b s h =
      let x : Throttle Body = throttles.throttle_at b.throttle s
      in let g : ThrottleIn n x = throttle_in b.throttle s h
      in let over : ThrottleIn n (throttle.body_over b.no x) = over_in b.no x g
      in front_routed b.throttle (throttle.started_by_end b.no x) (throttles.with_throttle_at b.throttle (throttle.after_end b.no x) s)
      (front_in 0 (throttle.body_over b.no x).bodies over.0) (throttle_set b.throttle (throttle.after_end b.no x) s (end_in b.no x g) h)

  waits_at_routed : (f : Fate) (b : BodyId) (i : ℕ) (s : State) → Routed n s → Routed n (throttles.waits_at f b i s)
  waits_at_routed Undecided b i s h = register_routed n i (throttles.started_at b s).ctx (BodyDone b) s (started_in b s h) tt h
  waits_at_routed Failing b i s h = h
  waits_at_routed Over b i s h = h

  pub body_waits_routed : (b : BodyId) (i : ℕ) (s : State) → Routed n s → Routed n (throttles.body_waits b i s)
  body_waits_routed b i s h = waits_at_routed (throttles.started_at b s).fate b i s h

  acts_at_routed : (f : Fate) (b : BodyId) (e : ℤ) (s : State) → Routed n s → IsHandled e s.trace → Routed n (throttles.acts_at f b e s)
  acts_at_routed Undecided b e s h x =
      enqueued n (throttles.started_at b s).ctx (plain_task (BodyFailed b e)) (throttles.with_fate Failing b s) (started_in b s h) tt
      (fate_routed Failing b s h)
  acts_at_routed Failing b e s h x = dropped_routed n e s h x
  acts_at_routed Over b e s h x = dropped_routed n e s h x

  raised_routed : (bodies : List Body) (s : State) → AllByRecursion (BodyIn n) bodies → Routed n s → Routed n (fold throttles.drop_raised s bodies)
  raised_routed [] s f h = h
  raised_routed (body ∷ bodies) s f h =
      raised_routed bodies (throttles.drop_raised s body) f.1 (enqueued n body.ctx (plain_task (Raise throttles.dropped_error)) s f.0.0 tt h)

  drops_routed : (t : ℕ) (s : State) → Routed n s → Routed n (throttles.drops_raised t s)
  drops_routed t s h =
      let x : Throttle Body = throttles.throttle_at t s
      in let g : ThrottleIn n x = throttle_in t s h
      in raised_routed x.dropped (throttles.with_throttle_at t (throttle.without_dropped x) s) g.1
      (throttle_set t (throttle.without_dropped x) s (g.0, tt) h)

  -- ---- pipes
  pipe_in : (p : ℕ) (s : State) → Routed n s → PipeIn n (pipes.pipe_at p s)
  pipe_in p s h = let k : StateIn n s = h.keeps in all_at (PipeIn n) s.pipes p (fresh_pipe 0) (tt, tt) k.7

  pipe_set : (p : ℕ) (x : Pipe Read) (s : State) → PipeIn n x → Routed n s → Routed n (pipes.with_pipe_at p x s)
  pipe_set p x s f h =
      let k : StateIn n s = h.keeps
      in changed n s (pipes.with_pipe_at p x s) refl refl (k.0, k.1, k.2, k.3, k.4, k.5, k.6, all_set (PipeIn n) s.pipes p x f k.7, k.8) h

  pub pipe_routed : (budget : ℕ) (s : State) → Routed n s → Routed n (pipes.with_pipe budget s)
  pipe_routed budget s h =
      let k : StateIn n s = h.keeps
      in changed n s (pipes.with_pipe budget s) refl refl
      (k.0, k.1, k.2, k.3, k.4, k.5, k.6, all_push (PipeIn n) s.pipes (fresh_pipe budget) k.7 (tt, tt), k.8) h

  item_routed : (r : Read) (v : ℤ) (s : State) → ReadIn n r → Routed n s → Routed n (pipes.item_called r v s)
  item_routed r v s f h = call_routed n r.ctx r.item.proc (Num v ∷ r.item.vals) (To r.item.to) s f.0 (tt, f.1) h

  eof_routed : (r : Read) (s : State) → ReadIn n r → Routed n s → Routed n (pipes.eof_called s r)
  eof_routed r s f h = call_routed n r.ctx r.eof.proc r.eof.vals (To r.eof.to) s f.0 f.2 h

  eofs_routed : (rs : List Read) (s : State) → AllByRecursion (ReadIn n) rs → Routed n s → Routed n (fold pipes.eof_called s rs)
  eofs_routed [] s f h = h
  eofs_routed (r ∷ rs) s f h = eofs_routed rs (pipes.eof_called s r) f.1 (eof_routed r s f.0 h)

  before_in : (rs : List Read) (v : ℤ) (x : Pipe Read) → AllByRecursion (ReadIn n) rs → PipeIn n x → PipeIn n (pipe.put_before rs v x)
  before_in [] v x f g = g
  before_in (r ∷ rs) v x f g = (f.1, g.1)

  put_in : (v : ℤ) (x : Pipe Read) → PipeIn n x → PipeIn n (pipe.put v x)
  put_in v x g = before_in x.reads v x g.0 g

  taken_routed : (rs : List Read) (v : ℤ) (s : State) → AllByRecursion (ReadIn n) rs → Routed n s → Routed n (pipes.taken_by (first_of rs) v s)
  taken_routed [] v s f h = h
  taken_routed (r ∷ rs) v s f h = item_routed r v s f.0 h

  pub put_routed : (p : ℕ) (v : ℤ) (s : State) → Routed n s → Routed n (pipes.put p v s)
  put_routed p v s h =
      let x : Pipe Read = pipes.pipe_at p s
      in let g : PipeIn n x = pipe_in p s h
      in taken_routed x.reads v (pipes.with_pipe_at p (pipe.put v x) s) g.0 (pipe_set p (pipe.put v x) s (put_in v x g) h)

  written_in : (b : Bool) (i : ℕ) (x : Pipe Read) → PipeIn n x → PipeIn n (cond b x (pipe.with_pushback i x))
  written_in true i x g = g
  written_in false i x g = g

  pub write_routed : (p i : ℕ) (v : ℤ) (s : State) → Routed n s → Routed n (pipes.write p i v s)
  write_routed p i v s h =
      let x : Pipe Read = pipes.pipe_at p s
      in let g : PipeIn n x = pipe_in p s h
      in let after : State = pipes.with_pipe_at p (pipe.after_write v i x) s
      in where_routed n (pipe.is_free (pipe.put v x)) i (pipes.taken_by (pipe.taker_of x) v after)
      (taken_routed x.reads v after g.0 (pipe_set p (pipe.after_write v i x) s (written_in (pipe.is_free (pipe.put v x)) i (pipe.put v x) (put_in v x g)) h))

  freed_in : (b : Bool) (x : Pipe Read) → PipeIn n x → PipeIn n (cond b (record x { pushbacks = [] }) x)
  freed_in true x g = g
  freed_in false x g = g

  pushbacks_routed : (p : ℕ) (s : State) → Routed n s → Routed n (pipes.pushbacks_freed p s)
  pushbacks_routed p s h =
      let x : Pipe Read = pipes.pipe_at p s
      in fills_routed n (pos 0) (pipe.freed_pushbacks x) (pipes.with_pipe_at p (pipe.without_freed x) s)
      (pipe_set p (pipe.without_freed x) s (freed_in (pipe.is_free x) x (pipe_in p s h)) h)

  flushes_routed : (p : ℕ) (s : State) → Routed n s → Routed n (pipes.flushes_settled p s)
  flushes_routed p s h =
      let x : Pipe Read = pipes.pipe_at p s
      in all_routed n (pipes.flush_filled x) (λ u flush g. fill_routed n flush.ivar (pipe.flush_number x flush) u g) (pipe.settled_flushes x)
      (pipes.with_pipe_at p (pipe.without_settled x) s) (pipe_set p (pipe.without_settled x) s (pipe_in p s h) h)

  got_routed : (items : List ℤ) (closed : Bool) (p : ℕ) (r : Read) (s : State) → ReadIn n r → Routed n s
      → Routed n (pipes.got_for (pipe.got_from items closed r) p s)
  got_routed (v ∷ items) closed p r s f h =
      let freed : State = pipes.pushbacks_freed p s
      in item_routed r v (pipes.flushes_settled p freed) f (flushes_routed p freed (pushbacks_routed p s h))
  got_routed [] true p r s f h = eof_routed r s f h
  got_routed [] false p r s f h = h

  read_from_in : (items : List ℤ) (closed : Bool) (r : Read) (x : Pipe Read) → ReadIn n r → PipeIn n x → PipeIn n (pipe.read_from items closed r x)
  read_from_in (v ∷ items) closed r x f g = g
  read_from_in [] true r x f g = g
  read_from_in [] false r x f g = (all_push (ReadIn n) x.reads r g.0 f, g.1)

  pub read_routed : (p : ℕ) (r : Read) (s : State) → ReadIn n r → Routed n s → Routed n (pipes.read p r s)
  read_routed p r s f h =
      let x : Pipe Read = pipes.pipe_at p s
      in got_routed (pipe.items_of x) x.closed p r (pipes.with_pipe_at p (pipe.after_read r x) s) f
      (pipe_set p (pipe.after_read r x) s (read_from_in (pipe.items_of x) x.closed r x f (pipe_in p s h)) h)

  owed_in : (b : Bool) (x y : Pipe Read) → PipeIn n x → PipeIn n y → PipeIn n (cond b x (pipe.reads_owed y))
  owed_in true x y f g = f
  owed_in false x y f g = (tt, all_append (ReadIn n) y.owed y.reads g.1 g.0)

  eofs_called_routed : (p : ℕ) (s : State) → Routed n s → Routed n (pipes.eofs_called p s)
  eofs_called_routed p s h =
      let x : Pipe Read = pipes.pipe_at p s
      in let g : PipeIn n x = pipe_in p s h
      in eofs_routed x.owed (pipes.with_pipe_at p (pipe.without_owed x) s) g.1 (pipe_set p (pipe.without_owed x) s (g.0, tt) h)

  pub close_routed : (p : ℕ) (s : State) → Routed n s → Routed n (pipes.close p s)
  close_routed p s h =
      let x : Pipe Read = pipes.pipe_at p s
      in let g : PipeIn n x = pipe_in p s h
      in eofs_called_routed p (pipes.with_pipe_at p (pipe.after_close x) s)
      (pipe_set p (pipe.after_close x) s (owed_in x.closed x (record x { closed = true }) g g) h)

  pub close_read_routed : (p : ℕ) (s : State) → Routed n s → Routed n (pipes.close_read p s)
  close_read_routed p s h =
      let x : Pipe Read = pipes.pipe_at p s
      in let g : PipeIn n x = pipe_in p s h
      in let after : State = pipes.with_pipe_at p (pipe.after_close_read x) s
      in let freed : State = pipes.pushbacks_freed p after
      in eofs_called_routed p (pipes.flushes_settled p freed) (flushes_routed p freed (pushbacks_routed p after
      (pipe_set p (pipe.after_close_read x) s (owed_in x.reader_closed x (record x { closed = true; reader_closed = true }) g g) h)))

  flush_in : (o : Option ℤ) (i : ℕ) (x : Pipe Read) → PipeIn n x → PipeIn n (pipe.flush_kept o i x)
  flush_in (Some v) i x g = g
  flush_in None i x g = g

  learned_routed : (o : Option ℤ) (i : ℕ) (s : State) → Routed n s → Routed n (pipes.learned o i s)
  learned_routed (Some v) i s h = fill_routed n i v s h
  learned_routed None i s h = h

  pub flushed_routed : (p i : ℕ) (s : State) → Routed n s → Routed n (pipes.flushed p i s)
  flushed_routed p i s h =
      let x : Pipe Read = pipes.pipe_at p s
      in learned_routed (pipe.flushed_at_once x) i (pipes.with_pipe_at p (pipe.after_flushed i x) s)
      (pipe_set p (pipe.after_flushed i x) s (flush_in (pipe.flushed_at_once x) i x (pipe_in p s h)) h)

  -- ---- errors
  acted_routed : (e : ℤ) (ctx : Ctx) (a : Handler) (s : State) → HandledIn n (ctx, a) → Routed n s → IsHandled e s.trace → Routed n (acted e ctx a s)
  acted_routed e ctx (OnError proc vals) s f h x = call_routed n ctx proc (Num e ∷ vals) Drop s f.0 (tt, f.1) h
  acted_routed e ctx (OfGuard g) s f h x = guard_acts_routed g e s h x
  acted_routed e ctx (OfBody b) s f h x = acts_at_routed (throttles.started_at b s).fate b e s h x

  all_acted_routed : (e : ℤ) (xs : List (Ctx × Handler)) (s : State) → AllByRecursion (HandledIn n) xs → Routed n s → IsHandled e s.trace
      → Routed n (fold (handler_acts e) s xs)
  all_acted_routed e [] s f h x = h
  all_acted_routed e (a ∷ xs) s f h x =
      all_acted_routed e xs (handler_acts e s a) f.1 (acted_routed e a.0 a.1 s f.0 h x) (acted_handled e a.0 a.1 s x)

  -- a state in which the run goes on, or the trace of one that has ended
  abbrev pub AfterGoes : Flow → State → Type 0
  AfterGoes flow.On s = Routed n s
  AfterGoes flow.Stopped s = ErrorsGoUp s.trace
  AfterGoes (flow.Unhandled e) s = ErrorsGoUp s.trace

  caught_routed : (o : Option ℕ) (m : ℕ) (e : ℤ) (s : State) → catcher s.monitors m ≡ o → m < n → Routed n s
      → AfterGoes (caught_at o m e (noting (entry.Error e m) s)).flow (caught_at o m e (noting (entry.Error e m) s)).state
  caught_routed None m e s c l h = unhandled_goes s.trace e m (catcher_is s.monitors s.trace h.told m (omega (arith, l, h.count)) ∙ c) h.goes
  caught_routed (Some c) m e s q l h =
      let raised : State = noting (entry.Error e m) s
      in let caught : State = noting (entry.Caught c) raised
      in let there : Routed n caught = record {
        count = h.count;
        told = else_told s.monitors raised.trace (entry.Caught c) tt (else_told s.monitors s.trace (entry.Error e m) tt h.told);
        goes = caught_goes s.trace e m c (catcher_is s.monitors s.trace h.told m (omega (arith, l, h.count)) ∙ q) h.goes;
        keeps = h.keeps;
      }
      in let filled : State = fold (next_errors_filled e) caught (up_to c (path s.monitors m))
      in let after : Routed n filled =
      all_routed n (next_errors_filled e) (λ u k g. next_errors_routed n e u k g) (up_to c (path s.monitors m)) caught there
      in all_acted_routed e (monitor_in filled.monitors c).handlers filled (monitor_at_in n c filled after) after
      (filled_handled e filled.trace (next_filled e (up_to c (path s.monitors m)) caught (just_caught s.trace e m c)))

  pub send_routed : (m : ℕ) (e : ℤ) (s : State) → m < n → Routed n s → AfterGoes (send m e s).flow (send m e s).state
  send_routed m e s l h = caught_routed (catcher s.monitors m) m e s refl l h

  pub stopped_goes : (s : State) → Routed n s → ErrorsGoUp (stopped s).state.trace
  stopped_goes s h = other_goes s.trace (entry.End ending.Stopped) tt h.goes

-- ---- what may make more monitors
pub try_begun_routed : (n : ℕ) (ctx : Ctx) (kind : GuardMode) (proc : ℕ) (vals : List Value) (c : Callback) (s : State) → CtxIn n ctx → ValsIn n vals
    → ValsIn n c.vals → Routed n s → Later n (group.try_begun ctx kind proc vals c s)
try_begun_routed n ctx kind proc vals c s i v w h =
    let m : ℕ = length s.monitors
    in let q : Purpose = ForGuard ctx m kind c
    in let u : State = group.with_group 0 q s
    in let k : StateIn (n + 1) s = state_more n (n + 1) (omega arith) s h.keeps
    in let f : PurposeIn (n + 1) q = (omega (arith, i), omega (arith, h.count), vals_more n (n + 1) (omega arith) c.vals w)
    in record {
      most = n + 1;
      more = omega arith;
      routed = called_under_routed n (OfGuard (length s.groups)) ctx proc vals (TryBody (length s.groups)) s u refl refl
          (k.0, k.1, k.2, k.3, all_push (PurposeIn (n + 1)) s.purposes q k.4 f, k.5, k.6, k.7, k.8) tt i v h;
    }

ended_at_routed : (n : ℕ) (f : Fate) (b : BodyId) (v : ℤ) (s : State) → Routed n s → Later n (throttles.ended_at f b v s)
ended_at_routed n Undecided b v s h =
    let over : State = throttles.with_fate Over b s
    in let full : State = fill (throttles.started_at b s).to v over
    in then n (throttles.body_left b full) (throttles.marks_filled b.throttle (throttles.body_left b full))
    (body_left_routed n b full (fill_routed n (throttles.started_at b s).to v over (fate_routed n Over b s h)))
    (λ k l x. now k (throttles.marks_filled b.throttle (throttles.body_left b full)) (marks_routed k b.throttle (throttles.body_left b full) x))
ended_at_routed n Failing b v s h = now n s h
ended_at_routed n Over b v s h = now n s h

pub body_ended_routed : (n : ℕ) (b : BodyId) (v : ℤ) (s : State) → Routed n s → Later n (throttles.body_ended b v s)
body_ended_routed n b v s h = ended_at_routed n (throttles.started_at b s).fate b v s h

body_lost_routed : (n : ℕ) (b : BodyId) (s : State) → Routed n s → Later n (throttles.body_lost b s)
body_lost_routed n b s h =
    let x : Throttle Body = throttles.throttle_at b.throttle s
    in let g : ThrottleIn n x = throttle_in n b.throttle s h
    in let after : State = throttles.with_throttle_at b.throttle (throttle.after_failure b.no x) s
    in let started : State = throttles.front_called b.throttle (throttle.started_by_failure b.no x) after
    in let raised : State = throttles.drops_raised b.throttle started
    in then n started (throttles.marks_filled b.throttle raised)
    (front_routed n b.throttle (throttle.started_by_failure b.no x) after (failing_front_in n b.no x.stop x g)
    (throttle_set n b.throttle (throttle.after_failure b.no x) s (failure_in n b.no x.stop x g) h))
    (λ k l y. now k (throttles.marks_filled b.throttle raised) (marks_routed k b.throttle raised (drops_routed k b.throttle started y)))

failed_at_routed : (n : ℕ) (f : Fate) (b : BodyId) (s : State) → Routed n s → Later n (throttles.failed_at f b s)
failed_at_routed n Undecided b s h = now n s h
failed_at_routed n Failing b s h = body_lost_routed n b (throttles.with_fate Over b s) (fate_routed n Over b s h)
failed_at_routed n Over b s h = now n s h

pub body_failed_routed : (n : ℕ) (b : BodyId) (s : State) → Routed n s → Later n (throttles.body_failed b s)
body_failed_routed n b s h = failed_at_routed n (throttles.started_at b s).fate b s h
