-- Errors go up in the trace so far, and the state names monitors that exist: what ivars, monitors, errors and works keep of it.
use Rattle.std.proofs.Common.{ℕ, ℤ, ◌+◌, ◌<◌, ◌≤◌, ◌≡◌, List, [], ◌∷◌, ◌++◌, length, map, Bool, true, false, ◌==◌, cond, Option, Some, None}
use Rattle.std.proofs.Common.{refl, sym, subst, ◌∙◌, ap, arith, length-append, fold}
use Rattle.std.specs.Prelude.{pos, slice_set}
use Rattle.std.specs.List.{AllByRecursion}
use Rattle.std.proofs.lemmas.List.{length-map}
use Rattle.std.proofs.Math.ListN.{length-set}
use Rattle.ak_base.proofs.Lists.{all_push}
use Rattle.ak_base.specs.declared.number.Ctx.{Ctx}
use Rattle.ak_labor.specs.declared.work.Work.{Work}
use Rattle.ak_cells.specs.declared.registration.Registration.{Registration}
use Rattle.ak_cells.specs.Cells.{is_on, is_off, is_other, waiting_on, filled, unregistered, with_registration}
use Rattle.ak_cells.specs.Names.{renamed}
use Rattle.ak_rings.specs.declared.job.Job.{Job}
use Rattle.ak_rings.specs.Queues.{Queues, with_job}
use Rattle.ak_monitor.specs.Monitors.{Monitor, fresh_monitor, monitor_in, without_next_errors}
use Rattle.ak_clock.specs.declared.alarm.Alarm.{Alarm}
use Rattle.ak_clock.specs.Clock as clock
use Rattle.ak_clock.specs.Clock.{Clock}
use Rattle.ak_frames.specs.declared.value.Value.{Value}
use Rattle.ak_frames.specs.declared.frame.Ret.{Ret}
use Rattle.ak_frames.specs.declared.frame.Frame.{Frame}
use Rattle.ak_frames.specs.declared.frame.Frame.TheVariants.{Call}
use Rattle.ak_frames.specs.declared.frame.Task.{Task}
use Rattle.ak_trace.specs.declared.entry.Entry.{Entry}
use Rattle.ak_trace.specs.declared.entry.Entry.TheVariants as entry
use Rattle.ak_machine.specs.declared.held.Handler.{Handler}
use Rattle.ak_machine.specs.declared.held.Outstanding.{Outstanding}
use Rattle.ak_machine.specs.State.{State}
use Rattle.ak_machine.specs.Mapped.{monitor_mapped, state_mapped}
use Rattle.ak_machine.specs.Deferred.{noting, plain_task, woken_task, enqueue, called, number_at, woken_by, fill_empty, fill_at, fill}
use Rattle.ak_machine.specs.Deferred.{filled_with, filled_where, register_at, register, connect_at, connect}
use Rattle.ak_machine.specs.Monitors.{with_monitor, detach, attach, handled_by, next_error_awaited, in_monitor, called_under}
use Rattle.ak_machine.specs.Alarms.{aborted_at, abort, yields_filled, alarm_filled, alarms_filled}
use Rattle.ak_machine.specs.Errors.{next_errors_filled}
use Rattle.ak_machine.specs.Works.{submitted, with_helper}
use Rattle.ak_holders.proofs.Carry.{all_filter, all_at, all_set}
use Rattle.ak_laws.specs.Errors.{ErrorsGoUp}
use Rattle.ak_laws.proofs.Routes.{set_same, map_same, IsElse, Told, same_told, else_told, child_told, detached_told, attached_told, IsNoError, other_goes}
use Rattle.ak_laws.proofs.Scopes.{ValsIn, CtxIn, FrameIn, WaiterIn, JobIn, ActorIn, HandledIn, MonitorIn, WorkIn, StateIn, vals_more, state_more}
use Rattle.ak_laws.proofs.Scopes.{state_mapped_in}

-- a state with so many monitors: the entries tell them, errors went up so far, and only monitors that exist are named
pub record Routed (n : ℕ) (s : State) : Type 0 where
  pub count : length s.monitors ≡ n
  pub told : Told s.monitors s.trace
  pub goes : ErrorsGoUp s.trace
  pub keeps : StateIn n s

-- one with at least so many
pub record Later (n : ℕ) (s : State) : Type 0 where
  pub most : ℕ
  pub more : n ≤ most
  pub routed : Routed most s

pub now : (n : ℕ) (s : State) → Routed n s → Later n s
now n s h = record { most = n; more = omega arith; routed = h }

pub then : (n : ℕ) (s t : State) → Later n s → ((k : ℕ) → n ≤ k → Routed k s → Later k t) → Later n t
then n s t x f =
    let y : Later x.most t = f x.most x.more x.routed
    in record { most = y.most; more = omega (arith, x.more, y.more); routed = y.routed }

-- an entry that tells nothing of monitors and is no error
abbrev pub IsPlain : Entry → Type 0
IsPlain e = IsElse e × IsNoError e

module _ (n : ℕ) where
  -- ---- a change of nothing but what the state keeps
  pub changed : (s u : State) → u.monitors ≡ s.monitors → u.trace ≡ s.trace → StateIn n u → Routed n s → Routed n u
  changed s u em et keeps h = record {
    count = ap length em ∙ h.count;
    told = subst (λ ms. Told ms u.trace) (sym em) (subst (Told s.monitors) (sym et) h.told);
    goes = subst ErrorsGoUp (sym et) h.goes;
    keeps = keeps;
  }

  pub noted : (e : Entry) (s : State) → IsPlain e → Routed n s → Routed n (noting e s)
  noted e s q h = record {
    count = h.count;
    told = else_told s.monitors s.trace e q.0 h.told;
    goes = other_goes s.trace e q.1 h.goes;
    keeps = h.keeps;
  }

  pub root_in : (s : State) → Routed n s → 0 < n
  root_in s h = omega (arith, h.told.some, h.count)

  pub all_routed : {A : Type 0} (f : State → A → State) → ((s : State) (x : A) → Routed n s → Routed n (f s x)) → (xs : List A) (s : State) → Routed n s
      → Routed n (fold f s xs)
  all_routed f step [] s h = h
  all_routed f step (x ∷ xs) s h = all_routed f step xs (f s x) (step s x h)

  -- ---- jobs
  pushed_in : (b : Bool) (job : Job Task) (q : Queues Task) (s : State) → JobIn n job → StateIn n (record s { queues = q }) →
      StateIn n (record s {
        queues = cond b (record q { low = q.low ++ job ∷ []; next = q.next + 1 })
            (record q { normal = q.normal ++ job ∷ []; next = q.next + 1 });
      })
  pushed_in true job q s f k = (k.0, k.1, all_push (JobIn n) q.low job k.2 f, k.3, k.4, k.5, k.6, k.7, k.8)
  pushed_in false job q s f k = (k.0, all_push (JobIn n) q.normal job k.1 f, k.2, k.3, k.4, k.5, k.6, k.7, k.8)

  pub enqueued : (ctx : Ctx) (task : Task) (s : State) → CtxIn n ctx → FrameIn n task.frame → Routed n s → Routed n (enqueue ctx task s)
  enqueued ctx task s c f h =
      let queued : State = record s { queues = with_job ctx task s.queues }
      in noted (entry.Enq s.queues.next ctx.low) queued (tt, tt)
      (changed s queued refl refl (pushed_in ctx.low (record { no = s.queues.next; ctx = ctx; frame = task }) s.queues s (c, f) h.keeps) h)

  pub call_routed : (ctx : Ctx) (proc : ℕ) (vals : List Value) (ret : Ret) (s : State) → CtxIn n ctx → ValsIn n vals → Routed n s
      → Routed n (called ctx proc vals ret s)
  call_routed ctx proc vals ret s c v h = enqueued ctx (plain_task (Call proc vals ret)) s c v h

  -- ---- ivars
  woken_routed : (v : ℤ) (gs : List (Registration Frame)) (s : State) → AllByRecursion (WaiterIn n) gs → Routed n s → Routed n (fold (woken_by v) s gs)
  woken_routed v [] s f h = h
  woken_routed v (g ∷ gs) s f h = woken_routed v gs (woken_by v s g) f.1 (enqueued g.ctx (woken_task g.frame v) s f.0.0 f.0.1 h)

  fill_empty_routed : (i : ℕ) (v : ℤ) (s : State) → Routed n s → Routed n (fill_empty i v s)
  fill_empty_routed i v s h =
      let full : State = record s { cells = filled i v s.cells }
      in let k : StateIn n s = h.keeps
      in woken_routed v (waiting_on i s.cells) (noting (entry.Fill i v) full) (all_filter (WaiterIn n) (is_on i) s.cells.registrations k.0)
      (noted (entry.Fill i v) full (tt, tt)
      (changed s full refl refl (all_filter (WaiterIn n) (is_off i) s.cells.registrations k.0, k.1, k.2, k.3, k.4, k.5, k.6, k.7, k.8) h))

  fill_at_routed : (o : Option ℤ) (i : ℕ) (v : ℤ) (s : State) → Routed n s → Routed n (fill_at o i v s)
  fill_at_routed (Some w) i v s h = h
  fill_at_routed None i v s h = fill_empty_routed i v s h

  pub fill_routed : (i : ℕ) (v : ℤ) (s : State) → Routed n s → Routed n (fill i v s)
  fill_routed i v s h = fill_at_routed (number_at i s) i v s h

  pub where_routed : (b : Bool) (i : ℕ) (s : State) → Routed n s → Routed n (filled_where b i s)
  where_routed true i s h = fill_routed i (pos 0) s h
  where_routed false i s h = h

  pub fills_routed : (v : ℤ) (is : List ℕ) (s : State) → Routed n s → Routed n (fold (filled_with v) s is)
  fills_routed v is s h = all_routed (filled_with v) (λ u i g. fill_routed i v u g) is s h

  register_at_routed : (o : Option ℤ) (i : ℕ) (ctx : Ctx) (frame : Frame) (s : State) → CtxIn n ctx → FrameIn n frame → Routed n s
      → Routed n (register_at o i ctx frame s)
  register_at_routed (Some v) i ctx frame s c f h = enqueued ctx (woken_task frame v) s c f h
  register_at_routed None i ctx frame s c f h =
      let k : StateIn n s = h.keeps
      in let g : Registration Frame = record { number = s.cells.next; ivar = i; ctx = ctx; frame = frame }
      in changed s (record s { cells = with_registration i ctx frame s.cells }) refl refl
      (all_push (WaiterIn n) s.cells.registrations g k.0 (c, f), k.1, k.2, k.3, k.4, k.5, k.6, k.7, k.8) h

  pub register_routed : (i : ℕ) (ctx : Ctx) (frame : Frame) (s : State) → CtxIn n ctx → FrameIn n frame → Routed n s → Routed n (register i ctx frame s)
  register_routed i ctx frame s c f h = register_at_routed (number_at i s) i ctx frame s c f h

  pub forgotten_routed : (notes : List ℕ) (s : State) → Routed n s → Routed n (record s { cells = fold unregistered s.cells notes })
  forgotten_routed [] s h = changed s (record s { cells = s.cells }) refl refl h.keeps h
  forgotten_routed (x ∷ notes) s h =
      let k : StateIn n s = h.keeps
      in let fewer : State = record s { cells = unregistered s.cells x }
      in forgotten_routed notes fewer
      (changed s fewer refl refl (all_filter (WaiterIn n) (is_other x) s.cells.registrations k.0, k.1, k.2, k.3, k.4, k.5, k.6, k.7, k.8) h)

  mapped_routed : (f : ℕ → ℕ) (s : State) → Routed n s → Routed n (state_mapped f s)
  mapped_routed f s h =
      let as_many : length (map (monitor_mapped f) s.monitors) ≡ length s.monitors = length-map s.monitors (monitor_mapped f)
      in record {
        count = as_many ∙ h.count;
        told = same_told s.monitors (map (monitor_mapped f) s.monitors) s.trace as_many
            (λ m. map_same (λ (x : Monitor Handler). x.parent) (monitor_mapped f) (λ x. refl) s.monitors m (fresh_monitor 0))
            (λ m. map_same (λ (x : Monitor Handler). x.detached) (monitor_mapped f) (λ x. refl) s.monitors m (fresh_monitor 0)) h.told;
        goes = h.goes;
        keeps = state_mapped_in n f s h.keeps;
      }

  connect_by : (c : Bool) (a b : Option ℤ) (r i : ℕ) (s : State) → Routed n s → Routed n (cond c s (connect_at a b r i s))
  connect_by true a b r i s h = h
  connect_by false (Some w) b r i s h = h
  connect_by false None (Some v) r i s h = fill_routed r v s h
  connect_by false None None r i s h = mapped_routed (renamed i r) (noting (entry.Join r i) s) (noted (entry.Join r i) s (tt, tt) h)

  pub connect_routed : (r i : ℕ) (s : State) → Routed n s → Routed n (connect r i s)
  connect_routed r i s h = connect_by (r == i) (number_at r s) (number_at i s) r i s h

  -- ---- monitors
  -- one gives way to another with the same parent, which is detached where it was
  monitor_set : (m : ℕ) (x : Monitor Handler) (s : State) → x.parent ≡ (monitor_in s.monitors m).parent → x.detached ≡ (monitor_in s.monitors m).detached
      → MonitorIn n x → Routed n s → Routed n (record s { monitors = slice_set s.monitors m x })
  monitor_set m x s ep ed f h =
      let k : StateIn n s = h.keeps
      in let as_many : length (slice_set s.monitors m x) ≡ length s.monitors = length-set s.monitors m x
      in record {
        count = as_many ∙ h.count;
        told = same_told s.monitors (slice_set s.monitors m x) s.trace as_many
            (λ j. set_same (λ (y : Monitor Handler). y.parent) s.monitors m j x (fresh_monitor 0) ep)
            (λ j. set_same (λ (y : Monitor Handler). y.detached) s.monitors m j x (fresh_monitor 0) ed) h.told;
        goes = h.goes;
        keeps = (k.0, k.1, k.2, all_set (MonitorIn n) s.monitors m x f k.3, k.4, k.5, k.6, k.7, k.8);
      }

  pub monitor_at_in : (m : ℕ) (s : State) → Routed n s → MonitorIn n (monitor_in s.monitors m)
  monitor_at_in m s h = let k : StateIn n s = h.keeps in all_at (MonitorIn n) s.monitors m (fresh_monitor 0) tt k.3

  -- one more monitor, where the state may name it already
  pub with_monitor_routed : (p : ℕ) (s u : State) → u.monitors ≡ s.monitors → u.trace ≡ s.trace → StateIn (n + 1) u → p < n → Routed n s
      → Routed (n + 1) (with_monitor p u)
  with_monitor_routed p s u em et k l h =
      let count : length u.monitors ≡ n = ap length em ∙ h.count
      in let told : Told u.monitors u.trace = subst (λ ms. Told ms u.trace) (sym em) (subst (Told s.monitors) (sym et) h.told)
      in record {
        count = omega (arith, count, length-append u.monitors (fresh_monitor p ∷ []));
        told = child_told u.monitors u.trace p (omega (arith, l, count)) told;
        goes = other_goes u.trace (entry.Monitor (length u.monitors) p) tt (subst ErrorsGoUp (sym et) h.goes);
        keeps = (k.0, k.1, k.2, all_push (MonitorIn (n + 1)) u.monitors (fresh_monitor p) k.3 tt, k.4, k.5, k.6, k.7, k.8);
      }

  pub monitor_routed : (p : ℕ) (s : State) → p < n → Routed n s → Routed (n + 1) (with_monitor p s)
  monitor_routed p s l h = with_monitor_routed p s s refl refl (state_more n (n + 1) (omega arith) s h.keeps) l h

  pub detach_routed : (m : ℕ) (s : State) → m < n → Routed n s → Routed n (detach m s)
  detach_routed m s l h =
      let k : StateIn n s = h.keeps
      in let x : Monitor Handler = record (monitor_in s.monitors m) { detached = true }
      in record {
        count = length-set s.monitors m x ∙ h.count;
        told = detached_told s.monitors s.trace m (omega (arith, l, h.count)) h.told;
        goes = other_goes s.trace (entry.Detach m) tt h.goes;
        keeps = (k.0, k.1, k.2, all_set (MonitorIn n) s.monitors m x (monitor_at_in m s h) k.3, k.4, k.5, k.6, k.7, k.8);
      }

  pub attach_routed : (m : ℕ) (s : State) → m < n → Routed n s → Routed n (attach m s)
  attach_routed m s l h =
      let k : StateIn n s = h.keeps
      in let x : Monitor Handler = record (monitor_in s.monitors m) { detached = false }
      in record {
        count = length-set s.monitors m x ∙ h.count;
        told = attached_told s.monitors s.trace m (omega (arith, l, h.count)) h.told;
        goes = other_goes s.trace (entry.Attach m) tt h.goes;
        keeps = (k.0, k.1, k.2, all_set (MonitorIn n) s.monitors m x (monitor_at_in m s h) k.3, k.4, k.5, k.6, k.7, k.8);
      }

  pub handled_by_routed : (m : ℕ) (ctx : Ctx) (a : Handler) (s : State) → CtxIn n ctx → ActorIn n a → Routed n s → Routed n (handled_by m ctx a s)
  handled_by_routed m ctx a s c f h =
      let x : Monitor Handler = monitor_in s.monitors m
      in monitor_set m (record x { handlers = x.handlers ++ (ctx, a) ∷ [] }) s refl refl
      (all_push (HandledIn n) x.handlers (ctx, a) (monitor_at_in m s h) (c, f)) h

  pub awaited_routed : (m i : ℕ) (s : State) → Routed n s → Routed n (next_error_awaited m i s)
  awaited_routed m i s h =
      let x : Monitor Handler = monitor_in s.monitors m
      in monitor_set m (record x { next_errors = x.next_errors ++ i ∷ [] }) s refl refl (monitor_at_in m s h) h

  pub next_errors_routed : (e : ℤ) (s : State) (m : ℕ) → Routed n s → Routed n (next_errors_filled e s m)
  next_errors_routed e s m h =
      let x : Monitor Handler = monitor_in s.monitors m
      in fills_routed e x.next_errors (record s { monitors = without_next_errors m s.monitors })
      (monitor_set m (record x { next_errors = [] }) s refl refl (monitor_at_in m s h) h)

  -- ---- alarms and yields
  pub clock_routed : (c : Clock) (s : State) → Routed n s → Routed n (record s { clock = c })
  clock_routed c s h = changed s (record s { clock = c }) refl refl h.keeps h

  aborted_routed : (o : Option Alarm) (s : State) → Routed n s → Routed n (aborted_at o s)
  aborted_routed None s h = h
  aborted_routed (Some alarm) s h =
      fill_routed alarm.ivar (pos 1) (record s { clock = clock.without_alarm alarm.no s.clock }) (clock_routed (clock.without_alarm alarm.no s.clock) s h)

  pub abort_routed : (e : ℕ) (s : State) → Routed n s → Routed n (abort e s)
  abort_routed e s h = aborted_routed (clock.alarm_of e s.clock) s h

  pub yields_routed : (s : State) → Routed n s → Routed n (yields_filled s)
  yields_routed s h =
      fills_routed (pos 0) s.clock.yields (record s { clock = clock.without_yields s.clock }) (clock_routed (clock.without_yields s.clock) s h)

  pub alarms_routed : (s : State) → Routed n s → Routed n (alarms_filled s)
  alarms_routed s h =
      all_routed alarm_filled (λ u alarm g. fill_routed alarm.ivar (pos 0) u g) (clock.due_alarms s.clock)
      (record s { clock = clock.without_due s.clock }) (clock_routed (clock.without_due s.clock) s h)

  -- ---- works
  pub submitted_routed : (ctx : Ctx) (to : ℕ) (work : Work) (helper : Option ℕ) (s : State) → CtxIn n ctx → Routed n s
      → Routed n (submitted ctx to work helper s)
  submitted_routed ctx to work helper s c h =
      let k : StateIn n s = h.keeps
      in let x : Outstanding = record { number = s.next_work; to = to; ctx = ctx; helper = helper }
      in let more : State = record s { works = s.works ++ x ∷ []; next_work = s.next_work + 1 }
      in noted (entry.Submit s.next_work work.kind work.num) more (tt, tt)
      (changed s more refl refl (k.0, k.1, k.2, k.3, k.4, k.5, k.6, k.7, all_push (WorkIn n) s.works x k.8 c) h)

  pub with_helper_routed : (granted : Bool) (s : State) → Routed n s → Routed n (with_helper granted s)
  with_helper_routed granted s h =
      let more : State = record s { helpers = s.helpers ++ record { granted = granted; ended = false } ∷ [] }
      in noted (entry.Helper (length s.helpers) granted) more (tt, tt) (changed s more refl refl h.keeps h)

-- ---- a call in a fresh monitor, with a handler that has no values; the state may name that monitor already
pub called_under_routed : (n : ℕ) (a : Handler) (ctx : Ctx) (proc : ℕ) (vals : List Value) (ret : Ret) (s u : State) → u.monitors ≡ s.monitors
    → u.trace ≡ s.trace → StateIn (n + 1) u → ActorIn (n + 1) a → CtxIn n ctx → ValsIn n vals → Routed n s
    → Routed (n + 1) (called_under a ctx proc vals ret u)
called_under_routed n a ctx proc vals ret s u em et k f c v h =
    let m : ℕ = length u.monitors
    in let count : m ≡ n = ap length em ∙ h.count
    in let here : m < n + 1 = omega (arith, count)
    in let one : State = with_monitor ctx.mon u
    in let two : State = detach m one
    in call_routed (n + 1) (in_monitor m ctx) proc vals ret (handled_by m ctx a two) here (vals_more n (n + 1) (omega arith) vals v)
    (handled_by_routed (n + 1) m ctx a two (omega (arith, c)) f
    (detach_routed (n + 1) m one here (with_monitor_routed n ctx.mon s u em et k c h)))
