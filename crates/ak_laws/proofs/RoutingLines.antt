-- Errors go up in the trace so far, and the state names monitors that exist: what statements and the lines of a procedure keep of it.
use Rattle.std.proofs.Common.{ℕ, ℤ, ◌+◌, ◌<◌, ◌≤◌, List, [], ◌∷◌, ◌++◌, length, map, Bool, true, false, cond, Option, Some, None, refl, arith}
use Rattle.std.specs.Prelude.{pos, ◌+ℤ◌, Result, Ok, Err}
use Rattle.ak_base.proofs.Lists.{all_push}
use Rattle.ak_base.specs.Numbers.{fits}
use Rattle.ak_base.specs.declared.number.Ctx.{Ctx}
use Rattle.ak_labor.specs.declared.work.WorkKind.{WorkKind}
use Rattle.ak_script.specs.declared.script.Kind.{Kind}
use Rattle.ak_script.specs.declared.script.Kind.TheVariants as kind
use Rattle.ak_frames.specs.declared.value.Value.{Value}
use Rattle.ak_frames.specs.declared.value.Value.TheVariants as value
use Rattle.ak_frames.specs.declared.frame.Ret.{Ret}
use Rattle.ak_frames.specs.declared.frame.Ret.TheVariants.{Drop, To, TryBody, ThrottleBody}
use Rattle.ak_frames.specs.declared.frame.Frame.TheVariants.{OnValue}
use Rattle.ak_trace.specs.declared.entry.Entry.TheVariants as entry
use Rattle.ak_clock.specs.declared.alarm.TickRefused.{TickRefused}
use Rattle.ak_clock.specs.declared.alarm.TickRefused.TheVariants.{Negative, Overflow}
use Rattle.ak_clock.specs.Clock.{set_to, ticked}
use Rattle.ak_program.specs.declared.program.NumPrefix.{NumPrefix}
use Rattle.ak_program.specs.declared.program.NumStatement.{NumStatement}
use Rattle.ak_program.specs.declared.program.NumProc.{NumProc}
use Rattle.ak_program.specs.declared.statement.NumStmt.{NumStmt}
use Rattle.ak_program.specs.declared.statement.NumStmt.TheVariants as stmt
use Rattle.ak_program.specs.Programs.{num_binds, StatementIsSound, LinesAreSound}
use Rattle.ak_machine.specs.declared.flow.Flow.{Flow}
use Rattle.ak_machine.specs.declared.flow.Flow.TheVariants as flow
use Rattle.ak_machine.specs.declared.held.Handler.TheVariants.{OnError}
use Rattle.ak_machine.specs.State.{State}
use Rattle.ak_machine.specs.Number.{Computed, Gives, Overflows, DividesByZero, computed}
use Rattle.ak_machine.specs.Deferred.{with_ivar, is_empty, fill}
use Rattle.ak_machine.specs.Throttles.{throttle_at}
use Rattle.ak_machine.specs.Pipes.{pipe_at}
use Rattle.ak_machine.specs.Alarms.{with_alarm, with_yield}
use Rattle.ak_machine.specs.Errors.{After, going_on, stopped, send}
use Rattle.ak_machine.specs.Works.{is_active, helper_at, helper_ended}
use Rattle.ak_machine.specs.Effect.{Effect, Goes, Raises, Returns, Stops, Ends, Asks, name_in, number_in, args_of, call_to_fresh, holds}
use Rattle.ak_machine.specs.Statement.{choosable, set_effect, work_effect, sent_effect, tick_effect, effect_of, line_effect}
use Rattle.ak_machine.specs.Job.{Rest, Progress, Over, Asking, number_returned, deferred_returned, returned, run_lines}
use Rattle.ak_machine.specs.IvarsNamed.{in_ret}
use Rattle.ak_holders.specs.Typed.{Names, KindsFit, kinds_of}
use Rattle.ak_holders.specs.Held.{JobHolds}
use Rattle.ak_holders.proofs.Carry.{local_fits, GoesOn, EffectIs, line_held}
use Rattle.ak_laws.specs.Errors.{ErrorsGoUp}
use Rattle.ak_laws.proofs.Scopes.{ValueIn, ValsIn, CtxIn, args_in, local_in, vals_more}
use Rattle.ak_laws.proofs.Routing.{Routed, Later, now, changed, noted, call_routed, fill_routed, register_routed, connect_routed, monitor_routed}
use Rattle.ak_laws.proofs.Routing.{detach_routed, handled_by_routed, awaited_routed, clock_routed, abort_routed, submitted_routed}
use Rattle.ak_laws.proofs.RoutingParts.{all_begun_routed, any_begun_routed, choice_begun_routed, try_done_routed, try_waits_routed, throttle_routed}
use Rattle.ak_laws.proofs.RoutingParts.{done_awaited_routed, body_enqueued_routed, body_waits_routed, pipe_routed, put_routed, write_routed, read_routed}
use Rattle.ak_laws.proofs.RoutingParts.{close_routed, close_read_routed, flushed_routed, AfterGoes, send_routed, stopped_goes, try_begun_routed}
use Rattle.ak_laws.proofs.RoutingParts.{body_ended_routed}

-- a state with at least so many monitors, beside the values of a job
pub record On (n : ℕ) (s : State) (vals : List Value) : Type 0 where
  pub most : ℕ
  pub more : n ≤ most
  pub routed : Routed most s
  pub locals : ValsIn most vals

-- what a statement leaves
abbrev pub EffectGoes : ℕ → Effect → Type 0
EffectGoes n (Goes s vals) = On n s vals
EffectGoes n (Raises e) = Unit {0}
EffectGoes n (Returns v) = Unit {0}
EffectGoes n Stops = Unit {0}
EffectGoes n (Ends after) = AfterGoes n after.flow after.state
EffectGoes n (Asks a s vals) = On n s vals

module _ (n : ℕ) where
  either_goes : (b : Bool) (x y : Effect) → EffectGoes n x → EffectGoes n y → EffectGoes n (cond b x y)
  either_goes true x y f g = f
  either_goes false x y f g = g

  same : (s : State) (vals : List Value) → ValsIn n vals → Routed n s → On n s vals
  same s vals v h = record { most = n; more = omega arith; routed = h; locals = v }

  binds : (s : State) (vals : List Value) (x : Value) → ValueIn n x → ValsIn n vals → Routed n s → On n s (vals ++ x ∷ [])
  binds s vals x f v h = same s (vals ++ x ∷ []) (all_push (ValueIn n) vals x v f) h

  -- where there may be more monitors
  binds_later : (s : State) (vals : List Value) (i : ℕ) → ValsIn n vals → Later n s → On n s (vals ++ value.Def i ∷ [])
  binds_later s vals i v x =
      record {
        most = x.most;
        more = x.more;
        routed = x.routed;
        locals = all_push (ValueIn x.most) vals (value.Def i) (vals_more n x.most x.more vals v) tt;
      }

  fresh : (s : State) → Routed n s → Routed n (with_ivar s)
  fresh s h = changed n s (with_ivar s) refl refl h.keeps h

  set_goes : (c : Computed) (s : State) (vals : List Value) → ValsIn n vals → Routed n s → EffectGoes n (set_effect c s vals)
  set_goes (Gives z) s vals v h = binds s vals (value.Num z) tt v h
  set_goes Overflows s vals v h = tt
  set_goes DividesByZero s vals v h = tt

  sent_goes : (after : After) (vals : List Value) → ValsIn n vals → AfterGoes n after.flow after.state → EffectGoes n (sent_effect after vals)
  sent_goes after vals v h = by after.flow h
    where
      by : (f : Flow) → AfterGoes n f after.state → EffectGoes n (sent_effect (record { state = after.state; flow = f }) vals)
      by flow.On g = same after.state vals v g
      by flow.Stopped g = g
      by (flow.Unhandled e) g = g

  work_goes : (ctx : Ctx) (k : WorkKind) (z : ℤ) (helper : Option ℕ) (s : State) (vals : List Value) → CtxIn n ctx → ValsIn n vals → Routed n s
      → EffectGoes n (work_effect ctx k z helper s vals)
  work_goes ctx k z helper s vals c v h =
      let i : ℕ = length s.cells.ivars
      in binds _ vals (value.Def i) tt v (submitted_routed n ctx i (record { kind = k; num = z }) helper (with_ivar s) c (fresh s h))

  tick_goes : (x : Result (Unit {0}) TickRefused) (time : ℤ) (s : State) (vals : List Value) → ValsIn n vals → Routed n s
      → EffectGoes n (tick_effect x time s vals)
  tick_goes (Ok u) time s vals v h = same _ vals v (clock_routed n (set_to time s.clock) s h)
  tick_goes (Err Negative) time s vals v h = tt
  tick_goes (Err Overflow) time s vals v h = tt

  alarm_routed : (time : ℤ) (s : State) → Routed n s → Routed n (with_alarm time s)
  alarm_routed time s h = changed n s (with_alarm time s) refl refl h.keeps h

  effect_goes : (program : List NumProc) (kinds : List Kind) (ctx : Ctx) (prefix : Option NumPrefix) (line : ℕ) (st : NumStmt) (s : State)
      (vals : List Value) → StatementIsSound program kinds (record { line = line; prefix = prefix; stmt = st }) → KindsFit kinds vals → CtxIn n ctx
      → ValsIn n vals → Routed n s → EffectGoes n (effect_of ctx st s vals)
  effect_goes program kinds ctx prefix line (stmt.Set x a op b) s vals ok f c v h =
      set_goes (computed op (number_in vals a) (number_in vals b)) s vals v h
  effect_goes program kinds ctx prefix line (stmt.Print a) s vals ok f c v h =
      same _ vals v (noted n (entry.Print (number_in vals a)) s (tt, tt) h)
  effect_goes program kinds ctx prefix line (stmt.Ivar i) s vals ok f c v h = binds _ vals (value.Ivar (length s.cells.ivars)) tt v (fresh s h)
  effect_goes program kinds ctx prefix line (stmt.Fill i a) s vals ok f c v h =
      either_goes (is_empty (name_in vals i) s) _ _ (same _ vals v (fill_routed n (name_in vals i) (number_in vals a) s h)) tt
  effect_goes program kinds ctx prefix line (stmt.Offer i a) s vals ok f c v h =
      same _ vals v (fill_routed n (name_in vals i) (number_in vals a) s h)
  effect_goes program kinds ctx prefix line (stmt.Upon d proc args) s vals ok f c v h =
      same _ vals v (register_routed n (name_in vals d) ctx (OnValue proc (args_of vals args) Drop) s c (args_in n vals args v) h)
  effect_goes program kinds ctx prefix line (stmt.Bind r d proc args) s vals ok f c v h =
      let i : ℕ = length s.cells.ivars
      in binds _ vals (value.Def i) tt v
      (register_routed n (name_in vals d) ctx (OnValue proc (args_of vals args) (To i)) (with_ivar s) c (args_in n vals args v) (fresh s h))
  effect_goes program kinds ctx prefix line (stmt.All r ds proc args) s vals ok f c v h =
      binds _ vals (value.Def (length s.cells.ivars)) tt v
      (all_begun_routed n ctx (map (name_in vals) ds) (call_to_fresh s proc (args_of vals args)) (with_ivar s) c (args_in n vals args v) (fresh s h))
  effect_goes program kinds ctx prefix line (stmt.Any r ds) s vals ok f c v h =
      let i : ℕ = length s.cells.ivars
      in binds _ vals (value.Def i) tt v (any_begun_routed n ctx (map (name_in vals) ds) i (with_ivar s) c (fresh s h))
  effect_goes program kinds ctx prefix line (stmt.Choose r choices args) s vals ok f c v h =
      let i : ℕ = length s.cells.ivars
      in binds _ vals (value.Def i) tt v
      (choice_begun_routed n ctx (map (choosable vals) choices) (args_of vals args) i (with_ivar s) c (args_in n vals args v) (fresh s h))
  effect_goes program kinds ctx prefix line (stmt.Sched proc args) s vals ok f c v h =
      same _ vals v (call_routed n (record ctx { low = false }) proc (args_of vals args) Drop s c (args_in n vals args v) h)
  effect_goes program kinds ctx prefix line (stmt.Low proc args) s vals ok f c v h =
      same _ vals v (call_routed n (record ctx { low = true }) proc (args_of vals args) Drop s c (args_in n vals args v) h)
  effect_goes program kinds ctx prefix line (stmt.Yield r) s vals ok f c v h =
      binds _ vals (value.Def (length s.cells.ivars)) tt v (changed n s (with_yield s) refl refl h.keeps h)
  effect_goes program kinds ctx prefix line (stmt.Never r) s vals ok f c v h = binds _ vals (value.Def (length s.cells.ivars)) tt v (fresh s h)
  effect_goes program kinds ctx prefix line (stmt.After r z) s vals ok f c v h =
      let time : ℤ = s.clock.time +ℤ number_in vals z
      in either_goes (fits time) _ _ (binds (with_alarm time s) vals (value.Def (length s.cells.ivars)) tt v (alarm_routed time s h)) tt
  effect_goes program kinds ctx prefix line (stmt.Event e r z) s vals ok f c v h =
      let time : ℤ = s.clock.time +ℤ number_in vals z
      in let event : Value = value.Event s.clock.next
      in either_goes (fits time) _ _
      (binds (with_alarm time s) (vals ++ event ∷ []) (value.Def (length s.cells.ivars)) tt (all_push (ValueIn n) vals event v tt) (alarm_routed time s h)) tt
  effect_goes program kinds ctx prefix line (stmt.Abort e) s vals ok f c v h = same _ vals v (abort_routed n (name_in vals e) s h)
  effect_goes program kinds ctx prefix line (stmt.Tick z) s vals ok f c v h =
      let time : ℤ = s.clock.time +ℤ number_in vals z in tick_goes (ticked (number_in vals z) time) time s vals v h
  effect_goes program kinds ctx prefix line (stmt.Monitor m) s vals ok f c v h =
      let here : length s.monitors < n + 1 = omega (arith, h.count)
      in record {
        most = n + 1;
        more = omega arith;
        routed = monitor_routed n ctx.mon s c h;
        locals = all_push (ValueIn (n + 1)) vals (value.Mon (length s.monitors)) (vals_more n (n + 1) (omega arith) vals v) here;
      }
  effect_goes program kinds ctx prefix line (stmt.Within m proc args) s vals ok f c v h =
      same _ vals v (call_routed n (record ctx { mon = name_in vals m }) proc (args_of vals args) Drop s
      (local_in n vals m (local_fits kinds vals m kind.Mon f ok.uses.0) v) (args_in n vals args v) h)
  effect_goes program kinds ctx prefix line (stmt.Detach m) s vals ok f c v h =
      same _ vals v (detach_routed n (name_in vals m) s (local_in n vals m (local_fits kinds vals m kind.Mon f ok.uses.0) v) h)
  effect_goes program kinds ctx prefix line (stmt.OnError m proc args) s vals ok f c v h =
      same _ vals v (handled_by_routed n (name_in vals m) ctx (OnError proc (args_of vals args)) s c (args_in n vals args v) h)
  effect_goes program kinds ctx prefix line (stmt.NextError r m) s vals ok f c v h =
      let i : ℕ = length s.cells.ivars
      in binds _ vals (value.Def i) tt v (awaited_routed n (name_in vals m) i (with_ivar s) (fresh s h))
  effect_goes program kinds ctx prefix line (stmt.Raise a) s vals ok f c v h = tt
  effect_goes program kinds ctx prefix line (stmt.Send m a) s vals ok f c v h =
      sent_goes (send (name_in vals m) (number_in vals a) s) vals v
      (send_routed n (name_in vals m) (number_in vals a) s (local_in n vals m (local_fits kinds vals m kind.Mon f ok.uses.0) v) h)
  effect_goes program kinds ctx prefix line (stmt.Try r proc args catch catch_args mode) s vals ok f c v h =
      binds_later _ vals (length s.cells.ivars) v
      (try_begun_routed n ctx mode proc (args_of vals args) (call_to_fresh s catch (args_of vals catch_args)) (with_ivar s) c
      (args_in n vals args v) (args_in n vals catch_args v) (fresh s h))
  effect_goes program kinds ctx prefix line (stmt.Throttle t k stop) s vals ok f c v h =
      binds _ vals (value.Thr (length s.throttles)) tt v (throttle_routed n k stop s h)
  effect_goes program kinds ctx prefix line (stmt.Enqueue r t proc args) s vals ok f c v h =
      either_goes (throttle_at (name_in vals t) s).dead _ _ tt
      (binds_later _ vals (length s.cells.ivars) v
      (body_enqueued_routed n (name_in vals t) (record { ctx = ctx; call = call_to_fresh s proc (args_of vals args) }) (with_ivar s)
      (c, args_in n vals args v) (fresh s h)))
  effect_goes program kinds ctx prefix line (stmt.ThrottleDone r t) s vals ok f c v h =
      let i : ℕ = length s.cells.ivars
      in binds _ vals (value.Def i) tt v (done_awaited_routed n (name_in vals t) i (with_ivar s) (fresh s h))
  effect_goes program kinds ctx prefix line (stmt.Pipe x b) s vals ok f c v h = binds _ vals (value.Pipe (length s.pipes)) tt v (pipe_routed n b s h)
  effect_goes program kinds ctx prefix line (stmt.Write r x a) s vals ok f c v h =
      let i : ℕ = length s.cells.ivars
      in either_goes (pipe_at (name_in vals x) s).closed _ _ tt
      (binds _ vals (value.Def i) tt v (write_routed n (name_in vals x) i (number_in vals a) (with_ivar s) (fresh s h)))
  effect_goes program kinds ctx prefix line (stmt.Put x a) s vals ok f c v h =
      either_goes (pipe_at (name_in vals x) s).closed _ _ tt (same _ vals v (put_routed n (name_in vals x) (number_in vals a) s h))
  effect_goes program kinds ctx prefix line (stmt.Read r x proc args eof eof_args) s vals ok f c v h =
      binds _ vals (value.Def (length s.cells.ivars)) tt v
      (read_routed n (name_in vals x) (record {
        ctx = ctx;
        item = call_to_fresh s proc (args_of vals args);
        eof = call_to_fresh s eof (args_of vals eof_args);
      }) (with_ivar s) (c, args_in n vals args v, args_in n vals eof_args v) (fresh s h))
  effect_goes program kinds ctx prefix line (stmt.Close x) s vals ok f c v h = same _ vals v (close_routed n (name_in vals x) s h)
  effect_goes program kinds ctx prefix line (stmt.CloseRead x) s vals ok f c v h = same _ vals v (close_read_routed n (name_in vals x) s h)
  effect_goes program kinds ctx prefix line (stmt.Flushed r x) s vals ok f c v h =
      let i : ℕ = length s.cells.ivars
      in binds _ vals (value.Def i) tt v (flushed_routed n (name_in vals x) i (with_ivar s) (fresh s h))
  effect_goes program kinds ctx prefix line (stmt.Work r k a) s vals ok f c v h = work_goes ctx k (number_in vals a) None s vals c v h
  effect_goes program kinds ctx prefix line (stmt.Helper x y) s vals ok f c v h = same s vals v h
  effect_goes program kinds ctx prefix line (stmt.HelperWork r x k a) s vals ok f c v h =
      either_goes (is_active (helper_at (name_in vals x) s)) _ _ (work_goes ctx k (number_in vals a) (Some (name_in vals x)) s vals c v h) tt
  effect_goes program kinds ctx prefix line (stmt.HelperDone x) s vals ok f c v h =
      let ended : State = helper_ended (name_in vals x) s
      in either_goes (is_active (helper_at (name_in vals x) s)) _ _ (same ended vals v (changed n s ended refl refl h.keeps h)) (same s vals v h)
  effect_goes program kinds ctx prefix line stmt.Stop s vals ok f c v h = tt
  effect_goes program kinds ctx prefix line (stmt.Ret a) s vals ok f c v h = tt

  line_goes : (program : List NumProc) (kinds : List Kind) (ctx : Ctx) (prefix : Option NumPrefix) (line : ℕ) (st : NumStmt) (s : State)
      (vals : List Value) → StatementIsSound program kinds (record { line = line; prefix = prefix; stmt = st }) → KindsFit kinds vals → CtxIn n ctx
      → ValsIn n vals → Routed n s → EffectGoes n (cond (holds prefix vals) (effect_of ctx st s vals) (Goes s vals))
  line_goes program kinds ctx prefix line st s vals ok f c v h =
      either_goes (holds prefix vals) _ _ (effect_goes program kinds ctx prefix line st s vals ok f c v h) (same s vals v h)

-- ---- what a job leaves
-- a state in which the run goes on, or the trace of one that has ended
abbrev pub OverGoes : Flow → State → Type 0
OverGoes flow.On s = Later 0 s
OverGoes flow.Stopped s = ErrorsGoUp s.trace
OverGoes (flow.Unhandled e) s = ErrorsGoUp s.trace

-- a job that waits for an answer
pub record Asked (s : State) (rest : Rest) : Type 0 where
  pub most : ℕ
  pub routed : Routed most s
  pub ctx : CtxIn most rest.ctx
  pub vals : ValsIn most rest.vals

abbrev pub ProgressGoes : Progress → Type 0
ProgressGoes (Over after) = OverGoes after.flow after.state
ProgressGoes (Asking a s rest) = Asked s rest

pub any_later : (n : ℕ) (s : State) → Later n s → Later 0 s
any_later n s x = record { most = x.most; more = omega arith; routed = x.routed }

pub over_goes : (n : ℕ) (f : Flow) (s : State) → AfterGoes n f s → OverGoes f s
over_goes n flow.On s h = any_later n s (now n s h)
over_goes n flow.Stopped s h = h
over_goes n (flow.Unhandled e) s h = h

module _ (n : ℕ) where
  number_returned_goes : (ret : Ret) (z : ℤ) (s : State) → Routed n s → Later n (number_returned ret z s)
  number_returned_goes Drop z s h = now n s h
  number_returned_goes (To r) z s h = now n (fill r z s) (fill_routed n r z s h)
  number_returned_goes (TryBody g) z s h = now n (number_returned (TryBody g) z s) (try_done_routed n g z s h)
  number_returned_goes (ThrottleBody b) z s h = body_ended_routed n b z s h

  deferred_returned_goes : (ret : Ret) (i : ℕ) (s : State) → Routed n s → Later n (deferred_returned ret i s)
  deferred_returned_goes Drop i s h = now n s h
  deferred_returned_goes (To r) i s h = now n (deferred_returned (To r) i s) (connect_routed n r i s h)
  deferred_returned_goes (TryBody g) i s h = now n (deferred_returned (TryBody g) i s) (try_waits_routed n g i s h)
  deferred_returned_goes (ThrottleBody b) i s h = now n (deferred_returned (ThrottleBody b) i s) (body_waits_routed n b i s h)

  returned_goes : (ret : Ret) (v : Value) (s : State) → Routed n s → Later n (returned ret v s)
  returned_goes ret (value.Num z) s h = number_returned_goes ret z s h
  returned_goes ret (value.Def i) s h = deferred_returned_goes ret i s h
  returned_goes ret (value.Ivar i) s h = deferred_returned_goes ret i s h
  returned_goes ret (value.Mon m) s h = now n s h
  returned_goes ret (value.Pipe x) s h = now n s h
  returned_goes ret (value.Thr t) s h = now n s h
  returned_goes ret (value.Event e) s h = now n s h
  returned_goes ret (value.Helper x) s h = now n s h

  -- what a line leaves, given that the lines behind it go on
  line_leaves : (program : List NumProc) (p : Names) (kinds : List Kind) (ctx : Ctx) (ret : Ret) (lines : List NumStatement) (s : State) → Routed n s
      → CtxIn n ctx
      → ((t : State) (vals : List Value) → GoesOn program (in_ret ret) kinds t vals → On n t vals → ProgressGoes (run_lines ctx ret lines t vals))
      → (x : Effect) → EffectIs program p (in_ret ret) kinds x → EffectGoes n x → ProgressGoes (elim x [
        | Goes t vals ↦ run_lines ctx ret lines t vals
        | Raises e ↦ Over (send ctx.mon e s)
        | Returns v ↦ Over (going_on (returned ret v s))
        | Stops ↦ Over (stopped s)
        | Ends after ↦ Over after
        | Asks a t vals ↦ Asking a t (record { ctx = ctx; ret = ret; vals = vals; lines = lines })
      ])
  line_leaves program p kinds ctx ret lines s h c on (Goes t vals) f g = on t vals f g
  line_leaves program p kinds ctx ret lines s h c on (Raises e) f g =
      over_goes n (send ctx.mon e s).flow (send ctx.mon e s).state (send_routed n ctx.mon e s c h)
  line_leaves program p kinds ctx ret lines s h c on (Returns v) f g = any_later n (returned ret v s) (returned_goes ret v s h)
  line_leaves program p kinds ctx ret lines s h c on Stops f g = stopped_goes n s h
  line_leaves program p kinds ctx ret lines s h c on (Ends after) f g = over_goes n after.flow after.state g
  line_leaves program p kinds ctx ret lines s h c on (Asks a t vals) f g =
      let more : n ≤ g.most = g.more in record { most = g.most; routed = g.routed; ctx = omega (arith, c, more); vals = g.locals }

pub lines_go : (program : List NumProc) (p : Names) (kinds : List Kind) (ctx : Ctx) (ret : Ret) (lines : List NumStatement) (s : State)
    (vals : List Value) (n : ℕ) → LinesAreSound program kinds lines → JobHolds program p (in_ret ret) kinds s vals → CtxIn n ctx → ValsIn n vals
    → Routed n s → ProgressGoes (run_lines ctx ret lines s vals)
lines_go program p kinds ctx ret [] s vals n ok j c v h = any_later n (number_returned ret (pos 0) s) (number_returned_goes n ret (pos 0) s h)
lines_go program p kinds ctx ret (line ∷ lines) s vals n ok j c v h =
    let next : List Kind = kinds ++ kinds_of (num_binds line.stmt)
    in line_leaves n program p next ctx ret lines s h c
    (λ t vals' g o.
    let more : n ≤ o.most = o.more
    in lines_go program g.names next ctx ret lines t vals' o.most ok.1 (record { held = g.held; have = g.have; fit = g.fit })
    (omega (arith, c, more)) o.locals o.routed)
    (line_effect ctx line s vals) (line_held program p (in_ret ret) kinds ctx line.prefix line.line line.stmt s vals ok.0 j)
    (line_goes n program kinds ctx line.prefix line.line line.stmt s vals ok.0 j.fit c v h)
