-- Lines of a sound program: each statement finds what it needs, and what it leaves fits.
use Rattle.std.proofs.Common.{◌≡◌, ℕ, ◌<◌, List, [], ◌∷◌, ◌++◌, length, refl, subst, sym, ap, arith, Bool, true, false, cond, append_assoc, map}
use Rattle.std.specs.Prelude.{ℤ, ◌+ℤ◌, pos, Option, Some, None, Result, Ok, Err}
use Rattle.std.specs.List.{AllByRecursion}
use Rattle.std.proofs.lemmas.List.{append-nil, length-map}
use Rattle.ak_base.specs.Numbers.{fits}
use Rattle.ak_base.specs.declared.number.Ctx.{Ctx}
use Rattle.ak_labor.specs.declared.ask.Ask.{Ask}
use Rattle.ak_labor.specs.declared.ask.Ask.TheVariants as ask
use Rattle.ak_labor.specs.declared.work.Work.{Work}
use Rattle.ak_labor.specs.declared.work.WorkKind.{WorkKind}
use Rattle.ak_script.specs.declared.script.Kind.{Kind}
use Rattle.ak_script.specs.declared.script.Kind.TheVariants.{Num, Ivar, Def, Mon, Pipe, Thr, Event, Helper}
use Rattle.ak_frames.specs.declared.value.Value.{Value}
use Rattle.ak_frames.specs.declared.value.Value.TheVariants as value
use Rattle.ak_frames.specs.declared.frame.Ret.{Ret}
use Rattle.ak_frames.specs.declared.frame.Ret.TheVariants.{Drop, To}
use Rattle.ak_frames.specs.declared.frame.Frame.TheVariants.{Call, OnValue}
use Rattle.ak_trace.specs.declared.entry.Entry.TheVariants as entry
use Rattle.ak_program.specs.declared.program.NumPrefix.{NumPrefix}
use Rattle.ak_program.specs.declared.program.NumPrefix.TheVariants.{If, Unless}
use Rattle.ak_program.specs.declared.program.NumStatement.{NumStatement}
use Rattle.ak_program.specs.declared.program.NumProc.{NumProc}
use Rattle.ak_program.specs.declared.statement.NumAtom.{NumAtom}
use Rattle.ak_program.specs.declared.statement.NumStmt.{NumStmt}
use Rattle.ak_program.specs.declared.statement.NumStmt.TheVariants as stmt
use Rattle.ak_program.specs.Programs.{number, prefix_uses, IsKnown, StatementIsSound, MayHavePrefix}
use Rattle.ak_machine.specs.declared.flow.Flow.{Flow}
use Rattle.ak_machine.specs.declared.flow.Flow.TheVariants as flow
use Rattle.ak_machine.specs.declared.held.Callback.{Callback}
use Rattle.ak_machine.specs.declared.held.Choosable.{Choosable}
use Rattle.ak_machine.specs.declared.held.Handler.TheVariants.{OnError}
use Rattle.ak_clock.specs.declared.alarm.TickRefused.{TickRefused}
use Rattle.ak_clock.specs.declared.alarm.TickRefused.TheVariants.{Negative, Overflow}
use Rattle.ak_clock.specs.Clock.{ticked}
use Rattle.ak_machine.specs.Alarms.{with_yield, with_alarm, abort}
use Rattle.ak_machine.specs.State.{State, next_ivar}
use Rattle.ak_machine.specs.Number.{Computed, Gives, Overflows, DividesByZero, computed}
use Rattle.ak_machine.specs.Deferred.{noting, plain_task, with_ivar, is_empty, fill, register}
use Rattle.ak_machine.specs.Monitors.{with_monitor, detach, handled_by, next_error_awaited, in_monitor}
use Rattle.ak_machine.specs.Groups.{try_begun, all_begun, any_begun, choice_begun}
use Rattle.ak_machine.specs.Throttles.{throttle_at, with_throttle, done_awaited}
use Rattle.ak_machine.specs.Pipes.{pipe_at, with_pipe, put, write, read, close, close_read, flushed}
use Rattle.ak_machine.specs.declared.held.Read.{Read}
use Rattle.ak_machine.specs.Errors.{After, send}
use Rattle.ak_machine.specs.Effect.{Effect, Goes, Raises, Returns, Ends, overflow, full_ivar, dead_throttle, bound, result_bound, local, name_of, number_in, name_in, args_of, call_to_fresh, holds, closed_pipe, Asks}
use Rattle.ak_machine.specs.Statement.{effect_of, set_effect, sent_effect, tick_effect, line_effect, choosable, work_effect}
use Rattle.ak_machine.specs.Works.{is_active, helper_at as helper_of, helper_ended}
use Rattle.ak_exec.specs.Ready.{IsReady, IsTold}
use Rattle.ak_exec.specs.Steps.{IsNumbered}
use Rattle.ak_state.specs.Drawn.{Drawn, drawn}
use Rattle.ak_state.specs.Fits.{ValueFits, ValsFit, kinds_of, RetFits, CallFits, numbers, Fits}
use Rattle.ak_exec.specs.Typed.{kinds_after, AreTyped, IsReturned, EffectFits, IsUnderWay, IsPaused}
use Rattle.ak_exec.proofs.Values.{ivar_at, def_at, mon_at, thr_at, event_at, num_at, returned_at, call_bound, call_fits, value_call_fits, all_front, all_back, vals_push, front_call_fits, defs_at, names_drawn, choices_at, choice_bound, choices_fit, pipe_at as pipe_known, helper_at}
use Rattle.ak_state.specs.Reads.{IsMonitor}
use Rattle.ak_state.specs.Alarms.{at_time}
use Rattle.ak_state.specs.Arrivals.{with_submit}
use Rattle.ak_state.proofs.Works.{submit_grows}
use Rattle.ak_state.proofs.Alarms.{yield_grows, alarm_grows, abort_grows, time_grows}
use Rattle.ak_state.proofs.Fitting.{Grows, same_more, kept_grows, then_grows, vals_grow, ret_grows, noted_grows, enqueue_grows, fill_grows, register_grows, register_drawn, ivar_grows, drawn_one}
use Rattle.ak_state.proofs.Monitors.{child_drawn, child_grows, detach_grows, handled_grows, awaited_grows}
use Rattle.ak_state.proofs.Groups.{try_begun_grows}
use Rattle.ak_state.proofs.Choices.{all_begun_grows, any_begun_grows, choice_begun_grows}
use Rattle.ak_state.proofs.Errors.{send_grows}
use Rattle.ak_state.specs.Bodies.{body_begun}
use Rattle.ak_state.proofs.Streams.{pipe_drawn, pipe_grows, put_grows, write_grows, read_grows_state, close_grows, close_read_grows, flushed_grows}
use Rattle.ak_state.proofs.Bodies.{fresh_drawn, fresh_grows, begun_grows, begun_drawn, awaited_bodies_grow}

-- a statement of a sound program finds what it needs
pub ready : (program : List NumProc) (kinds : List Kind) (prefix : Option NumPrefix) (line : ℕ) (st : NumStmt) (s : State) (vals : List Value)
    → ValsFit (drawn s) kinds vals
    → StatementIsSound program kinds (record { line = line; prefix = prefix; stmt = st }) → IsReady s vals st
ready program kinds prefix line (stmt.Set x a op b) s vals f h = (
  num_at (drawn s) kinds vals a f (all_front (IsKnown kinds) (number a) (number b) h.uses),
  num_at
      (drawn s) kinds vals b f (all_back (IsKnown kinds) (number a) (number b) h.uses),
)
ready program kinds prefix line (stmt.Print a) s vals f h = num_at (drawn s) kinds vals a f h.uses
ready program kinds prefix line (stmt.Ivar i) s vals f h = tt
ready program kinds prefix line (stmt.Fill i a) s vals f h =
    (ivar_at (drawn s) kinds vals i f h.uses.0, num_at (drawn s) kinds vals a f h.uses.1)
ready program kinds prefix line (stmt.Offer i a) s vals f h =
    (ivar_at (drawn s) kinds vals i f h.uses.0, num_at (drawn s) kinds vals a f h.uses.1)
ready program kinds prefix line (stmt.Upon d proc args) s vals f h =
    (def_at (drawn s) kinds vals d f h.uses.0, call_bound program (drawn s) kinds vals proc 1 args f h.calls.0)
ready program kinds prefix line (stmt.Bind r d proc args) s vals f h =
    (def_at (drawn s) kinds vals d f h.uses.0, call_bound program (drawn s) kinds vals proc 1 args f h.calls.0)
ready program kinds prefix line (stmt.All r ds proc args) s vals f h =
    (h.within.1, defs_at (drawn s) kinds vals ds f h.uses, call_bound program (drawn s) kinds vals proc (length ds) args f h.calls.0)
ready program kinds prefix line (stmt.Any r ds) s vals f h = defs_at (drawn s) kinds vals ds f h.uses
ready program kinds prefix line (stmt.Choose r choices args) s vals f h =
    (choices_at (drawn s) kinds vals choices f h.uses, choice_bound program (drawn s) kinds vals choices args f h.within.0 h.calls)
ready program kinds prefix line (stmt.Sched proc args) s vals f h = call_bound program (drawn s) kinds vals proc 0 args f h.calls.0
ready program kinds prefix line (stmt.Low proc args) s vals f h = call_bound program (drawn s) kinds vals proc 0 args f h.calls.0
ready program kinds prefix line (stmt.Yield r) s vals f h = tt
ready program kinds prefix line (stmt.Never r) s vals f h = tt
ready program kinds prefix line (stmt.After r n) s vals f h = num_at (drawn s) kinds vals n f h.uses
ready program kinds prefix line (stmt.Event e r n) s vals f h = num_at (drawn s) kinds vals n f h.uses
ready program kinds prefix line (stmt.Abort e) s vals f h = event_at (drawn s) kinds vals e f h.uses.0
ready program kinds prefix line (stmt.Tick n) s vals f h = num_at (drawn s) kinds vals n f h.uses
ready program kinds prefix line (stmt.Monitor m) s vals f h = tt
ready program kinds prefix line (stmt.Within m proc args) s vals f h =
    (mon_at (drawn s) kinds vals m f h.uses.0, call_bound program (drawn s) kinds vals proc 0 args f h.calls.0)
ready program kinds prefix line (stmt.Detach m) s vals f h = mon_at (drawn s) kinds vals m f h.uses.0
ready program kinds prefix line (stmt.OnError m proc args) s vals f h =
    (mon_at (drawn s) kinds vals m f h.uses.0, call_bound program (drawn s) kinds vals proc 1 args f h.calls.0)
ready program kinds prefix line (stmt.NextError r m) s vals f h = mon_at (drawn s) kinds vals m f h.uses.0
ready program kinds prefix line (stmt.Send m a) s vals f h =
    (mon_at (drawn s) kinds vals m f h.uses.0, num_at (drawn s) kinds vals a f h.uses.1)
ready program kinds prefix line (stmt.Try r proc args catch catch_args kind) s vals f h =
    (call_bound program (drawn s) kinds vals proc 0 args f h.calls.0, call_bound program (drawn s) kinds vals catch 1 catch_args f h.calls.1.0)
ready program kinds prefix line (stmt.Throttle t k stop) s vals f h = h.within.0
ready program kinds prefix line (stmt.Enqueue r t proc args) s vals f h =
    (thr_at (drawn s) kinds vals t f h.uses.0, call_bound program (drawn s) kinds vals proc 0 args f h.calls.0)
ready program kinds prefix line (stmt.ThrottleDone r t) s vals f h = thr_at (drawn s) kinds vals t f h.uses.0
ready program kinds prefix line (stmt.Pipe p b) s vals f h = tt
ready program kinds prefix line (stmt.Write r p a) s vals f h =
    (pipe_known (drawn s) kinds vals p f h.uses.0, num_at (drawn s) kinds vals a f h.uses.1)
ready program kinds prefix line (stmt.Put p a) s vals f h =
    (pipe_known (drawn s) kinds vals p f h.uses.0, num_at (drawn s) kinds vals a f h.uses.1)
ready program kinds prefix line (stmt.Read r p proc args eof eof_args) s vals f h = (
  pipe_known (drawn s) kinds vals p f h.uses.0,
  call_bound program (drawn s) kinds vals proc 1 args f h.calls.0,
  call_bound program (drawn s) kinds vals eof 0 eof_args f h.calls.1.0,
)
ready program kinds prefix line (stmt.Close p) s vals f h = pipe_known (drawn s) kinds vals p f h.uses.0
ready program kinds prefix line (stmt.CloseRead p) s vals f h = pipe_known (drawn s) kinds vals p f h.uses.0
ready program kinds prefix line (stmt.Flushed r p) s vals f h = pipe_known (drawn s) kinds vals p f h.uses.0
ready program kinds prefix line (stmt.Raise a) s vals f h = num_at (drawn s) kinds vals a f h.uses
ready program kinds prefix line (stmt.Work r kind a) s vals f h = num_at (drawn s) kinds vals a f h.uses
ready program kinds prefix line (stmt.Helper x y) s vals f h = tt
ready program kinds prefix line (stmt.HelperWork r x kind a) s vals f h =
    (helper_at (drawn s) kinds vals x f h.uses.0, num_at (drawn s) kinds vals a f h.uses.1)
ready program kinds prefix line (stmt.HelperDone x) s vals f h = helper_at (drawn s) kinds vals x f h.uses.0
ready program kinds prefix line stmt.Stop s vals f h = tt
ready program kinds prefix line (stmt.Ret a) s vals f h = (returned_at (drawn s) kinds vals a f h.uses).0

-- ---- what a statement leaves
either_fits : (program : List NumProc) (n : Drawn) (kinds : List Kind) (b : Bool) (x y : Effect) → EffectFits program n kinds x
    → EffectFits program n kinds y → EffectFits program n kinds (cond b x y)
either_fits program n kinds true x y p q = p
either_fits program n kinds false x y p q = q

-- a change that binds no local
goes_fit : (program : List NumProc) (kinds : List Kind) (s s' : State) (vals : List Value) → ValsFit (drawn s) kinds vals
    → Grows program s s' → EffectFits program (drawn s) (kinds ++ []) (Goes s' vals)
goes_fit program kinds s s' vals f g = (
  g.more,
  subst (λ ks. ValsFit (drawn s') ks vals) (sym (append-nil kinds))
      (vals_grow (drawn s) (drawn s') kinds vals g.more f),
  g.fits,
)

-- a change that binds one
binds_fit : (program : List NumProc) (kinds : List Kind) (s s' : State) (vals : List Value) (kind : Kind) (v : Value)
    → ValsFit (drawn s) kinds vals → Grows program s s' → ValueFits (drawn s') kind v
    → EffectFits program (drawn s) (kinds ++ kind ∷ []) (Goes s' (vals ++ v ∷ []))
binds_fit program kinds s s' vals kind v f g p =
    (g.more, vals_push (drawn s') kinds vals kind v (vals_grow (drawn s) (drawn s') kinds vals g.more f) p, g.fits)

-- a change that binds two
binds_two : (program : List NumProc) (kinds : List Kind) (s s' : State) (vals : List Value) (kind kind' : Kind) (v v' : Value)
    → ValsFit (drawn s) kinds vals → Grows program s s' → ValueFits (drawn s') kind v → ValueFits (drawn s') kind' v'
    → EffectFits program (drawn s) (kinds ++ kind ∷ kind' ∷ []) (Goes s' ((vals ++ v ∷ []) ++ v' ∷ []))
binds_two program kinds s s' vals kind kind' v v' f g p p' =
    let one = vals_push (drawn s') kinds vals kind v (vals_grow (drawn s) (drawn s') kinds vals g.more f) p
    in let two = vals_push (drawn s') (kinds ++ kind ∷ []) (vals ++ v ∷ []) kind' v' one p'
    in (g.more, subst (λ ks. ValsFit (drawn s') ks ((vals ++ v ∷ []) ++ v' ∷ [])) (append_assoc kinds (kind ∷ []) (kind' ∷ [])) two, g.fits)

-- a move of the clock
tick_fits : (program : List NumProc) (kinds : List Kind) (answer : Result (Unit {0}) TickRefused) (time : ℤ) (s : State) (vals : List Value)
    → ValsFit (drawn s) kinds vals → Fits program s → EffectFits program (drawn s) (kinds ++ []) (tick_effect answer time s vals)
tick_fits program kinds (Ok u) time s vals f g = goes_fit program kinds s (at_time time s) vals f (time_grows program time s g)
tick_fits program kinds (Err Negative) time s vals f g = tt
tick_fits program kinds (Err Overflow) time s vals f g = tt

set_fits : (program : List NumProc) (kinds : List Kind) (c : Computed) (s : State) (vals : List Value) → ValsFit (drawn s) kinds vals
    → Fits program s → EffectFits program (drawn s) (kinds ++ Num ∷ []) (set_effect c s vals)
set_fits program kinds (Gives z) s vals f g = binds_fit program kinds s s vals Num (value.Num z) f (kept_grows program s g) tt
set_fits program kinds Overflows s vals f g = tt
set_fits program kinds DividesByZero s vals f g = tt

-- a handler that is registered after an ivar was drawn
bind_grows : (program : List NumProc) (kinds : List Kind) (ctx : Ctx) (s : State) (vals : List Value) (d proc : ℕ) (args : List NumAtom)
    → ctx.mon < length s.monitors → ValsFit (drawn s) kinds vals → Fits program s
    → ((n : Drawn) → ValsFit n kinds vals → CallFits program n proc (value.Num (pos 0) ∷ args_of vals args))
    → Grows program s (register d ctx (OnValue proc (args_of vals args) (To (length s.cells.ivars))) (with_ivar s))
bind_grows program kinds ctx s vals d proc args mon f g call =
    let one = ivar_grows program s g
    in let here = call (drawn (with_ivar s)) (vals_grow (drawn s) (drawn (with_ivar s)) kinds vals one.more f)
    in let two = register_grows program d ctx (OnValue proc (args_of vals args) (To (length s.cells.ivars))) (with_ivar s) one.fits
    (record { monitor = mon; frame_fits = (here, omega (arith, drawn_one s)) })
    in then_grows program s (with_ivar s) (register d ctx (OnValue proc (args_of vals args) (To (length s.cells.ivars))) (with_ivar s)) one two

-- the ivar that was drawn is one, whatever is registered
drawn_below : (ctx : Ctx) (s : State) (d proc : ℕ) (vals : List Value)
    → length s.cells.ivars < length (register d ctx (OnValue proc vals (To (length s.cells.ivars))) (with_ivar s)).cells.ivars
drawn_below ctx s d proc vals =
    let one = OnValue proc vals (To (length s.cells.ivars))
    in let e : length (register d ctx one (with_ivar s)).cells.ivars ≡ length (with_ivar s).cells.ivars =
    ap (λ (x : Drawn). x.ivars) (register_drawn d ctx one (with_ivar s))
    in omega (arith, e, drawn_one s)

-- after an error was sent
sent_fits : (program : List NumProc) (kinds : List Kind) (s : State) (vals : List Value) (after : After) → ValsFit (drawn s) kinds vals
    → Grows program s after.state → EffectFits program (drawn s) (kinds ++ []) (sent_effect after vals)
sent_fits program kinds s vals after f g = by after.flow
  where
    by : (x : Flow) → EffectFits program (drawn s) (kinds ++ [])
        (elim x [ flow.On ↦ Goes after.state vals | flow.Stopped ↦ Ends after | flow.Unhandled e ↦ Ends after ])
    by flow.On = goes_fit program kinds s after.state vals f g
    by flow.Stopped = g.fits
    by (flow.Unhandled e) = g.fits

-- a statement that is refused with an error, or draws its result
refused_fits : (program : List NumProc) (kinds : List Kind) (refused : Bool) (error : ℤ) (s s' : State) (vals : List Value)
    → ValsFit (drawn s) kinds vals → (refused ≡ false → Grows program s s') → (refused ≡ false → length s.cells.ivars < length s'.cells.ivars)
    → EffectFits program (drawn s) (kinds ++ Def ∷ []) (cond refused (Raises error) (Goes s' (result_bound s vals)))
refused_fits program kinds true error s s' vals f g d = tt
refused_fits program kinds false error s s' vals f g d = binds_fit program kinds s s' vals Def (value.Def (next_ivar s)) f (g refl) (d refl)

-- a work that is submitted, whose result is bound
submit_fits : (program : List NumProc) (ctx : Ctx) (kinds : List Kind) (kind : WorkKind) (z : ℤ) (helper : Option ℕ) (s : State) (vals : List Value)
    → ctx.mon < length s.monitors → ValsFit (drawn s) kinds vals → Fits program s
    → EffectFits program (drawn s) (kinds ++ Def ∷ []) (work_effect ctx kind z helper s vals)
submit_fits program ctx kinds kind z helper s vals mon f g =
    let work : Work = record { kind = kind; num = z }
    in let grows = submit_grows program ctx work helper s mon g
    in binds_fit program kinds s (with_submit ctx work helper s) vals Def (value.Def (next_ivar s)) f grows (omega (arith, drawn_one s))

-- a helper that is asked for: it will be bound beside a number
helper_fits : (program : List NumProc) (kinds : List Kind) (s : State) (vals : List Value) → ValsFit (drawn s) kinds vals → Fits program s
    → EffectFits program (drawn s) (kinds ++ Helper ∷ Num ∷ []) (Asks (ask.HelperNew (length s.helpers)) s vals)
helper_fits program kinds s vals f g =
    let grows = kept_grows program s g
    in (grows.more, λ z. two z, g)
  where
    two : (z : ℤ) → ValsFit (drawn s) (kinds ++ Helper ∷ Num ∷ []) (vals ++ value.Helper (length s.helpers) ∷ value.Num z ∷ [])
    two z =
        let one = vals_push (drawn s) kinds vals Helper (value.Helper (length s.helpers)) f tt
        in let both = vals_push (drawn s) (kinds ++ Helper ∷ []) (vals ++ value.Helper (length s.helpers) ∷ []) Num (value.Num z) one tt
        in subst (λ ks. ValsFit (drawn s) ks (vals ++ value.Helper (length s.helpers) ∷ value.Num z ∷ [])) (append_assoc kinds (Helper ∷ []) (Num ∷ []))
        (subst (ValsFit (drawn s) ((kinds ++ Helper ∷ []) ++ Num ∷ [])) (append_assoc vals (value.Helper (length s.helpers) ∷ []) (value.Num z ∷ [])) both)

-- a helper that ends
done_fits : (program : List NumProc) (kinds : List Kind) (h : ℕ) (s : State) (vals : List Value) → ValsFit (drawn s) kinds vals → Fits program s
    → EffectFits program (drawn s) (kinds ++ []) (Asks (ask.HelperEnd h) (helper_ended h s) vals)
done_fits program kinds h s vals f g = goes_fit program kinds s (helper_ended h s) vals f (record { more = same_more (drawn s); fits = g })

monitor_name : (n : ℕ) (v : Value) → IsMonitor n v → name_of v < n
monitor_name n (value.Mon m) f = f
monitor_name n v f = absurd f

-- what a statement of a sound program leaves fits
effect_fits : (program : List NumProc) (ctx : Ctx) (kinds : List Kind) (prefix : Option NumPrefix) (line : ℕ) (st : NumStmt) (s : State)
    (vals : List Value) → ctx.mon < length s.monitors → ValsFit (drawn s) kinds vals
    → StatementIsSound program kinds (record { line = line; prefix = prefix; stmt = st }) → Fits program s
    → EffectFits program (drawn s) (kinds_after kinds st) (effect_of ctx st s vals)
effect_fits program ctx kinds prefix line (stmt.Set x a op b) s vals mon f h g =
    set_fits program kinds (computed op (number_in vals a) (number_in vals b)) s vals f g
effect_fits program ctx kinds prefix line (stmt.Print a) s vals mon f h g =
    goes_fit program kinds s (noting (entry.Print (number_in vals a)) s) vals f (noted_grows program (entry.Print (number_in vals a)) s g)
effect_fits program ctx kinds prefix line (stmt.Ivar i) s vals mon f h g =
    binds_fit program kinds s (with_ivar s) vals Ivar (value.Ivar (length s.cells.ivars)) f (ivar_grows program s g) (omega (arith, drawn_one s))
effect_fits program ctx kinds prefix line (stmt.Yield r) s vals mon f h g =
    binds_fit program kinds s (with_yield s) vals Def (value.Def (length s.cells.ivars)) f (yield_grows program s g) (omega (arith, drawn_one s))
effect_fits program ctx kinds prefix line (stmt.Never r) s vals mon f h g =
    binds_fit program kinds s (with_ivar s) vals Def (value.Def (length s.cells.ivars)) f (ivar_grows program s g) (omega (arith, drawn_one s))
effect_fits program ctx kinds prefix line (stmt.After r n) s vals mon f h g =
    let time : ℤ = s.clock.time +ℤ number_in vals n
    in either_fits program (drawn s) (kinds ++ Def ∷ []) (fits time) (Goes (with_alarm time s) (result_bound s vals)) (Raises overflow)
    (binds_fit program kinds s (with_alarm time s) vals Def (value.Def (next_ivar s)) f (alarm_grows program time s g) (omega (arith, drawn_one s))) tt
effect_fits program ctx kinds prefix line (stmt.Event e r n) s vals mon f h g =
    let time : ℤ = s.clock.time +ℤ number_in vals n
    in either_fits program (drawn s) (kinds ++ Event ∷ Def ∷ []) (fits time)
    (Goes (with_alarm time s) (result_bound s (bound vals (value.Event s.clock.next)))) (Raises overflow)
    (binds_two program kinds s (with_alarm time s) vals Event Def (value.Event s.clock.next) (value.Def (next_ivar s)) f
    (alarm_grows program time s g) tt (omega (arith, drawn_one s))) tt
effect_fits program ctx kinds prefix line (stmt.Abort e) s vals mon f h g =
    goes_fit program kinds s (abort (name_in vals e) s) vals f (abort_grows program (name_in vals e) s g)
effect_fits program ctx kinds prefix line (stmt.Tick n) s vals mon f h g =
    let time : ℤ = s.clock.time +ℤ number_in vals n
    in tick_fits program kinds (ticked (number_in vals n) time) time s vals f g
effect_fits program ctx kinds prefix line (stmt.Fill i a) s vals mon f h g =
    either_fits program (drawn s) (kinds ++ []) (is_empty (name_in vals i) s) (Goes (fill (name_in vals i) (number_in vals a) s) vals)
    (Raises full_ivar)
    (goes_fit program kinds s (fill (name_in vals i) (number_in vals a) s) vals f (fill_grows program (name_in vals i) (number_in vals a) s g)) tt
effect_fits program ctx kinds prefix line (stmt.Offer i a) s vals mon f h g =
    goes_fit program kinds s (fill (name_in vals i) (number_in vals a) s) vals f (fill_grows program (name_in vals i) (number_in vals a) s g)
effect_fits program ctx kinds prefix line (stmt.Upon d proc args) s vals mon f h g =
    goes_fit program kinds s (register (name_in vals d) ctx (OnValue proc (args_of vals args) Drop) s) vals f
    (register_grows program (name_in vals d) ctx (OnValue proc (args_of vals args) Drop) s g
    (record { monitor = mon; frame_fits = (value_call_fits program (drawn s) kinds vals proc args f h.calls.0, tt) }))
effect_fits program ctx kinds prefix line (stmt.Bind r d proc args) s vals mon f h g =
    let grows = bind_grows program kinds ctx s vals (name_in vals d) proc args mon f g
    (λ n p. value_call_fits program n kinds vals proc args p h.calls.0)
    in binds_fit program kinds s (register (name_in vals d) ctx (OnValue proc (args_of vals args) (To (length s.cells.ivars))) (with_ivar s)) vals Def
    (value.Def (length s.cells.ivars)) f grows
    (drawn_below ctx s (name_in vals d) proc (args_of vals args))
effect_fits program ctx kinds prefix line (stmt.All r ds proc args) s vals mon f h g =
    let t : State = with_ivar s
    in let is : List ℕ = map (name_in vals) ds
    in let call : Callback = call_to_fresh s proc (args_of vals args)
    in let one = ivar_grows program s g
    in let fit : ValsFit (drawn t) kinds vals = vals_grow (drawn s) (drawn t) kinds vals one.more f
    in let new : next_ivar s < length t.cells.ivars = omega (arith, drawn_one s)
    in let long : length is ≡ length ds = length-map ds (name_in vals)
    in let two = all_begun_grows program ctx is call t one.fits mon
    (record {
      few = omega (arith, long, h.within.1);
      call = subst (λ k. CallFits program (drawn t) proc (numbers k ++ args_of vals args)) (sym long)
          (front_call_fits program (drawn t) kinds vals proc (length ds) args fit h.calls.0);
      result = new;
    })
    in binds_fit program kinds s (all_begun ctx is call t) vals Def (value.Def (next_ivar s)) f
    (then_grows program s t (all_begun ctx is call t) one two) (omega (arith, new, two.more.ivars))
effect_fits program ctx kinds prefix line (stmt.Any r ds) s vals mon f h g =
    let t : State = with_ivar s
    in let is : List ℕ = map (name_in vals) ds
    in let one = ivar_grows program s g
    in let fit : ValsFit (drawn t) kinds vals = vals_grow (drawn s) (drawn t) kinds vals one.more f
    in let new : next_ivar s < length t.cells.ivars = omega (arith, drawn_one s)
    in let two = any_begun_grows program ctx is (next_ivar s) t one.fits mon (names_drawn (drawn t) kinds vals ds fit h.uses, new)
    in binds_fit program kinds s (any_begun ctx is (next_ivar s) t) vals Def (value.Def (next_ivar s)) f
    (then_grows program s t (any_begun ctx is (next_ivar s) t) one two) (omega (arith, new, two.more.ivars))
effect_fits program ctx kinds prefix line (stmt.Choose r choices args) s vals mon f h g =
    let t : State = with_ivar s
    in let all : List Choosable = map (choosable vals) choices
    in let one = ivar_grows program s g
    in let fit : ValsFit (drawn t) kinds vals = vals_grow (drawn s) (drawn t) kinds vals one.more f
    in let new : next_ivar s < length t.cells.ivars = omega (arith, drawn_one s)
    in let two = choice_begun_grows program ctx all (args_of vals args) (next_ivar s) t one.fits mon
    (choices_fit program (drawn t) kinds vals choices args fit h.uses h.calls, new)
    in binds_fit program kinds s (choice_begun ctx all (args_of vals args) (next_ivar s) t) vals Def (value.Def (next_ivar s)) f
    (then_grows program s t (choice_begun ctx all (args_of vals args) (next_ivar s) t) one two) (omega (arith, new, two.more.ivars))
effect_fits program ctx kinds prefix line (stmt.Sched proc args) s vals mon f h g =
    goes_fit program kinds s _ vals f (enqueue_grows program (record ctx { low = false }) (plain_task (Call proc (args_of vals args) Drop)) s g
    (record { monitor = mon; frame_fits = (call_fits program (drawn s) kinds vals proc args f h.calls.0, tt) }))
effect_fits program ctx kinds prefix line (stmt.Low proc args) s vals mon f h g =
    goes_fit program kinds s _ vals f (enqueue_grows program (record ctx { low = true }) (plain_task (Call proc (args_of vals args) Drop)) s g
    (record { monitor = mon; frame_fits = (call_fits program (drawn s) kinds vals proc args f h.calls.0, tt) }))
effect_fits program ctx kinds prefix line (stmt.Monitor m) s vals mon f h g =
    binds_fit program kinds s (with_monitor ctx.mon s) vals Mon (value.Mon (length s.monitors)) f (child_grows program ctx.mon s g)
    (omega (arith, child_drawn ctx.mon s))
effect_fits program ctx kinds prefix line (stmt.Within m proc args) s vals mon f h g =
    goes_fit program kinds s _ vals f
    (enqueue_grows program (in_monitor (name_in vals m) ctx) (plain_task (Call proc (args_of vals args) Drop)) s g
    (record {
      monitor = monitor_name (length s.monitors) (local vals m) (mon_at (drawn s) kinds vals m f h.uses.0);
      frame_fits = (call_fits program (drawn s) kinds vals proc args f h.calls.0, tt);
    }))
effect_fits program ctx kinds prefix line (stmt.Detach m) s vals mon f h g =
    goes_fit program kinds s (detach (name_in vals m) s) vals f (detach_grows program (name_in vals m) s g)
effect_fits program ctx kinds prefix line (stmt.OnError m proc args) s vals mon f h g =
    goes_fit program kinds s (handled_by (name_in vals m) ctx (OnError proc (args_of vals args)) s) vals f
    (handled_grows program (name_in vals m) ctx (OnError proc (args_of vals args)) s g mon
    (value_call_fits program (drawn s) kinds vals proc args f h.calls.0))
effect_fits program ctx kinds prefix line (stmt.NextError r m) s vals mon f h g =
    let one = ivar_grows program s g
    in let two = awaited_grows program (name_in vals m) (next_ivar s) (with_ivar s) one.fits (omega (arith, drawn_one s))
    in binds_fit program kinds s (next_error_awaited (name_in vals m) (next_ivar s) (with_ivar s)) vals Def (value.Def (next_ivar s)) f
    (then_grows program s (with_ivar s) (next_error_awaited (name_in vals m) (next_ivar s) (with_ivar s)) one two) (omega (arith, drawn_one s))
effect_fits program ctx kinds prefix line (stmt.Send m a) s vals mon f h g =
    sent_fits program kinds s vals (send (name_in vals m) (number_in vals a) s) f (send_grows program (name_in vals m) (number_in vals a) s g)
effect_fits program ctx kinds prefix line (stmt.Try r proc args catch catch_args kind) s vals mon f h g =
    let t : State = with_ivar s
    in let call : Callback = call_to_fresh s catch (args_of vals catch_args)
    in let one = ivar_grows program s g
    in let fit : ValsFit (drawn t) kinds vals = vals_grow (drawn s) (drawn t) kinds vals one.more f
    in let new : next_ivar s < length t.cells.ivars = omega (arith, drawn_one s)
    in let two = try_begun_grows program ctx kind proc (args_of vals args) call t one.fits mon
    (call_fits program (drawn t) kinds vals proc args fit h.calls.0) (value_call_fits program (drawn t) kinds vals catch catch_args fit h.calls.1.0) new
    in binds_fit program kinds s (try_begun ctx kind proc (args_of vals args) call t) vals Def (value.Def (next_ivar s)) f
    (then_grows program s t (try_begun ctx kind proc (args_of vals args) call t) one two) (omega (arith, new, two.more.ivars))
effect_fits program ctx kinds prefix line (stmt.Throttle t k stop) s vals mon f h g =
    binds_fit program kinds s (with_throttle k stop s) vals Thr (value.Thr (length s.throttles)) f (fresh_grows program k stop s g)
    (omega (arith, fresh_drawn k stop s))
effect_fits program ctx kinds prefix line (stmt.Enqueue r t proc args) s vals mon f h g =
    let x : ℕ = name_in vals t
    in refused_fits program kinds (throttle_at x s).dead dead_throttle s (body_begun x ctx proc (args_of vals args) s) vals f
    (λ alive. begun_grows program x ctx proc (args_of vals args) s g mon (call_fits program (drawn s) kinds vals proc args f h.calls.0) alive)
    (λ alive. begun_drawn program x ctx proc (args_of vals args) s g mon (call_fits program (drawn s) kinds vals proc args f h.calls.0) alive)
effect_fits program ctx kinds prefix line (stmt.ThrottleDone r t) s vals mon f h g =
    let u : State = with_ivar s
    in let one = ivar_grows program s g
    in let two = awaited_bodies_grow program (name_in vals t) (next_ivar s) u one.fits (omega (arith, drawn_one s))
    in binds_fit program kinds s (done_awaited (name_in vals t) (next_ivar s) u) vals Def (value.Def (next_ivar s)) f
    (then_grows program s u (done_awaited (name_in vals t) (next_ivar s) u) one two) (omega (arith, drawn_one s, two.more.ivars))
effect_fits program ctx kinds prefix line (stmt.Pipe p b) s vals mon f h g =
    binds_fit program kinds s (with_pipe b s) vals Pipe (value.Pipe (length s.pipes)) f (pipe_grows program b s g) (omega (arith, pipe_drawn b s))
effect_fits program ctx kinds prefix line (stmt.Write r p a) s vals mon f h g =
    let u : State = with_ivar s
    in let t : State = write (name_in vals p) (next_ivar s) (number_in vals a) u
    in let one = ivar_grows program s g
    in let two = write_grows program (name_in vals p) (next_ivar s) (number_in vals a) u one.fits (omega (arith, drawn_one s))
    in refused_fits program kinds (pipe_at (name_in vals p) s).closed closed_pipe s t vals f (λ e. then_grows program s u t one two)
    (λ e. omega (arith, drawn_one s, two.more.ivars))
effect_fits program ctx kinds prefix line (stmt.Put p a) s vals mon f h g =
    let t : State = put (name_in vals p) (number_in vals a) s
    in either_fits program (drawn s) (kinds ++ []) (pipe_at (name_in vals p) s).closed (Raises closed_pipe) (Goes t vals) tt
    (goes_fit program kinds s t vals f (put_grows program (name_in vals p) (number_in vals a) s g))
effect_fits program ctx kinds prefix line (stmt.Read r p proc args eof eof_args) s vals mon f h g =
    let u : State = with_ivar s
    in let one = ivar_grows program s g
    in let fit : ValsFit (drawn u) kinds vals = vals_grow (drawn s) (drawn u) kinds vals one.more f
    in let wants : Read =
    record { ctx = ctx; item = call_to_fresh s proc (args_of vals args); eof = call_to_fresh s eof (args_of vals eof_args) }
    in let new : next_ivar s < length u.cells.ivars = omega (arith, drawn_one s)
    in let two = read_grows_state program (name_in vals p) wants u one.fits
    (record {
      context = mon;
      item = value_call_fits program (drawn u) kinds vals proc args fit h.calls.0;
      item_to = new;
      eof = call_fits program (drawn u) kinds vals eof eof_args fit h.calls.1.0;
      eof_to = new;
    })
    in binds_fit program kinds s (read (name_in vals p) wants u) vals Def (value.Def (next_ivar s)) f
    (then_grows program s u (read (name_in vals p) wants u) one two) (omega (arith, new, two.more.ivars))
effect_fits program ctx kinds prefix line (stmt.Close p) s vals mon f h g =
    goes_fit program kinds s (close (name_in vals p) s) vals f (close_grows program (name_in vals p) s g)
effect_fits program ctx kinds prefix line (stmt.CloseRead p) s vals mon f h g =
    goes_fit program kinds s (close_read (name_in vals p) s) vals f (close_read_grows program (name_in vals p) s g)
effect_fits program ctx kinds prefix line (stmt.Flushed r p) s vals mon f h g =
    let u : State = with_ivar s
    in let one = ivar_grows program s g
    in let two = flushed_grows program (name_in vals p) (next_ivar s) u one.fits (omega (arith, drawn_one s))
    in binds_fit program kinds s (flushed (name_in vals p) (next_ivar s) u) vals Def (value.Def (next_ivar s)) f
    (then_grows program s u (flushed (name_in vals p) (next_ivar s) u) one two) (omega (arith, drawn_one s, two.more.ivars))
effect_fits program ctx kinds prefix line (stmt.Raise a) s vals mon f h g = tt
effect_fits program ctx kinds prefix line (stmt.Work r kind a) s vals mon f h g =
    submit_fits program ctx kinds kind (number_in vals a) None s vals mon f g
effect_fits program ctx kinds prefix line (stmt.Helper x y) s vals mon f h g = helper_fits program kinds s vals f g
effect_fits program ctx kinds prefix line (stmt.HelperWork r x kind a) s vals mon f h g =
    either_fits program (drawn s) (kinds ++ Def ∷ []) (is_active (helper_of (name_in vals x) s)) _ _
    (submit_fits program ctx kinds kind (number_in vals a) (Some (name_in vals x)) s vals mon f g) tt
effect_fits program ctx kinds prefix line (stmt.HelperDone x) s vals mon f h g =
    either_fits program (drawn s) (kinds ++ []) (is_active (helper_of (name_in vals x) s)) _ _
    (done_fits program kinds (name_in vals x) s vals f g) (goes_fit program kinds s s vals f (kept_grows program s g))
effect_fits program ctx kinds prefix line stmt.Stop s vals mon f h g = tt
effect_fits program ctx kinds prefix line (stmt.Ret a) s vals mon f h g = (returned_at (drawn s) kinds vals a f h.uses).1

-- and so does what a line leaves, whether its statement runs or not
line_fits_by : (program : List NumProc) (ctx : Ctx) (kinds : List Kind) (prefix : Option NumPrefix) (line : ℕ) (st : NumStmt) (s : State)
    (vals : List Value) → ctx.mon < length s.monitors → ValsFit (drawn s) kinds vals
    → StatementIsSound program kinds (record { line = line; prefix = prefix; stmt = st }) → MayHavePrefix prefix st → Fits program s
    → EffectFits program (drawn s) (kinds_after kinds st) (cond (holds prefix vals) (effect_of ctx st s vals) (Goes s vals))
line_fits_by program ctx kinds None line st s vals mon f h bare g = effect_fits program ctx kinds None line st s vals mon f h g
line_fits_by program ctx kinds (Some prefix) line st s vals mon f h bare g =
    either_fits program (drawn s) (kinds_after kinds st) (holds (Some prefix) vals) (effect_of ctx st s vals) (Goes s vals)
    (effect_fits program ctx kinds (Some prefix) line st s vals mon f h g)
    (subst (λ bs. EffectFits program (drawn s) (kinds ++ kinds_of bs) (Goes s vals)) (sym bare)
    (goes_fit program kinds s s vals f (kept_grows program s g)))

told_by : (n : Drawn) (kinds : List Kind) (prefix : Option NumPrefix) (vals : List Value) → ValsFit n kinds vals
    → AllByRecursion (IsKnown kinds) (prefix_uses prefix) → IsTold vals prefix
told_by n kinds None vals f h = tt
told_by n kinds (Some (If a)) vals f h = num_at n kinds vals a f h
told_by n kinds (Some (Unless a)) vals f h = num_at n kinds vals a f h

-- ---- the first of the lines that are left
pub head_told : (program : List NumProc) (n : Drawn) (vals : List Value) (line : NumStatement) (rest : List NumStatement)
    → AreTyped program n vals (line ∷ rest) → IsTold vals line.prefix
head_told program n vals line rest t = told_by n t.kinds line.prefix vals t.vals_fit t.sound.0.prefix

pub head_ready : (program : List NumProc) (s : State) (vals : List Value) (line : NumStatement) (rest : List NumStatement)
    → AreTyped program (drawn s) vals (line ∷ rest) → IsReady s vals line.stmt
head_ready program s vals line rest t = ready program t.kinds line.prefix line.line line.stmt s vals t.vals_fit t.sound.0

pub line_fits : (program : List NumProc) (ctx : Ctx) (s : State) (vals : List Value) (line : NumStatement) (rest : List NumStatement)
    (t : AreTyped program (drawn s) vals (line ∷ rest)) → ctx.mon < length s.monitors → Fits program s →
    EffectFits program (drawn s) (kinds_after t.kinds line.stmt) (line_effect ctx line s vals)
line_fits program ctx s vals line rest t mon g =
    line_fits_by program ctx t.kinds line.prefix line.line line.stmt s vals mon t.vals_fit t.sound.0 t.sound.0.alone g

-- the job goes on with the lines behind
pub way_goes : (program : List NumProc) (s s' : State) (vals vals' : List Value) (ctx : Ctx) (ret ret' : Ret) (line : NumStatement)
    (rest : List NumStatement) → IsUnderWay program s vals ctx ret (line ∷ rest) → ret' ≡ ret → line_effect ctx line s vals ≡ Goes s' vals'
    → IsUnderWay program s' vals' ctx ret' rest
way_goes program s s' vals vals' ctx ret ret' line rest w er e =
    let t : AreTyped program (drawn s) vals (line ∷ rest) = w.typed
    in let f : EffectFits program (drawn s) (kinds_after t.kinds line.stmt) (Goes s' vals') = subst
    (EffectFits program (drawn s) (kinds_after t.kinds line.stmt)) e (line_fits program ctx s vals line rest t w.monitor w.fits)
    in record {
      monitor = omega (arith, f.0.monitors, w.monitor);
      typed = record { kinds = kinds_after t.kinds line.stmt; vals_fit = f.1; sound = t.sound.1 };
      ret_fits = subst (RetFits (drawn s')) (sym er) (ret_grows (drawn s) (drawn s') ret f.0 w.ret_fits);
      fits = f.2;
    }

-- what a job returns is there
pub head_returned : (program : List NumProc) (ctx : Ctx) (ret : Ret) (s : State) (vals : List Value) (v : Value) (line : NumStatement)
    (rest : List NumStatement) → IsUnderWay program s vals ctx ret (line ∷ rest) → line_effect ctx line s vals ≡ Returns v → IsReturned (drawn s) v
head_returned program ctx ret s vals v line rest w e =
    let t : AreTyped program (drawn s) vals (line ∷ rest) = w.typed
    in subst (EffectFits program (drawn s) (kinds_after t.kinds line.stmt)) e (line_fits program ctx s vals line rest t w.monitor w.fits)

-- an error that ends the run leaves what fits
pub head_ended : (program : List NumProc) (ctx : Ctx) (ret : Ret) (s : State) (vals : List Value) (after : After) (line : NumStatement)
    (rest : List NumStatement) → IsUnderWay program s vals ctx ret (line ∷ rest) → line_effect ctx line s vals ≡ Ends after → Fits program after.state
head_ended program ctx ret s vals after line rest w e =
    let t : AreTyped program (drawn s) vals (line ∷ rest) = w.typed
    in subst (EffectFits program (drawn s) (kinds_after t.kinds line.stmt)) e (line_fits program ctx s vals line rest t w.monitor w.fits)

-- a job that asks is paused, with the lines behind
pub way_asks : (program : List NumProc) (s s' : State) (vals vals' : List Value) (ctx : Ctx) (ret ret' : Ret) (a : Ask) (line : NumStatement)
    (rest : List NumStatement) → IsUnderWay program s vals ctx ret (line ∷ rest) → ret' ≡ ret → line_effect ctx line s vals ≡ Asks a s' vals'
    → IsNumbered a s' → IsPaused program s' a (record { ctx = ctx; ret = ret'; vals = vals'; lines = rest })
way_asks program s s' vals vals' ctx ret ret' a line rest w er e numbered =
    let t : AreTyped program (drawn s) vals (line ∷ rest) = w.typed
    in let f : EffectFits program (drawn s) (kinds_after t.kinds line.stmt) (Asks a s' vals') = subst
    (EffectFits program (drawn s) (kinds_after t.kinds line.stmt)) e (line_fits program ctx s vals line rest t w.monitor w.fits)
    in record {
      monitor = omega (arith, f.0.monitors, w.monitor);
      kinds = kinds_after t.kinds line.stmt;
      vals_fit = f.1;
      sound = t.sound.1;
      ret_fits = subst (RetFits (drawn s')) (sym er) (ret_grows (drawn s) (drawn s') ret f.0 w.ret_fits);
      fits = f.2;
      numbered = numbered;
    }
