-- What the small changes of a state keep, a job keeps up to its end, or up to where it asks the pool.
use Rattle.std.proofs.Common.{ℕ, ℤ, ◌≡◌, List, [], ◌∷◌, Bool, true, false, Option, Some, None, refl, fold}
use Rattle.std.specs.Prelude.{pos, length, map, Result, Ok, Err, ◌+ℤ◌, if◌then◌else◌}
use Rattle.ak_base.specs.Numbers.{fits}
use Rattle.ak_base.specs.declared.number.Ctx.{Ctx}
use Rattle.ak_labor.specs.declared.ask.Ask.{Ask}
use Rattle.ak_labor.specs.declared.ask.Ask.TheVariants as ask
use Rattle.ak_labor.specs.declared.work.Work.{Work}
use Rattle.ak_labor.specs.declared.work.WorkKind.{WorkKind}
use Rattle.ak_labor.specs.declared.work.Outcome.{Outcome}
use Rattle.ak_labor.specs.declared.work.Outcome.TheVariants.{Good, Bad}
use Rattle.ak_cells.specs.Cells.{unregistered}
use Rattle.ak_frames.specs.declared.value.Value.{Value}
use Rattle.ak_frames.specs.declared.value.Value.TheVariants.{Num, Ivar, Def, Mon, Pipe, Thr, Event, Helper}
use Rattle.ak_frames.specs.declared.frame.Ret.{Ret}
use Rattle.ak_frames.specs.declared.frame.Ret.TheVariants.{Drop, To, TryBody, ThrottleBody}
use Rattle.ak_frames.specs.declared.frame.Frame.{Frame}
use Rattle.ak_frames.specs.declared.frame.Frame.TheVariants as frame
use Rattle.ak_trace.specs.declared.entry.Entry.TheVariants as entry
use Rattle.ak_program.specs.declared.statement.NumStmt.{NumStmt}
use Rattle.ak_program.specs.declared.statement.NumStmt.TheVariants as stmt
use Rattle.ak_program.specs.declared.program.NumProc.{NumProc}
use Rattle.ak_program.specs.declared.program.NumStatement.{NumStatement}
use Rattle.ak_clock.specs.declared.alarm.TickRefused.{TickRefused}
use Rattle.ak_clock.specs.declared.alarm.TickRefused.TheVariants.{Negative, Overflow}
use Rattle.ak_clock.specs.Clock.{ticked}
use Rattle.ak_pipe.specs.Pipe as pipe
use Rattle.ak_machine.specs.declared.flow.Flow.{Flow}
use Rattle.ak_machine.specs.declared.flow.Flow.TheVariants as flow
use Rattle.ak_machine.specs.declared.held.Callback.{Callback}
use Rattle.ak_machine.specs.declared.held.Outstanding.{Outstanding}
use Rattle.ak_machine.specs.declared.held.Read.{Read}
use Rattle.ak_machine.specs.declared.held.Purpose.{Purpose}
use Rattle.ak_machine.specs.declared.held.Purpose.TheVariants.{ForAll, ForAny, ForChoice, ForGuard}
use Rattle.ak_machine.specs.State.{State}
use Rattle.ak_machine.specs.Number.{Computed, Gives, Overflows, DividesByZero, computed}
use Rattle.ak_machine.specs.Deferred.{is_empty, with_ivar}
use Rattle.ak_machine.specs.Groups.{group_at, purpose_at, part_at, part_set, all_call, choice_decided, first_number, first_call}
use Rattle.ak_machine.specs.Throttles.{throttle_at, body_failed}
use Rattle.ak_machine.specs.Pipes.{pipe_at, with_pipe_at, with_pipe}
use Rattle.ak_machine.specs.Errors.{After, going_on, stopped, send}
use Rattle.ak_machine.specs.Works.{submitted, is_active, helper_at, helper_ended, answered}
use Rattle.ak_machine.specs.Effect.{Effect, Goes, Raises, Returns, Stops, Ends, Asks, name_in, number_in, args_of, call_to_fresh, holds}
use Rattle.ak_machine.specs.Statement.{choosable, set_effect, work_effect, sent_effect, tick_effect, effect_of, line_effect}
use Rattle.ak_machine.specs.Job.{Progress, Over, Asking, returned, number_returned, deferred_returned, run_lines, run_call_if}
use Rattle.ak_machine.specs.Job.{run_all_part, run_part, run_choice, run_frame, filled_if, lines_of}
use Rattle.ak_machine.specs.Cycle.{outcome_given}
use Rattle.ak_ledger.proofs.Still.{Still, AfterHas, called_keeps, fill_keeps, register_keeps, connect_keeps, with_monitor_keeps}
use Rattle.ak_ledger.proofs.Still.{detach_keeps, all_begun_keeps, any_begun_keeps, choice_begun_keeps, try_begun_keeps, try_done_keeps, try_waits_keeps}
use Rattle.ak_ledger.proofs.Still.{body_enqueued_keeps, done_awaited_keeps, body_ended_keeps, body_waits_keeps, body_failed_keeps, put_keeps}
use Rattle.ak_ledger.proofs.Still.{write_keeps, read_keeps, close_keeps, close_read_keeps, flushed_keeps, abort_keeps}
use Rattle.ak_ledger.proofs.Still.{send_keeps, stopped_keeps}

-- a helper that is named is granted and has not ended
abbrev pub IsHelped : Option ℕ → State → Type 0
IsHelped None s = Unit {0}
IsHelped (Some h) s = is_active (helper_at h s) ≡ true

helped_still : (helper : Option ℕ) (s : State) → IsHelped helper s → IsHelped helper (with_ivar s)
helped_still None s h = tt
helped_still (Some k) s h = h

-- what a statement leaves
abbrev pub EffectHas : (P : State → Type 0) (Q : Ask → State → Type 0) → Effect → Type 0
EffectHas P Q (Goes s vals) = P s
EffectHas P Q (Raises e) = Unit {0}
EffectHas P Q (Returns v) = Unit {0}
EffectHas P Q Stops = Unit {0}
EffectHas P Q (Ends after) = AfterHas P after.flow after.state
EffectHas P Q (Asks a s vals) = Q a s

-- how far a job came
abbrev pub ProgressHas : (P : State → Type 0) (Q : Ask → State → Type 0) → Progress → Type 0
ProgressHas P Q (Over after) = AfterHas P after.flow after.state
ProgressHas P Q (Asking a s rest) = Q a s

-- a statement that asks the pool, or changes the tally of a pipe
abbrev pub IsApart : NumStmt → Type 0
IsApart (stmt.Pipe i b) = Unit {0}
IsApart (stmt.Write r i a) = Unit {0}
IsApart (stmt.Put i a) = Unit {0}
IsApart (stmt.Read r i proc args eof eof_args) = Unit {0}
IsApart (stmt.Close i) = Unit {0}
IsApart (stmt.CloseRead i) = Unit {0}
IsApart (stmt.Work r kind a) = Unit {0}
IsApart (stmt.Helper h x) = Unit {0}
IsApart (stmt.HelperWork r h kind a) = Unit {0}
IsApart (stmt.HelperDone h) = Unit {0}
IsApart st = ⊥

module _ (P : State → Type 0) (Q : Ask → State → Type 0) (k : Still P) where
  set_keeps : (c : Computed) (s : State) (vals : List Value) → P s → EffectHas P Q (set_effect c s vals)
  set_keeps (Gives z) s vals p = p
  set_keeps Overflows s vals p = tt
  set_keeps DividesByZero s vals p = tt

  if_effect : (b : Bool) (x y : Effect) → EffectHas P Q x → EffectHas P Q y → EffectHas P Q (if b then x else y)
  if_effect true x y p q = p
  if_effect false x y p q = q

  fresh_keeps : (s : State) → P s → P (with_ivar s)
  fresh_keeps s p = k.change s (with_ivar s) refl refl p

  sent_keeps : (after : After) (vals : List Value) → AfterHas P after.flow after.state → EffectHas P Q (sent_effect after vals)
  sent_keeps after vals p = by after.flow p
    where
      by : (f : Flow) → AfterHas P f after.state → EffectHas P Q (sent_effect (record { state = after.state; flow = f }) vals)
      by flow.On q = q
      by flow.Stopped q = q
      by (flow.Unhandled e) q = q

  tick_keeps : (x : Result (Unit {0}) TickRefused) (time : ℤ) (s : State) (vals : List Value) → P s → EffectHas P Q (tick_effect x time s vals)
  tick_keeps (Ok u) time s vals p = k.change s _ refl refl p
  tick_keeps (Err Negative) time s vals p = tt
  tick_keeps (Err Overflow) time s vals p = tt

  -- every statement but those apart
  pub other_keeps : (ctx : Ctx) (st : NumStmt) (s : State) (vals : List Value) → (IsApart st → EffectHas P Q (effect_of ctx st s vals)) → P s
      → EffectHas P Q (effect_of ctx st s vals)
  other_keeps ctx (stmt.Set x a op b) s vals apart p = set_keeps (computed op (number_in vals a) (number_in vals b)) s vals p
  other_keeps ctx (stmt.Print a) s vals apart p = k.note (entry.Print (number_in vals a)) s tt p
  other_keeps ctx (stmt.Ivar i) s vals apart p = fresh_keeps s p
  other_keeps ctx (stmt.Fill i a) s vals apart p =
      if_effect (is_empty (name_in vals i) s) _ _ (fill_keeps P k (name_in vals i) (number_in vals a) s p) tt
  other_keeps ctx (stmt.Offer i a) s vals apart p = fill_keeps P k (name_in vals i) (number_in vals a) s p
  other_keeps ctx (stmt.Upon d proc args) s vals apart p = register_keeps P k (name_in vals d) ctx (frame.OnValue proc (args_of vals args) Drop) s tt p
  other_keeps ctx (stmt.Bind r d proc args) s vals apart p =
      register_keeps P k (name_in vals d) ctx (frame.OnValue proc (args_of vals args) (To (length s.cells.ivars))) (with_ivar s) tt (fresh_keeps s p)
  other_keeps ctx (stmt.All r ds proc args) s vals apart p =
      all_begun_keeps P k ctx (map (name_in vals) ds) (call_to_fresh s proc (args_of vals args)) (with_ivar s) (fresh_keeps s p)
  other_keeps ctx (stmt.Any r ds) s vals apart p = any_begun_keeps P k ctx (map (name_in vals) ds) (length s.cells.ivars) (with_ivar s) (fresh_keeps s p)
  other_keeps ctx (stmt.Choose r choices args) s vals apart p =
      choice_begun_keeps P k ctx (map (choosable vals) choices) (args_of vals args) (length s.cells.ivars) (with_ivar s) (fresh_keeps s p)
  other_keeps ctx (stmt.Sched proc args) s vals apart p = called_keeps P k _ proc _ Drop s p
  other_keeps ctx (stmt.Low proc args) s vals apart p = called_keeps P k _ proc _ Drop s p
  other_keeps ctx (stmt.Yield r) s vals apart p = k.change s _ refl refl p
  other_keeps ctx (stmt.Never r) s vals apart p = fresh_keeps s p
  other_keeps ctx (stmt.After r n) s vals apart p =
      if_effect (fits (s.clock.time +ℤ number_in vals n)) _ _ (k.change s _ refl refl p) tt
  other_keeps ctx (stmt.Event e r n) s vals apart p =
      if_effect (fits (s.clock.time +ℤ number_in vals n)) _ _ (k.change s _ refl refl p) tt
  other_keeps ctx (stmt.Abort e) s vals apart p = abort_keeps P k (name_in vals e) s p
  other_keeps ctx (stmt.Tick n) s vals apart p =
      tick_keeps (ticked (number_in vals n) (s.clock.time +ℤ number_in vals n)) (s.clock.time +ℤ number_in vals n) s vals p
  other_keeps ctx (stmt.Monitor m) s vals apart p = with_monitor_keeps P k ctx.mon s p
  other_keeps ctx (stmt.Within m proc args) s vals apart p = called_keeps P k _ proc _ Drop s p
  other_keeps ctx (stmt.Detach m) s vals apart p = detach_keeps P k (name_in vals m) s p
  other_keeps ctx (stmt.OnError m proc args) s vals apart p = k.change s _ refl refl p
  other_keeps ctx (stmt.NextError r m) s vals apart p = k.change s _ refl refl p
  other_keeps ctx (stmt.Raise a) s vals apart p = tt
  other_keeps ctx (stmt.Send m a) s vals apart p =
      sent_keeps (send (name_in vals m) (number_in vals a) s) vals (send_keeps P k (name_in vals m) (number_in vals a) s p)
  other_keeps ctx (stmt.Try r proc args catch catch_args kind) s vals apart p = try_begun_keeps P k ctx kind proc _ _ (with_ivar s) (fresh_keeps s p)
  other_keeps ctx (stmt.Throttle t n stop) s vals apart p = k.change s _ refl refl p
  other_keeps ctx (stmt.Enqueue r t proc args) s vals apart p =
      if_effect (throttle_at (name_in vals t) s).dead _ _ tt
      (body_enqueued_keeps P k (name_in vals t) _ (with_ivar s) (fresh_keeps s p))
  other_keeps ctx (stmt.ThrottleDone r t) s vals apart p = done_awaited_keeps P k (name_in vals t) _ (with_ivar s) (fresh_keeps s p)
  other_keeps ctx (stmt.Pipe i b) s vals apart p = apart tt
  other_keeps ctx (stmt.Write r i a) s vals apart p = apart tt
  other_keeps ctx (stmt.Put i a) s vals apart p = apart tt
  other_keeps ctx (stmt.Read r i proc args eof eof_args) s vals apart p = apart tt
  other_keeps ctx (stmt.Close i) s vals apart p = apart tt
  other_keeps ctx (stmt.CloseRead i) s vals apart p = apart tt
  other_keeps ctx (stmt.Flushed r i) s vals apart p = flushed_keeps P k (name_in vals i) _ (with_ivar s) (fresh_keeps s p)
  other_keeps ctx (stmt.Work r kind a) s vals apart p = apart tt
  other_keeps ctx (stmt.Helper h x) s vals apart p = apart tt
  other_keeps ctx (stmt.HelperWork r h kind a) s vals apart p = apart tt
  other_keeps ctx (stmt.HelperDone h) s vals apart p = apart tt
  other_keeps ctx stmt.Stop s vals apart p = tt
  other_keeps ctx (stmt.Ret a) s vals apart p = tt

  pub number_returned_keeps : (ret : Ret) (v : ℤ) (s : State) → P s → P (number_returned ret v s)
  number_returned_keeps Drop v s p = p
  number_returned_keeps (To r) v s p = fill_keeps P k r v s p
  number_returned_keeps (TryBody g) v s p = try_done_keeps P k g v s p
  number_returned_keeps (ThrottleBody b) v s p = body_ended_keeps P k b v s p

  deferred_returned_keeps : (ret : Ret) (i : ℕ) (s : State) → P s → P (deferred_returned ret i s)
  deferred_returned_keeps Drop i s p = p
  deferred_returned_keeps (To r) i s p = connect_keeps P k r i s p
  deferred_returned_keeps (TryBody g) i s p = try_waits_keeps P k g i s p
  deferred_returned_keeps (ThrottleBody b) i s p = body_waits_keeps P k b i s p

  pub returned_keeps : (ret : Ret) (v : Value) (s : State) → P s → P (returned ret v s)
  returned_keeps ret (Num v) s p = number_returned_keeps ret v s p
  returned_keeps ret (Def i) s p = deferred_returned_keeps ret i s p
  returned_keeps ret (Ivar i) s p = deferred_returned_keeps ret i s p
  returned_keeps ret (Mon m) s p = p
  returned_keeps ret (Pipe i) s p = p
  returned_keeps ret (Thr t) s p = p
  returned_keeps ret (Event e) s p = p
  returned_keeps ret (Helper h) s p = p

  pub outcome_keeps : (o : Outcome) (work : Outstanding) (s : State) → P s → AfterHas P (outcome_given o work s).flow (outcome_given o work s).state
  outcome_keeps (Good v) work s p = fill_keeps P k work.to v s p
  outcome_keeps (Bad e) work s p = send_keeps P k work.ctx.mon e s p

-- each statement that asks the pool, or changes the tally of a pipe, leaves what it should
pub record AsksWell (P : State → Type 0) (Q : Ask → State → Type 0) : Type 0 where
  pub work : (ctx : Ctx) (to : ℕ) (work : Work) (helper : Option ℕ) (s : State) → IsHelped helper s → P s
      → Q (ask.Submit s.next_work work helper) (submitted ctx to work helper s)
  pub helper : (s : State) → P s → Q (ask.HelperNew (length s.helpers)) s
  pub done : (h : ℕ) (s : State) → is_active (helper_at h s) ≡ true → P s → Q (ask.HelperEnd h) (helper_ended h s)
  pub new_pipe : (room : ℕ) (s : State) → P s → P (with_pipe room s)
  pub other_pipe : (i : ℕ) (x : pipe.Pipe Read) (s : State) → P s → P (with_pipe_at i x s)

module _ (P : State → Type 0) (Q : Ask → State → Type 0) (k : Still P) (asks : AsksWell P Q) where
  work_keeps : (ctx : Ctx) (kind : WorkKind) (z : ℤ) (helper : Option ℕ) (s : State) (vals : List Value) → IsHelped helper s → P s
      → EffectHas P Q (work_effect ctx kind z helper s vals)
  work_keeps ctx kind z helper s vals h p =
      asks.work ctx (length s.cells.ivars) (record { kind = kind; num = z }) helper (with_ivar s) (helped_still helper s h) (fresh_keeps P Q k s p)

  -- a statement for a helper that is granted and has not ended
  helped_keeps : (b : Bool) (x y : Effect) → (b ≡ true → EffectHas P Q x) → EffectHas P Q y → EffectHas P Q (if b then x else y)
  helped_keeps true x y p q = p refl
  helped_keeps false x y p q = q

  apart_keeps : (ctx : Ctx) (st : NumStmt) (s : State) (vals : List Value) → P s → IsApart st → EffectHas P Q (effect_of ctx st s vals)
  apart_keeps ctx (stmt.Pipe i b) s vals p apart = asks.new_pipe b s p
  apart_keeps ctx (stmt.Write r i a) s vals p apart =
      let x : pipe.Pipe Read = pipe_at (name_in vals i) s
      in if_effect P Q k x.closed _ _ tt
      (write_keeps P k (name_in vals i) (length s.cells.ivars) (number_in vals a) (with_ivar s)
      (asks.other_pipe (name_in vals i) _ (with_ivar s) (fresh_keeps P Q k s p)))
  apart_keeps ctx (stmt.Put i a) s vals p apart =
      let x : pipe.Pipe Read = pipe_at (name_in vals i) s
      in if_effect P Q k x.closed _ _ tt (put_keeps P k (name_in vals i) (number_in vals a) s (asks.other_pipe (name_in vals i) _ s p))
  apart_keeps ctx (stmt.Read r i proc args eof eof_args) s vals p apart =
      read_keeps P k (name_in vals i) _ (with_ivar s) (asks.other_pipe (name_in vals i) _ (with_ivar s) (fresh_keeps P Q k s p))
  apart_keeps ctx (stmt.Close i) s vals p apart = close_keeps P k (name_in vals i) s (asks.other_pipe (name_in vals i) _ s p)
  apart_keeps ctx (stmt.CloseRead i) s vals p apart = close_read_keeps P k (name_in vals i) s (asks.other_pipe (name_in vals i) _ s p)
  apart_keeps ctx (stmt.Work r kind a) s vals p apart = work_keeps ctx kind (number_in vals a) None s vals tt p
  apart_keeps ctx (stmt.Helper h x) s vals p apart = asks.helper s p
  apart_keeps ctx (stmt.HelperWork r h kind a) s vals p apart =
      helped_keeps (is_active (helper_at (name_in vals h) s)) _ _
      (λ e. work_keeps ctx kind (number_in vals a) (Some (name_in vals h)) s vals e p) tt
  apart_keeps ctx (stmt.HelperDone h) s vals p apart =
      helped_keeps (is_active (helper_at (name_in vals h) s)) _ _ (λ e. asks.done (name_in vals h) s e p) p
  apart_keeps ctx st s vals p apart = absurd apart

  pub effect_keeps : (ctx : Ctx) (st : NumStmt) (s : State) (vals : List Value) → P s → EffectHas P Q (effect_of ctx st s vals)
  effect_keeps ctx st s vals p = other_keeps P Q k ctx st s vals (λ a. apart_keeps ctx st s vals p a) p

  pub line_keeps : (ctx : Ctx) (line : NumStatement) (s : State) (vals : List Value) → P s → EffectHas P Q (line_effect ctx line s vals)
  line_keeps ctx line s vals p = if_effect P Q k (holds line.prefix vals) _ _ (effect_keeps ctx line.stmt s vals p) p

  -- the effect of a line, given that the lines behind it keep
  effect_goes_on : (ctx : Ctx) (ret : Ret) (line : NumStatement) (lines : List NumStatement) (s : State) → P s
      → ((s' : State) (vals' : List Value) → P s' → ProgressHas P Q (run_lines ctx ret lines s' vals')) → (x : Effect) → EffectHas P Q x
      → ProgressHas P Q (elim x [
        | Goes s' vals' ↦ run_lines ctx ret lines s' vals'
        | Raises e ↦ Over (send ctx.mon e s)
        | Returns v ↦ Over (going_on (returned ret v s))
        | Stops ↦ Over (stopped s)
        | Ends after ↦ Over after
        | Asks a s' vals' ↦ Asking a s' (record { ctx = ctx; ret = ret; vals = vals'; lines = lines })
      ])
  effect_goes_on ctx ret line lines s p h (Goes s' vals') q = h s' vals' q
  effect_goes_on ctx ret line lines s p h (Raises e) q = send_keeps P k ctx.mon e s p
  effect_goes_on ctx ret line lines s p h (Returns v) q = returned_keeps P Q k ret v s p
  effect_goes_on ctx ret line lines s p h Stops q = stopped_keeps P k s p
  effect_goes_on ctx ret line lines s p h (Ends after) q = q
  effect_goes_on ctx ret line lines s p h (Asks a s' vals') q = q

  pub lines_keep : (ctx : Ctx) (ret : Ret) (lines : List NumStatement) (s : State) (vals : List Value) → P s → ProgressHas P Q (run_lines ctx ret lines s vals)
  lines_keep ctx ret [] s vals p = number_returned_keeps P Q k ret (pos 0) s p
  lines_keep ctx ret (line ∷ lines) s vals p =
      effect_goes_on ctx ret line lines s p (λ s' vals' q. lines_keep ctx ret lines s' vals' q)
      (line_effect ctx line s vals) (line_keeps ctx line s vals p)

  call_if_keeps : (program : List NumProc) (ctx : Ctx) (o : Option Callback) (s : State) → P s → ProgressHas P Q (run_call_if program ctx o s)
  call_if_keeps program ctx None s p = p
  call_if_keeps program ctx (Some c) s p = lines_keep ctx (To c.to) (lines_of program c.proc) s c.vals p

  all_part_keeps : (program : List NumProc) (ctx : Ctx) (q : Purpose) (g : ℕ) (s : State) → P s → ProgressHas P Q (run_all_part program ctx q g s)
  all_part_keeps program ctx (ForAll c) g s p = call_if_keeps program ctx (all_call g c s) s p
  all_part_keeps program ctx (ForAny ds r) g s p = p
  all_part_keeps program ctx (ForChoice choices vals r) g s p = p
  all_part_keeps program ctx (ForGuard ctx' m kind c) g s p = p

  part_keeps : (program : List NumProc) (ctx : Ctx) (o : Option ℤ) (g n : ℕ) (v : ℤ) (s : State) → P s → ProgressHas P Q (run_part program ctx o g n v s)
  part_keeps program ctx (Some w) g n v s p = p
  part_keeps program ctx None g n v s p =
      all_part_keeps program ctx (purpose_at g s) g (part_set g n v s) (k.change s (part_set g n v s) refl refl p)

  filled_if_keeps : (r : ℕ) (o : Option ℤ) (s : State) → P s → P (filled_if r o s)
  filled_if_keeps r None s p = p
  filled_if_keeps r (Some v) s p = fill_keeps P k r v s p

  choice_keeps : (program : List NumProc) (ctx : Ctx) (q : Purpose) (s : State) → P s → ProgressHas P Q (run_choice program ctx q s)
  choice_keeps program ctx (ForAny ds r) s p = filled_if_keeps r (first_number ds s) s p
  choice_keeps program ctx (ForChoice choices vals r) s p = call_if_keeps program ctx (first_call choices vals r s) s p
  choice_keeps program ctx (ForAll c) s p = p
  choice_keeps program ctx (ForGuard ctx' m kind c) s p = p

  if_progress : (b : Bool) (x y : Progress) → ProgressHas P Q x → ProgressHas P Q y → ProgressHas P Q (if b then x else y)
  if_progress true x y p q = p
  if_progress false x y p q = q

  pub frame_keeps : (program : List NumProc) (ctx : Ctx) (f : Frame) (v : ℤ) (s : State) → P s
      → ((q : ℕ) → f ≡ frame.AnswerOut q → Q (ask.Answer q v) (answered q v s))
      → ProgressHas P Q (run_frame program ctx f v s)
  frame_keeps program ctx (frame.Call proc vals ret) v s p a = lines_keep ctx ret (lines_of program proc) s vals p
  frame_keeps program ctx (frame.OnValue proc vals ret) v s p a = lines_keep ctx ret (lines_of program proc) s (Num v ∷ vals) p
  frame_keeps program ctx (frame.AllPart g n) v s p a = part_keeps program ctx (part_at g n s) g n v s p
  frame_keeps program ctx (frame.ChoicePart g) v s p a =
      if_progress (group_at g s).decided _ _ p
      (choice_keeps program ctx (purpose_at g s) (choice_decided g s)
      (k.change (record s { cells = fold unregistered s.cells (group_at g s).notes }) (choice_decided g s) refl refl (k.forget (group_at g s).notes s p)))
  frame_keeps program ctx (frame.TryDone g) v s p a = try_done_keeps P k g v s p
  frame_keeps program ctx (frame.BodyDone b) v s p a = body_ended_keeps P k b v s p
  frame_keeps program ctx (frame.BodyFailed b e) v s p a = send_keeps P k ctx.mon e (body_failed b s) (body_failed_keeps P k b s p)
  frame_keeps program ctx (frame.Raise e) v s p a = send_keeps P k ctx.mon e s p
  frame_keeps program ctx (frame.AnswerOut q) v s p a = a q refl
