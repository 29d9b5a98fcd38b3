-- What the small changes of a state keep, each operation keeps.
use Rattle.std.proofs.Common.{ℕ, ℤ, ◌≡◌, List, [], ◌∷◌, Bool, true, false, Option, Some, None, refl, fold}
use Rattle.std.specs.Prelude.{pos, length, map, if◌then◌else◌, ◌==◌, ◌+◌}
use Rattle.std.proofs.Math.Seq.{map-set_same}
use Rattle.ak_base.specs.declared.number.Ctx.{Ctx}
use Rattle.ak_cells.specs.declared.registration.Registration.{Registration}
use Rattle.ak_cells.specs.Cells.{with_registration, unregistered}
use Rattle.ak_rings.specs.Queues.{Queues}
use Rattle.ak_monitor.specs.Monitors.{monitor_in, catcher, path, up_to}
use Rattle.ak_script.specs.declared.statement.GuardMode.{GuardMode}
use Rattle.ak_script.specs.declared.statement.GuardMode.TheVariants as mode
use Rattle.ak_clock.specs.declared.alarm.Alarm.{Alarm}
use Rattle.ak_clock.specs.Clock as clock
use Rattle.ak_throttle.specs.declared.answer.Enqueued.{Enqueued}
use Rattle.ak_throttle.specs.declared.answer.Enqueued.TheVariants as placed
use Rattle.ak_throttle.specs.Throttle as throttle
use Rattle.ak_pipe.specs.declared.answer.Got.{Got}
use Rattle.ak_pipe.specs.declared.answer.Got.TheVariants.{Item, Eof, Waits}
use Rattle.ak_pipe.specs.Pipe as pipe
use Rattle.ak_frames.specs.declared.value.Value.{Value}
use Rattle.ak_frames.specs.declared.value.Value.TheVariants.{Num}
use Rattle.ak_frames.specs.declared.frame.Ret.{Ret}
use Rattle.ak_frames.specs.declared.frame.Ret.TheVariants.{Drop, To, TryBody, ThrottleBody}
use Rattle.ak_frames.specs.declared.frame.Frame.{Frame}
use Rattle.ak_frames.specs.declared.frame.Frame.TheVariants.{Call, AllPart, ChoicePart, TryDone, BodyDone, BodyFailed, Raise, AnswerOut}
use Rattle.ak_frames.specs.declared.frame.Task.{Task}
use Rattle.ak_frames.specs.declared.frame.BodyId.{BodyId}
use Rattle.ak_trace.specs.declared.entry.Entry.{Entry}
use Rattle.ak_trace.specs.declared.entry.Entry.TheVariants as entry
use Rattle.ak_trace.specs.declared.entry.Ending.{Ending}
use Rattle.ak_trace.specs.declared.entry.Ending.TheVariants as ending
use Rattle.ak_machine.specs.declared.flow.Flow.{Flow}
use Rattle.ak_machine.specs.declared.flow.Flow.TheVariants as flow
use Rattle.ak_machine.specs.declared.held.Handler.{Handler}
use Rattle.ak_machine.specs.declared.held.Handler.TheVariants.{OnError, OfGuard, OfBody}
use Rattle.ak_machine.specs.declared.held.Callback.{Callback}
use Rattle.ak_machine.specs.declared.held.Choosable.{Choosable}
use Rattle.ak_machine.specs.declared.held.Purpose.{Purpose}
use Rattle.ak_machine.specs.declared.held.Purpose.TheVariants.{ForAll, ForAny, ForChoice, ForGuard}
use Rattle.ak_machine.specs.declared.held.Body.{Body}
use Rattle.ak_machine.specs.declared.held.Fate.{Fate}
use Rattle.ak_machine.specs.declared.held.Fate.TheVariants.{Undecided, Failing, Over}
use Rattle.ak_machine.specs.declared.held.Read.{Read}
use Rattle.ak_machine.specs.declared.held.Outstanding.{Outstanding}
use Rattle.ak_machine.specs.declared.held.HelperState.{HelperState}
use Rattle.ak_machine.specs.declared.held.Requested.{Requested}
use Rattle.ak_machine.specs.State.{State}
use Rattle.ak_machine.specs.Mapped.{state_renamed}
use Rattle.ak_machine.specs.Deferred.{noting, plain_task, woken_task, enqueue, called, number_at, fill, fill_at, fill_empty, filled_with}
use Rattle.ak_machine.specs.Deferred.{filled_where, register}
use Rattle.ak_machine.specs.Deferred.{register_at, connect, connect_at}
use Rattle.ak_machine.specs.Monitors as monitors
use Rattle.ak_machine.specs.Groups as group
use Rattle.ak_machine.specs.Throttles as throttles
use Rattle.ak_machine.specs.Pipes as pipes
use Rattle.ak_machine.specs.Alarms as alarms
use Rattle.ak_machine.specs.Errors.{stopped, next_errors_filled, acted, handler_acts, handled, caught_at, send}
use Rattle.ak_ledger.specs.Tallies.{tally_of, tallies_of}
use Rattle.ak_ledger.proofs.Tallies.{tally_freed, tally_flushed}

-- an entry that says nothing of jobs, cycles and the end, and nothing of ivars, works and requests
abbrev pub IsQuiet : Entry → Type 0
IsQuiet entry.Cycle = ⊥
IsQuiet (entry.Enq n low) = ⊥
IsQuiet (entry.Job n) = ⊥
IsQuiet (entry.End why) = ⊥
IsQuiet (entry.Fill i v) = ⊥
IsQuiet (entry.Join r i) = ⊥
IsQuiet (entry.Submit id kind z) = ⊥
IsQuiet (entry.Arrive id outcome) = ⊥
IsQuiet (entry.Request q n r) = ⊥
IsQuiet (entry.Answer q v) = ⊥
IsQuiet e = Unit {0}

-- a frame that answers no request
abbrev pub IsNoAnswer : Frame → Type 0
IsNoAnswer (AnswerOut q) = ⊥
IsNoAnswer f = Unit {0}

-- what a small change may leave as it is: the jobs and handlers that wait, the works, the helpers, the requests, how many askers are
-- left, and the trace
pub record Aspects : Type 0 where
  pub queues : Queues Task
  pub handlers : List (Registration Frame)
  pub works : List Outstanding
  pub next_work : ℕ
  pub helpers : List HelperState
  pub requests : List Requested
  pub left : ℕ
  pub trace : List Entry

abbrev pub aspects_of : State → Aspects
aspects_of s = record {
  queues = s.queues;
  handlers = s.cells.registrations;
  works = s.works;
  next_work = s.next_work;
  helpers = s.helpers;
  requests = s.requests;
  left = s.left;
  trace = s.trace;
}

-- kept by each small change of a state that neither asks the pool, nor takes what comes from it, nor changes the tally of a pipe
pub record Still (P : State → Type 0) : Type 0 where
  pub note : (e : Entry) (s : State) → IsQuiet e → P s → P (noting e s)
  pub enq : (ctx : Ctx) (task : Task) (s : State) → IsNoAnswer task.frame → P s → P (enqueue ctx task s)
  pub wait : (i : ℕ) (ctx : Ctx) (frame : Frame) (s : State) → IsNoAnswer frame → P s → P (record s { cells = with_registration i ctx frame s.cells })
  pub forget : (notes : List ℕ) (s : State) → P s → P (record s { cells = fold unregistered s.cells notes })
  pub fill : (i : ℕ) (v : ℤ) (s : State) → P s → P (fill_empty i v s)
  pub join : (result right : ℕ) (s : State) → (result == right) ≡ false → P s → P (state_renamed right result (noting (entry.Join result right) s))
  pub change : (s u : State) → aspects_of u ≡ aspects_of s → tallies_of u ≡ tallies_of s → P s → P u

-- a state that has it, with the end behind it
pub record Ended (P : State → Type 0) (s : State) : Type 0 where
  pub before : State
  pub why : Ending
  pub last : s ≡ noting (entry.End why) before
  pub has : P before

-- a state that has it where the run goes on, and else one with the end behind it
abbrev pub AfterHas : (P : State → Type 0) → Flow → State → Type 0
AfterHas P flow.On s = P s
AfterHas P flow.Stopped s = Ended P s
AfterHas P (flow.Unhandled e) s = Ended P s

module _ (P : State → Type 0) (k : Still P) where
  fold_keeps : {A : Type 0} (f : State → A → State) → ((s : State) (x : A) → P s → P (f s x)) → (xs : List A) (s : State) → P s → P (fold f s xs)
  fold_keeps f step [] s p = p
  fold_keeps f step (x ∷ xs) s p = fold_keeps f step xs (f s x) (step s x p)

  pub if_keeps : (b : Bool) (s t : State) → P s → P t → P (if b then s else t)
  if_keeps true s t p q = p
  if_keeps false s t p q = q

  pub called_keeps : (ctx : Ctx) (proc : ℕ) (vals : List Value) (ret : Ret) (s : State) → P s → P (called ctx proc vals ret s)
  called_keeps ctx proc vals ret s p = k.enq ctx (plain_task (Call proc vals ret)) s tt p

  fill_at_keeps : (o : Option ℤ) (i : ℕ) (v : ℤ) (s : State) → P s → P (fill_at o i v s)
  fill_at_keeps (Some w) i v s p = p
  fill_at_keeps None i v s p = k.fill i v s p

  pub fill_keeps : (i : ℕ) (v : ℤ) (s : State) → P s → P (fill i v s)
  fill_keeps i v s p = fill_at_keeps (number_at i s) i v s p

  pub filled_where_keeps : (b : Bool) (i : ℕ) (s : State) → P s → P (filled_where b i s)
  filled_where_keeps true i s p = fill_keeps i (pos 0) s p
  filled_where_keeps false i s p = p

  register_at_keeps : (o : Option ℤ) (i : ℕ) (ctx : Ctx) (frame : Frame) (s : State) → IsNoAnswer frame → P s → P (register_at o i ctx frame s)
  register_at_keeps (Some v) i ctx frame s n p = k.enq ctx (woken_task frame v) s n p
  register_at_keeps None i ctx frame s n p = k.wait i ctx frame s n p

  pub register_keeps : (i : ℕ) (ctx : Ctx) (frame : Frame) (s : State) → IsNoAnswer frame → P s → P (register i ctx frame s)
  register_keeps i ctx frame s n p = register_at_keeps (number_at i s) i ctx frame s n p

  connect_at_keeps : (c : Bool) (a b : Option ℤ) (r i : ℕ) (s : State) → (r == i) ≡ c → P s → P (if c then s else connect_at a b r i s)
  connect_at_keeps true a b r i s e p = p
  connect_at_keeps false (Some w) b r i s e p = p
  connect_at_keeps false None (Some v) r i s e p = fill_keeps r v s p
  connect_at_keeps false None None r i s e p = k.join r i s e p

  pub connect_keeps : (r i : ℕ) (s : State) → P s → P (connect r i s)
  connect_keeps r i s p = connect_at_keeps (r == i) (number_at r s) (number_at i s) r i s refl p

  -- ---- monitors
  pub with_monitor_keeps : (m : ℕ) (s : State) → P s → P (monitors.with_monitor m s)
  with_monitor_keeps m s p = k.note (entry.Monitor (length s.monitors) m) _ tt (k.change s _ refl refl p)

  pub detach_keeps : (m : ℕ) (s : State) → P s → P (monitors.detach m s)
  detach_keeps m s p = k.note (entry.Detach m) _ tt (k.change s _ refl refl p)

  attach_keeps : (m : ℕ) (s : State) → P s → P (monitors.attach m s)
  attach_keeps m s p = k.note (entry.Attach m) _ tt (k.change s _ refl refl p)

  called_under_keeps : (h : Handler) (ctx : Ctx) (proc : ℕ) (vals : List Value) (ret : Ret) (s : State) → P s → P (monitors.called_under h ctx proc vals ret s)
  called_under_keeps h ctx proc vals ret s p =
      called_keeps _ proc vals ret _
      (k.change (monitors.detach (length s.monitors) (monitors.with_monitor ctx.mon s)) _ refl refl
      (detach_keeps (length s.monitors) _ (with_monitor_keeps ctx.mon s p)))

  -- ---- groups and guards
  all_registered_keeps : (ctx : Ctx) (g : ℕ) (ds : List ℕ) (n : ℕ) (s : State) → P s → P (group.all_registered ctx g ds n s)
  all_registered_keeps ctx g [] n s p = p
  all_registered_keeps ctx g (d ∷ ds) n s p = all_registered_keeps ctx g ds (n + 1) _ (register_keeps d ctx (AllPart g n) s tt p)

  noted_at_keeps : (o : Option ℤ) (g : ℕ) (s : State) → P s → P (group.noted_at o g s)
  noted_at_keeps (Some v) g s p = p
  noted_at_keeps None g s p = k.change s _ refl refl p

  choice_registered_keeps : (ctx : Ctx) (g : ℕ) (ds : List ℕ) (s : State) → P s → P (group.choice_registered ctx g ds s)
  choice_registered_keeps ctx g [] s p = p
  choice_registered_keeps ctx g (d ∷ ds) s p =
      choice_registered_keeps ctx g ds _ (register_keeps d ctx (ChoicePart g) (group.noted_at (number_at d s) g s) tt (noted_at_keeps (number_at d s) g s p))

  pub all_begun_keeps : (ctx : Ctx) (ds : List ℕ) (c : Callback) (s : State) → P s → P (group.all_begun ctx ds c s)
  all_begun_keeps ctx ds c s p = all_registered_keeps ctx (length s.groups) ds 0 _ (k.change s _ refl refl p)

  pub any_begun_keeps : (ctx : Ctx) (ds : List ℕ) (r : ℕ) (s : State) → P s → P (group.any_begun ctx ds r s)
  any_begun_keeps ctx ds r s p = choice_registered_keeps ctx (length s.groups) ds _ (k.change s _ refl refl p)

  pub choice_begun_keeps : (ctx : Ctx) (cs : List Choosable) (vals : List Value) (r : ℕ) (s : State) → P s → P (group.choice_begun ctx cs vals r s)
  choice_begun_keeps ctx cs vals r s p =
      choice_registered_keeps ctx (length s.groups) (map group.deferred_of cs) _ (k.change s _ refl refl p)

  pub try_begun_keeps : (ctx : Ctx) (kind : GuardMode) (proc : ℕ) (vals : List Value) (c : Callback) (s : State) → P s
      → P (group.try_begun ctx kind proc vals c s)
  try_begun_keeps ctx kind proc vals c s p =
      called_under_keeps (OfGuard (length s.groups)) ctx proc vals (TryBody (length s.groups)) _ (k.change s _ refl refl p)

  left_by_guard_keeps : (kind : GuardMode) (m : ℕ) (s : State) → P s → P (group.left_by_guard kind m s)
  left_by_guard_keeps mode.Drop m s p = p
  left_by_guard_keeps mode.Raise m s p = attach_keeps m s p

  guard_decided_keeps : (kind : GuardMode) (m g : ℕ) (s : State) → P s → P (group.guard_decided kind m g s)
  guard_decided_keeps kind m g s p = left_by_guard_keeps kind m _ (k.change s (group.decided g s) refl refl p)

  guard_catches_keeps : (q : Purpose) (b : Bool) (g : ℕ) (e : ℤ) (s : State) → P s → P (group.guard_catches q b g e s)
  guard_catches_keeps (ForGuard ctx m kind c) false g e s p =
      called_keeps ctx c.proc (Num e ∷ c.vals) (To c.to) (group.guard_decided kind m g s) (guard_decided_keeps kind m g s p)
  guard_catches_keeps (ForGuard ctx m kind c) true g e s p = k.note (entry.Rest e) s tt p
  guard_catches_keeps (ForAll c) b g e s p = p
  guard_catches_keeps (ForAny ds r) b g e s p = p
  guard_catches_keeps (ForChoice choices vals r) b g e s p = p

  guard_filled_keeps : (q : Purpose) (b : Bool) (g : ℕ) (v : ℤ) (s : State) → P s → P (group.guard_filled q b g v s)
  guard_filled_keeps (ForGuard ctx m kind c) false g v s p = fill_keeps c.to v _ (guard_decided_keeps kind m g s p)
  guard_filled_keeps (ForGuard ctx m kind c) true g v s p = p
  guard_filled_keeps (ForAll c) b g v s p = p
  guard_filled_keeps (ForAny ds r) b g v s p = p
  guard_filled_keeps (ForChoice choices vals r) b g v s p = p

  guard_waits_keeps : (q : Purpose) (b : Bool) (g i : ℕ) (s : State) → P s → P (group.guard_waits q b g i s)
  guard_waits_keeps (ForGuard ctx m kind c) false g i s p = register_keeps i ctx (TryDone g) s tt p
  guard_waits_keeps (ForGuard ctx m kind c) true g i s p = p
  guard_waits_keeps (ForAll c) b g i s p = p
  guard_waits_keeps (ForAny ds r) b g i s p = p
  guard_waits_keeps (ForChoice choices vals r) b g i s p = p

  pub try_done_keeps : (g : ℕ) (v : ℤ) (s : State) → P s → P (group.try_done g v s)
  try_done_keeps g v s p = guard_filled_keeps (group.purpose_at g s) (group.group_at g s).decided g v s p

  pub try_waits_keeps : (g i : ℕ) (s : State) → P s → P (group.try_waits g i s)
  try_waits_keeps g i s p = guard_waits_keeps (group.purpose_at g s) (group.group_at g s).decided g i s p

  -- ---- throttles
  body_called_keeps : (b : BodyId) (body : Body) (s : State) → P s → P (throttles.body_called b body s)
  body_called_keeps b body s p =
      called_under_keeps (OfBody b) body.ctx body.call.proc body.call.vals (ThrottleBody b) _ (k.change s _ refl refl p)

  front_called_keeps : (t : ℕ) (o : Option (ℕ × Body)) (s : State) → P s → P (throttles.front_called t o s)
  front_called_keeps t None s p = p
  front_called_keeps t (Some front) s p = body_called_keeps _ front.1 s p

  body_placed_keeps : (x : Enqueued Body) (t : ℕ) (s : State) → P s → P (throttles.body_placed x t s)
  body_placed_keeps (placed.Start n body) t s p = body_called_keeps _ body s p
  body_placed_keeps (placed.Waits n) t s p = p

  pub body_enqueued_keeps : (t : ℕ) (body : Body) (s : State) → P s → P (throttles.body_enqueued t body s)
  body_enqueued_keeps t body s p =
      body_placed_keeps (throttle.placed body (throttles.throttle_at t s)) t
      (throttles.with_throttle_at t (throttle.enqueued body (throttles.throttle_at t s)) s) (k.change s _ refl refl p)

  marks_filled_keeps : (t : ℕ) (s : State) → P s → P (throttles.marks_filled t s)
  marks_filled_keeps t s p =
      fold_keeps throttles.mark_filled (λ u mark q. fill_keeps mark.ivar (pos 0) u q)
      (throttle.satisfied_marks (throttles.throttle_at t s)) _ (k.change s _ refl refl p)

  pub done_awaited_keeps : (t i : ℕ) (s : State) → P s → P (throttles.done_awaited t i s)
  done_awaited_keeps t i s p =
      filled_where_keeps (throttle.is_done (throttles.throttle_at t s)) i _ (k.change s _ refl refl p)

  body_left_keeps : (b : BodyId) (s : State) → P s → P (throttles.body_left b s)
  body_left_keeps b s p =
      let x : throttle.Throttle Body = throttles.throttle_at b.throttle s
      in let after : State = throttles.with_throttle_at b.throttle (throttle.after_end b.no x) s
      in front_called_keeps b.throttle (throttle.started_by_end b.no x) after (k.change s after refl refl p)

  ended_at_keeps : (f : Fate) (b : BodyId) (v : ℤ) (s : State) → P s → P (throttles.ended_at f b v s)
  ended_at_keeps Undecided b v s p =
      let over : State = throttles.with_fate Over b s
      in let full : State = fill (throttles.started_at b s).to v over
      in marks_filled_keeps b.throttle (throttles.body_left b full)
      (body_left_keeps b full (fill_keeps (throttles.started_at b s).to v over (k.change s over refl refl p)))
  ended_at_keeps Failing b v s p = p
  ended_at_keeps Over b v s p = p

  pub body_ended_keeps : (b : BodyId) (v : ℤ) (s : State) → P s → P (throttles.body_ended b v s)
  body_ended_keeps b v s p = ended_at_keeps (throttles.started_at b s).fate b v s p

  waits_at_keeps : (f : Fate) (b : BodyId) (i : ℕ) (s : State) → P s → P (throttles.waits_at f b i s)
  waits_at_keeps Undecided b i s p = register_keeps i (throttles.started_at b s).ctx (BodyDone b) s tt p
  waits_at_keeps Failing b i s p = p
  waits_at_keeps Over b i s p = p

  pub body_waits_keeps : (b : BodyId) (i : ℕ) (s : State) → P s → P (throttles.body_waits b i s)
  body_waits_keeps b i s p = waits_at_keeps (throttles.started_at b s).fate b i s p

  acts_at_keeps : (f : Fate) (b : BodyId) (e : ℤ) (s : State) → P s → P (throttles.acts_at f b e s)
  acts_at_keeps Undecided b e s p =
      let failing : State = throttles.with_fate Failing b s
      in k.enq (throttles.started_at b s).ctx (plain_task (BodyFailed b e)) failing tt (k.change s failing refl refl p)
  acts_at_keeps Failing b e s p = k.note (entry.Rest e) s tt p
  acts_at_keeps Over b e s p = k.note (entry.Rest e) s tt p

  drops_raised_keeps : (t : ℕ) (s : State) → P s → P (throttles.drops_raised t s)
  drops_raised_keeps t s p =
      fold_keeps throttles.drop_raised (λ u body q. k.enq body.ctx (plain_task (Raise throttles.dropped_error)) u tt q) (throttles.throttle_at t s).dropped _
      (k.change s _ refl refl p)

  body_lost_keeps : (b : BodyId) (s : State) → P s → P (throttles.body_lost b s)
  body_lost_keeps b s p =
      let x : throttle.Throttle Body = throttles.throttle_at b.throttle s
      in let after : State = throttles.with_throttle_at b.throttle (throttle.after_failure b.no x) s
      in let started : State = throttles.front_called b.throttle (throttle.started_by_failure b.no x) after
      in marks_filled_keeps b.throttle (throttles.drops_raised b.throttle started)
      (drops_raised_keeps b.throttle started
      (front_called_keeps b.throttle (throttle.started_by_failure b.no x) after (k.change s after refl refl p)))

  failed_at_keeps : (f : Fate) (b : BodyId) (s : State) → P s → P (throttles.failed_at f b s)
  failed_at_keeps Undecided b s p = p
  failed_at_keeps Failing b s p = body_lost_keeps b (throttles.with_fate Over b s) (k.change s (throttles.with_fate Over b s) refl refl p)
  failed_at_keeps Over b s p = p

  pub body_failed_keeps : (b : BodyId) (s : State) → P s → P (throttles.body_failed b s)
  body_failed_keeps b s p = failed_at_keeps (throttles.started_at b s).fate b s p

  -- ---- pipes
  taken_by_keeps : (o : Option Read) (v : ℤ) (s : State) → P s → P (pipes.taken_by o v s)
  taken_by_keeps None v s p = p
  taken_by_keeps (Some r) v s p = called_keeps r.ctx _ _ _ s p

  -- where the pipe stands as it is then
  pub put_keeps : (i : ℕ) (v : ℤ) (s : State) → P (pipes.with_pipe_at i (pipe.put v (pipes.pipe_at i s)) s) → P (pipes.put i v s)
  put_keeps i v s p = taken_by_keeps (pipe.taker_of (pipes.pipe_at i s)) v _ p

  pub write_keeps : (i r : ℕ) (v : ℤ) (s : State) → P (pipes.with_pipe_at i (pipe.after_write v r (pipes.pipe_at i s)) s) → P (pipes.write i r v s)
  write_keeps i r v s p =
      let x : pipe.Pipe Read = pipes.pipe_at i s
      in let after : State = pipes.with_pipe_at i (pipe.after_write v r x) s
      in filled_where_keeps (pipe.is_free (pipe.put v x)) r (pipes.taken_by (pipe.taker_of x) v after)
      (taken_by_keeps (pipe.taker_of x) v after p)

  -- a pipe of the same tally
  same_tally_keeps : (i : ℕ) (x : pipe.Pipe Read) (s : State) → tally_of x ≡ tally_of (pipes.pipe_at i s) → P s → P (pipes.with_pipe_at i x s)
  same_tally_keeps i x s e p = k.change s _ refl (map-set_same tally_of s.pipes i x (pipe.fresh_pipe 0) e) p

  pushbacks_freed_keeps : (i : ℕ) (s : State) → P s → P (pipes.pushbacks_freed i s)
  pushbacks_freed_keeps i s p =
      let x : pipe.Pipe Read = pipes.pipe_at i s
      in fold_keeps (filled_with (pos 0)) (λ u r q. fill_keeps r (pos 0) u q) (pipe.freed_pushbacks x) _
      (same_tally_keeps i (pipe.without_freed x) s (tally_freed x) p)

  flushes_settled_keeps : (i : ℕ) (s : State) → P s → P (pipes.flushes_settled i s)
  flushes_settled_keeps i s p =
      let x : pipe.Pipe Read = pipes.pipe_at i s
      in fold_keeps (pipes.flush_filled x) (λ u flush q. fill_keeps flush.ivar _ u q) (pipe.settled_flushes x) _
      (same_tally_keeps i (pipe.without_settled x) s refl p)

  got_keeps : (x : Got Read) (i : ℕ) (s : State) → P s → P (pipes.got_for x i s)
  got_keeps (Item v r) i s p =
      let freed : State = pipes.pushbacks_freed i s
      in called_keeps r.ctx r.item.proc (Num v ∷ r.item.vals) (To r.item.to) (pipes.flushes_settled i freed)
      (flushes_settled_keeps i freed (pushbacks_freed_keeps i s p))
  got_keeps (Eof r) i s p = called_keeps r.ctx r.eof.proc r.eof.vals (To r.eof.to) s p
  got_keeps Waits i s p = p

  pub read_keeps : (i : ℕ) (r : Read) (s : State) → P (pipes.with_pipe_at i (pipe.after_read r (pipes.pipe_at i s)) s) → P (pipes.read i r s)
  read_keeps i r s p = got_keeps (pipe.got r (pipes.pipe_at i s)) i (pipes.with_pipe_at i (pipe.after_read r (pipes.pipe_at i s)) s) p

  eofs_called_keeps : (i : ℕ) (s : State) → P s → P (pipes.eofs_called i s)
  eofs_called_keeps i s p =
      let x : pipe.Pipe Read = pipes.pipe_at i s
      in fold_keeps pipes.eof_called (λ u r q. called_keeps r.ctx _ _ _ u q) x.owed _ (same_tally_keeps i (pipe.without_owed x) s refl p)

  pub close_keeps : (i : ℕ) (s : State) → P (pipes.with_pipe_at i (pipe.after_close (pipes.pipe_at i s)) s) → P (pipes.close i s)
  close_keeps i s p = eofs_called_keeps i _ p

  pub close_read_keeps : (i : ℕ) (s : State) → P (pipes.with_pipe_at i (pipe.after_close_read (pipes.pipe_at i s)) s) → P (pipes.close_read i s)
  close_read_keeps i s p =
      let after : State = pipes.with_pipe_at i (pipe.after_close_read (pipes.pipe_at i s)) s
      in let freed : State = pipes.pushbacks_freed i after
      in eofs_called_keeps i (pipes.flushes_settled i freed) (flushes_settled_keeps i freed (pushbacks_freed_keeps i after p))

  learned_keeps : (o : Option ℤ) (r : ℕ) (s : State) → P s → P (pipes.learned o r s)
  learned_keeps (Some v) r s p = fill_keeps r v s p
  learned_keeps None r s p = p

  pub flushed_keeps : (i r : ℕ) (s : State) → P s → P (pipes.flushed i r s)
  flushed_keeps i r s p =
      let x : pipe.Pipe Read = pipes.pipe_at i s
      in learned_keeps (pipe.flushed_at_once x) r (pipes.with_pipe_at i (pipe.after_flushed r x) s)
      (same_tally_keeps i (pipe.after_flushed r x) s (tally_flushed r x) p)

  -- ---- alarms
  aborted_at_keeps : (o : Option Alarm) (s : State) → P s → P (alarms.aborted_at o s)
  aborted_at_keeps None s p = p
  aborted_at_keeps (Some alarm) s p = fill_keeps alarm.ivar (pos 1) _ (k.change s _ refl refl p)

  pub abort_keeps : (e : ℕ) (s : State) → P s → P (alarms.abort e s)
  abort_keeps e s p = aborted_at_keeps (clock.alarm_of e s.clock) s p

  pub yields_filled_keeps : (s : State) → P s → P (alarms.yields_filled s)
  yields_filled_keeps s p =
      fold_keeps (filled_with (pos 0)) (λ u r q. fill_keeps r (pos 0) u q) s.clock.yields _ (k.change s _ refl refl p)

  pub alarms_filled_keeps : (s : State) → P s → P (alarms.alarms_filled s)
  alarms_filled_keeps s p =
      fold_keeps alarms.alarm_filled (λ u alarm q. fill_keeps alarm.ivar (pos 0) u q) (clock.due_alarms s.clock) _
      (k.change s _ refl refl p)

  -- ---- errors
  next_errors_keeps : (e : ℤ) (s : State) (m : ℕ) → P s → P (next_errors_filled e s m)
  next_errors_keeps e s m p =
      fold_keeps (filled_with e) (λ u r q. fill_keeps r e u q) (monitor_in s.monitors m).next_errors _ (k.change s _ refl refl p)

  acted_keeps : (e : ℤ) (ctx : Ctx) (h : Handler) (s : State) → P s → P (acted e ctx h s)
  acted_keeps e ctx (OnError proc vals) s p = called_keeps ctx proc (Num e ∷ vals) Drop s p
  acted_keeps e ctx (OfGuard g) s p = guard_catches_keeps (group.purpose_at g s) (group.group_at g s).decided g e s p
  acted_keeps e ctx (OfBody b) s p = acts_at_keeps (throttles.started_at b s).fate b e s p

  handled_keeps : (c : ℕ) (e : ℤ) (s : State) → P s → P (handled c e s)
  handled_keeps c e s p =
      fold_keeps (handler_acts e) (λ u h q. acted_keeps e h.0 h.1 u q) (monitor_in s.monitors c).handlers s p

  caught_at_keeps : (c : Option ℕ) (m : ℕ) (e : ℤ) (s : State) → P s → AfterHas P (caught_at c m e s).flow (caught_at c m e s).state
  caught_at_keeps None m e s p =
      record { before = noting (entry.Unhandled e) s; why = ending.Unhandled; last = refl; has = k.note (entry.Unhandled e) s tt p }
  caught_at_keeps (Some c) m e s p =
      handled_keeps c e _
      (fold_keeps (next_errors_filled e) (λ u n q. next_errors_keeps e u n q) (up_to c (path s.monitors m)) _ (k.note (entry.Caught c) s tt p))

  pub send_keeps : (m : ℕ) (e : ℤ) (s : State) → P s → AfterHas P (send m e s).flow (send m e s).state
  send_keeps m e s p = caught_at_keeps (catcher s.monitors m) m e _ (k.note (entry.Error e m) s tt p)

  pub stopped_keeps : (s : State) → P s → AfterHas P (stopped s).flow (stopped s).state
  stopped_keeps s p = record { before = s; why = ending.Stopped; last = refl; has = p }
