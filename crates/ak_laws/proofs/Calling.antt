-- A read that gets a number is called with it, by the statement at which it gets it.
use Rattle.std.proofs.Common.{ℕ, ℤ, ◌+◌, ◌≤◌, ◌≡◌, ◌⊎◌, inl, inr, List, [], ◌∷◌, ◌++◌, length, Bool, true, false, ◌&&◌, Option, Some, None}
use Rattle.std.proofs.Common.{refl, sym, subst, ◌∙◌, arith, fold}
use Rattle.std.specs.Prelude.{pos, if◌then◌else◌, ◌==◌, nat_lt}
use Rattle.std.specs.List.{Contains, AllByRecursion}
use Rattle.std.proofs.lemmas.Bool.{true≢false, eqb-true}
use Rattle.std.proofs.lemmas.List.Elements.{Contains-append_left, Contains-append_right, Contains-append_cases}
use Rattle.ak_base.specs.declared.number.Ctx.{Ctx}
use Rattle.ak_base.specs.Lists.{first_of}
use Rattle.ak_cells.specs.declared.registration.Registration.{Registration}
use Rattle.ak_cells.specs.Cells.{filled, waiting_on}
use Rattle.ak_rings.specs.declared.job.Job.{Job}
use Rattle.ak_rings.specs.Queues.{Queues}
use Rattle.ak_frames.specs.declared.value.Value.{Value}
use Rattle.ak_frames.specs.declared.value.Value.TheVariants.{Num}
use Rattle.ak_frames.specs.declared.frame.Ret.TheVariants.{To}
use Rattle.ak_frames.specs.declared.frame.Frame.{Frame}
use Rattle.ak_frames.specs.declared.frame.Frame.TheVariants.{Call}
use Rattle.ak_frames.specs.declared.frame.Task.{Task}
use Rattle.ak_trace.specs.declared.entry.Entry.TheVariants as entry
use Rattle.ak_program.specs.declared.statement.NumStmt.{NumStmt}
use Rattle.ak_program.specs.declared.statement.NumStmt.TheVariants as stmt
use Rattle.ak_pipe.specs.declared.flush.Flush.{Flush}
use Rattle.ak_pipe.specs.Pipe as pipe
use Rattle.ak_machine.specs.declared.held.Read.{Read}
use Rattle.ak_machine.specs.State.{State, next_ivar}
use Rattle.ak_machine.specs.Deferred.{noting, plain_task, enqueue, with_ivar, number_at, fill, fill_at, filled_where, filled_with, woken_by}
use Rattle.ak_machine.specs.Pipes.{pipe_at, with_pipe_at, item_called, taken_by, put, write, pushbacks_freed, flushes_settled, flush_filled, got_for, read}
use Rattle.ak_machine.specs.Effect.{Goes, Raises, name_in, number_in, closed_pipe, result_bound}
use Rattle.ak_ledger.specs.Tallies.{proc_of}
use Rattle.ak_laws.specs.Executed.{left_by, statement_executed}
use Rattle.ak_laws.specs.Reads.{is_meant, is_open, served, front_taken, taken, IsCalled, AreCalled}
use Rattle.ak_laws.proofs.Told.{Gets, closed_same}

-- ---- the queues
-- a job that is put in is there, and those that were there are there still
module _ (ctx : Ctx) (task : Task) (q : Queues Task) where
  abbrev new_job : Job Task
  new_job = record { no = q.next; ctx = ctx; frame = task }

  abbrev put_in : Bool → Queues Task
  put_in low = if low then record q { low = q.low ++ new_job ∷ []; next = q.next + 1 } else record q { normal = q.normal ++ new_job ∷ []; next = q.next + 1 }

  new_waits : (low : Bool) → Contains ((put_in low).normal ++ (put_in low).low) new_job
  new_waits true =
      Contains-append_right q.normal (q.low ++ new_job ∷ []) new_job (Contains-append_right q.low (new_job ∷ []) new_job (0, omega arith, refl))
  new_waits false =
      Contains-append_left (q.normal ++ new_job ∷ []) q.low new_job (Contains-append_right q.normal (new_job ∷ []) new_job (0, omega arith, refl))

  still_waits : (low : Bool) (job : Job Task) → Contains (q.normal ++ q.low) job → Contains ((put_in low).normal ++ (put_in low).low) job
  still_waits low job h = by low (Contains-append_cases q.normal q.low job h)
    where
      by : (b : Bool) → Contains q.normal job ⊎ Contains q.low job → Contains ((put_in b).normal ++ (put_in b).low) job
      by true (inl k) = Contains-append_left q.normal (q.low ++ new_job ∷ []) job k
      by true (inr k) = Contains-append_right q.normal (q.low ++ new_job ∷ []) job (Contains-append_left q.low (new_job ∷ []) job k)
      by false (inl k) = Contains-append_left (q.normal ++ new_job ∷ []) q.low job (Contains-append_left q.normal (new_job ∷ []) job k)
      by false (inr k) = Contains-append_right (q.normal ++ new_job ∷ []) q.low job k

  next_of : (low : Bool) → (put_in low).next ≡ q.next + 1
  next_of true = refl
  next_of false = refl

-- ---- a state
module _ (before : State) where
  -- no job went back
  abbrev IsLater : State → Type 0
  IsLater s = before.queues.next ≤ s.queues.next

  enqueue_later : (ctx : Ctx) (task : Task) (s : State) → IsLater s → IsLater (enqueue ctx task s)
  enqueue_later ctx task s h = omega (arith, h, next_of ctx task s.queues ctx.low)

  woken_later : (v : ℤ) (gs : List (Registration Frame)) (s : State) → IsLater s → IsLater (fold (woken_by v) s gs)
  woken_later v [] s h = h
  woken_later v (g ∷ gs) s h = woken_later v gs (woken_by v s g) (enqueue_later g.ctx _ s h)

  fill_at_later : (o : Option ℤ) (i : ℕ) (v : ℤ) (s : State) → IsLater s → IsLater (fill_at o i v s)
  fill_at_later (Some w) i v s h = h
  fill_at_later None i v s h = woken_later v (waiting_on i s.cells) (noting (entry.Fill i v) (record s { cells = filled i v s.cells })) h

  fill_later : (i : ℕ) (v : ℤ) (s : State) → IsLater s → IsLater (fill i v s)
  fill_later i v s h = fill_at_later (number_at i s) i v s h

  freed_later : (is : List ℕ) (s : State) → IsLater s → IsLater (fold (filled_with (pos 0)) s is)
  freed_later [] s h = h
  freed_later (i ∷ is) s h = freed_later is (fill i (pos 0) s) (fill_later i (pos 0) s h)

  settled_later : (x : pipe.Pipe Read) (fs : List Flush) (s : State) → IsLater s → IsLater (fold (flush_filled x) s fs)
  settled_later x [] s h = h
  settled_later x (f ∷ fs) s h = settled_later x fs (flush_filled x s f) (fill_later f.ivar (pipe.flush_number x f) s h)

  -- a read is called
  item_is_called : (r : Read) (v : ℤ) (s : State) → IsLater s → IsCalled before (item_called r v s) (proc_of r, v)
  item_is_called r v s h =
      let task : Task = plain_task (Call r.item.proc (Num v ∷ r.item.vals) (To r.item.to))
      in record {
        job = new_job r.ctx task s.queues;
        vals = r.item.vals;
        ret = To r.item.to;
        waits = new_waits r.ctx task s.queues r.ctx.low;
        is_new = h;
        calls = refl;
      }

  -- and waits on
  called_still : (ctx : Ctx) (task : Task) (s : State) (got : Gets) → IsCalled before s got → IsCalled before (enqueue ctx task s) got
  called_still ctx task s got h = record {
    job = h.job;
    vals = h.vals;
    ret = h.ret;
    waits = still_waits ctx task s.queues ctx.low h.job h.waits;
    is_new = h.is_new;
    calls = h.calls;
  }

  called_woken : (v : ℤ) (gs : List (Registration Frame)) (s : State) (got : Gets) → IsCalled before s got → IsCalled before (fold (woken_by v) s gs) got
  called_woken v [] s got h = h
  called_woken v (g ∷ gs) s got h = called_woken v gs (woken_by v s g) got (called_still g.ctx _ s got h)

  called_filled : (o : Option ℤ) (i : ℕ) (v : ℤ) (s : State) (got : Gets) → IsCalled before s got → IsCalled before (fill_at o i v s) got
  called_filled (Some w) i v s got h = h
  called_filled None i v s got h =
      called_woken v (waiting_on i s.cells) (noting (entry.Fill i v) (record s { cells = filled i v s.cells })) got
      (record { job = h.job; vals = h.vals; ret = h.ret; waits = h.waits; is_new = h.is_new; calls = h.calls })

  called_where : (b : Bool) (i : ℕ) (s : State) (got : Gets) → IsCalled before s got → IsCalled before (filled_where b i s) got
  called_where true i s got h = called_filled (number_at i s) i (pos 0) s got h
  called_where false i s got h = h

  abbrev AllCalled : List Gets → State → Type 0
  AllCalled g s = AllByRecursion (IsCalled before s) g

  -- ---- a write
  taker_called : (reads : List Read) (v : ℤ) (s : State) → IsLater s → AllCalled (served reads v) (taken_by (first_of reads) v s)
  taker_called [] v s h = tt
  taker_called (r ∷ reads) v s h = (item_is_called r v s h, tt)

  all_where : (b : Bool) (i : ℕ) (g : List Gets) (s : State) → AllCalled g s → AllCalled g (filled_where b i s)
  all_where b i [] s h = tt
  all_where b i (got ∷ g) s h = (called_where b i s got h.0, all_where b i g s h.1)

  -- ---- a read
  front_called : (r : Read) (items : List ℤ) (closed : Bool) (p : ℕ) (s : State) → IsLater s
      → AllCalled (front_taken (proc_of r) items) (got_for (pipe.got_from items closed r) p s)
  front_called r [] closed p s h = tt
  front_called r (v ∷ items) closed p s h = (item_is_called r v (flushes_settled p (pushbacks_freed p s)) (settled (pushbacks_freed p s) (freed s h)), tt)
    where
      freed : (u : State) → IsLater u → IsLater (pushbacks_freed p u)
      freed u k = freed_later (pipe.freed_pushbacks (pipe_at p u)) (with_pipe_at p (pipe.without_freed (pipe_at p u)) u) k

      settled : (u : State) → IsLater u → IsLater (flushes_settled p u)
      settled u k =
          settled_later (pipe_at p u) (pipe.settled_flushes (pipe_at p u)) (with_pipe_at p (pipe.without_settled (pipe_at p u)) u) k

-- ---- a statement
module _ (p : ℕ) where
  -- what holds of the pipe that is named, holds of the one that is meant
  meant_all : (q : ℕ) (s : State) (P : Gets → Type 0) (g : ℕ → List Gets) → AllByRecursion P (g q) → AllByRecursion P (if is_meant p q s then g p else [])
  meant_all q s P g h = by (q == p) (nat_lt p (length s.pipes)) refl
    where
      by : (b c : Bool) → (q == p) ≡ b → AllByRecursion P (if b && c then g p else [])
      by true true e = subst (λ n. AllByRecursion P (g n)) (eqb-true q p e) h
      by true false e = tt
      by false c e = tt

  open_all : (q : ℕ) (s : State) (P : Gets → Type 0) (g : ℕ → List Gets) (b : Bool) → (pipe_at q s).closed ≡ b
      → (b ≡ false → AllByRecursion P (g q)) → AllByRecursion P (if is_open p q s then g p else [])
  open_all q s P g true e h = subst (λ c. AllByRecursion P (if c then g p else [])) (shut (is_meant p q s) ∙ sym (closed_same p q s true e)) tt
    where
      shut : (c : Bool) → false ≡ (c && false)
      shut true = refl
      shut false = refl
  open_all q s P g false e h =
      subst (λ c. AllByRecursion P (if c then g p else [])) (same (is_meant p q s) ∙ sym (closed_same p q s false e)) (meant_all q s P g (h refl))
    where
      same : (c : Bool) → c ≡ (c && true)
      same true = refl
      same false = refl

  put_called : (q : ℕ) (v : ℤ) (s : State) (vals : List Value) (b : Bool) → (pipe_at q s).closed ≡ b
      → AllCalled s (taken p q v s) (left_by s (if b then Raises closed_pipe else Goes (put q v s) vals))
  put_called q v s vals true e = open_all q s (IsCalled s s) (λ n. served (pipe_at n s).reads v) true e (λ f. absurd (true≢false f))
  put_called q v s vals false e =
      open_all q s (IsCalled s (put q v s)) (λ n. served (pipe_at n s).reads v) false e
      (λ f. taker_called s (pipe_at q s).reads v (with_pipe_at q (pipe.put v (pipe_at q s)) s) (omega arith))

  write_called : (q : ℕ) (v : ℤ) (s : State) (vals : List Value) (b : Bool) → (pipe_at q s).closed ≡ b
      → AllCalled s (taken p q v s)
      (left_by s (if b then Raises closed_pipe else Goes (write q (next_ivar s) v (with_ivar s)) (result_bound s vals)))
  write_called q v s vals true e = open_all q s (IsCalled s s) (λ n. served (pipe_at n s).reads v) true e (λ f. absurd (true≢false f))
  write_called q v s vals false e =
      let x : pipe.Pipe Read = pipe_at q s
      in let after : State = with_pipe_at q (pipe.after_write v (next_ivar s) x) (with_ivar s)
      in open_all q s (IsCalled s (write q (next_ivar s) v (with_ivar s))) (λ n. served (pipe_at n s).reads v) false e
      (λ f. all_where s (pipe.is_free (pipe.put v x)) (next_ivar s) (served x.reads v) (taken_by (pipe.taker_of x) v after)
      (taker_called s x.reads v after (omega arith)))

  read_called : (q : ℕ) (r : Read) (s : State)
      → AllCalled s (if is_meant p q s then front_taken (proc_of r) (pipe.items_of (pipe_at p s)) else []) (read q r (with_ivar s))
  read_called q r s =
      let x : pipe.Pipe Read = pipe_at q s
      in meant_all q s (IsCalled s (read q r (with_ivar s))) (λ n. front_taken (proc_of r) (pipe.items_of (pipe_at n s)))
      (front_called s r (pipe.items_of x) x.closed q (with_pipe_at q (pipe.after_read r x) (with_ivar s)) (omega arith))

  pub statement_called : (ctx : Ctx) (st : NumStmt) (s : State) (vals : List Value) → AreCalled p (statement_executed ctx st s vals)
  statement_called ctx (stmt.Write r q a) s vals = write_called (name_in vals q) (number_in vals a) s vals (pipe_at (name_in vals q) s).closed refl
  statement_called ctx (stmt.Put q a) s vals = put_called (name_in vals q) (number_in vals a) s vals (pipe_at (name_in vals q) s).closed refl
  statement_called ctx (stmt.Read r q proc args eof eof_args) s vals = read_called (name_in vals q) _ s
  statement_called ctx st s vals = tt
