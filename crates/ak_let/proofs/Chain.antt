-- What an answer, an error and a call do to the chain of callers.
use Rattle.std.proofs.Common.{ℕ, ℤ, suc, ◌<◌, ◌≤◌, ◌≡◌, inl, inr, List, [], ◌∷◌, ◌++◌, length, false, Option, Some, None, refl, ap, sym, ◌∙◌, subst, arith, append-nil, append_assoc, fold, filter_map}
use Rattle.std.proofs.lemmas.List.Elements.{filter_map-append}
use Rattle.ak_labor.specs.declared.work.Work.{Work}
use Rattle.ak_labor.specs.declared.work.WorkKind.{WorkKind}
use Rattle.ak_frames.specs.declared.value.Value.TheVariants.{Num, Ivar}
use Rattle.ak_frames.specs.declared.frame.Ret.TheVariants.{Drop}
use Rattle.ak_frames.specs.declared.frame.Frame.{Frame}
use Rattle.ak_frames.specs.declared.frame.Frame.TheVariants.{Call, OnValue}
use Rattle.ak_frames.specs.declared.frame.Task.{Task}
use Rattle.ak_trace.specs.declared.entry.Entry.{Entry}
use Rattle.ak_trace.specs.declared.entry.Entry.TheVariants as entry
use Rattle.ak_trace.specs.declared.entry.Ending.TheVariants as ending
use Rattle.ak_rings.specs.declared.job.Job.{Job}
use Rattle.ak_cells.specs.Cells.{Cells, number_in, waiting_on, filled}
use Rattle.ak_monitor.specs.Monitors.{Monitor, monitor_in, without_next_errors, catcher}
use Rattle.ak_machine.specs.declared.flow.Flow.TheVariants as flow
use Rattle.ak_machine.specs.declared.held.Handler.{Handler}
use Rattle.ak_machine.specs.State.{State}
use Rattle.ak_machine.specs.Deferred.{noting, plain_task, woken_task, enqueue, called, fill, fill_at, woken_by, filled_with}
use Rattle.ak_machine.specs.Errors.{After, going_on, send, caught_at, next_errors_filled, handled, handler_acts}
use Rattle.ak_let.specs.Eval as source
use Rattle.ak_let.specs.Eval.{Caller, Walk, Walked, answered, thrown, caught, walk_on, fun_lines}
use Rattle.ak_let.specs.Correct.{Callable, Told, prints_of, works_of, printed_in, work_in}
use Rattle.ak_let.proofs.Cells.{fill_other, number_filled, ivars_filled}
use Rattle.ak_let.proofs.Levels.{catches, way_up, root_catches_none, none_taken}
use Rattle.ak_let.proofs.Related.{Target, IsTarget, ctx_at, piece_vals, Level, Guards, Linked, Calm, Within, Ready, Left, weight, weight_of}

-- ---- the trace
pub told_quiet : (trace : List Entry) (e : Entry) (ps : List ℤ) (ws : List Work) → filter_map printed_in (e ∷ []) ≡ [] → filter_map work_in (e ∷ []) ≡ []
    → Told trace ps ws → Told (trace ++ e ∷ []) ps ws
told_quiet trace e ps ws p q h =
    record {
      prints_are = filter_map-append printed_in trace (e ∷ []) ∙ ap (λ l. prints_of trace ++ l) p ∙ append-nil (prints_of trace) ∙ h.prints_are;
      works_are = filter_map-append work_in trace (e ∷ []) ∙ ap (λ l. works_of trace ++ l) q ∙ append-nil (works_of trace) ∙ h.works_are;
    }

pub told_print : (trace : List Entry) (z : ℤ) (ps : List ℤ) (ws : List Work) → Told trace ps ws → Told (trace ++ entry.Print z ∷ []) (ps ++ z ∷ []) (ws ++ [])
told_print trace z ps ws h =
    record {
      prints_are = filter_map-append printed_in trace (entry.Print z ∷ []) ∙ ap (λ l. l ++ z ∷ []) h.prints_are;
      works_are = filter_map-append work_in trace (entry.Print z ∷ []) ∙ ap (λ l. l ++ []) h.works_are;
    }

pub told_submit : (trace : List Entry) (w : ℕ) (kind : WorkKind) (z : ℤ) (ps : List ℤ) (ws : List Work) → Told trace ps ws
    → Told (trace ++ entry.Submit w kind z ∷ []) (ps ++ []) (ws ++ record { kind = kind; num = z } ∷ [])
told_submit trace w kind z ps ws h =
    record {
      prints_are = filter_map-append printed_in trace (entry.Submit w kind z ∷ []) ∙ ap (λ l. l ++ []) h.prints_are;
      works_are = filter_map-append work_in trace (entry.Submit w kind z ∷ []) ∙ ap (λ l. l ++ record { kind = kind; num = z } ∷ []) h.works_are;
    }

pub told_same : (trace : List Entry) (ps : List ℤ) (ws : List Work) → Told trace ps ws → Told trace (ps ++ []) (ws ++ [])
told_same trace ps ws h = record { prints_are = h.prints_are ∙ sym (append-nil ps); works_are = h.works_are ∙ sym (append-nil ws) }

-- ---- what leaves the chain as it is
-- ivars below a bound and the monitors that were there are as they were
pub record Keeps (bound : ℕ) (c c' : Cells Frame) (ms ms' : List (Monitor Handler)) : Type 0 where
  pub number : (j : ℕ) → j < bound → number_in j c' ≡ number_in j c
  pub waits : (j : ℕ) → j < bound → waiting_on j c' ≡ waiting_on j c
  pub ivars : length c.ivars ≤ length c'.ivars
  pub monitor : (j : ℕ) → j < length ms → monitor_in ms' j ≡ monitor_in ms j
  pub monitors : length ms ≤ length ms'

level_kept : (t : Target) (bound : ℕ) (c c' : Cells Frame) (ms ms' : List (Monitor Handler)) (r m m' : ℕ) (o : Option ℕ) → Keeps bound c c' ms ms'
    → Level t ms r m m' o → Level t ms' r m m' o
level_kept t bound c c' ms ms' r m m' None k l = l
level_kept t bound c c' ms ms' r m m' (Some g) k l =
    record { below = omega (arith, k.monitors, l.below); is = k.monitor m l.below ∙ l.is; callable = l.callable }

pub linked_kept : (t : Target) (bound : ℕ) (c c' : Cells Frame) (ms ms' : List (Monitor Handler)) → Keeps bound c c' ms ms'
    → (callers : List Caller) (r m : ℕ) → r < bound → Linked t c ms r m callers → Linked t c' ms' r m callers
linked_kept t bound c c' ms ms' k [] r m h l =
    record {
      empty = k.number r h ∙ l.empty;
      none = k.waits r h ∙ l.none;
      drawn = omega (arith, k.ivars, l.drawn);
      root = l.root;
      there = omega (arith, k.monitors, l.there);
      open_root = ap (λ (x : Monitor Handler). x.detached) (k.monitor 0 l.there) ∙ l.open_root;
    }
linked_kept t bound c c' ms ms' k (x ∷ callers) r m h l =
    let link = l.3
    in let below : l.1 < bound = omega (arith, link.older, h)
    in (
      l.0,
      l.1,
      l.2,
      record {
        empty = k.number r h ∙ link.empty;
        number = link.number;
        waits = k.waits r h ∙ link.waits;
        older = link.older;
        drawn = omega (arith, k.ivars, link.drawn);
        stands = link.stands;
        level = level_kept t bound c c' ms ms' r m l.2 x.catch k link.level;
      },
      linked_kept t bound c c' ms ms' k callers l.1 l.2 below l.4,
    )

pub linked_drawn : (t : Target) (c : Cells Frame) (ms : List (Monitor Handler)) (callers : List Caller) (r m : ℕ) → Linked t c ms r m callers
    → r < length c.ivars
linked_drawn t c ms [] r m l = l.drawn
linked_drawn t c ms (x ∷ callers) r m l = l.3.drawn

-- a fill of the ivar r leaves those below it
keeps_fill : (r : ℕ) (v : ℤ) (c : Cells Frame) (ms : List (Monitor Handler)) → Keeps r c (filled r v c) ms ms
keeps_fill r v c ms =
    record {
      number = λ j h. number_filled r j v c (λ e. omega (arith, e, h));
      waits = λ j h. fill_other r j v c (λ e. omega (arith, e, h));
      ivars = omega (arith, ivars_filled r v c);
      monitor = λ j h. refl;
      monitors = omega arith;
    }

fresh_filled : (r : ℕ) (v : ℤ) (c : Cells Frame) → r < length c.ivars → ((j : ℕ) → length c.ivars ≤ j → waiting_on j c ≡ []) → (j : ℕ)
    → length (filled r v c).ivars ≤ j → waiting_on j (filled r v c) ≡ []
fresh_filled r v c d f j h =
    fill_other r j v c (λ e. omega (arith, e, d, h, ivars_filled r v c)) ∙ f j (omega (arith, h, ivars_filled r v c))

weight_pos : (o : Option ℕ) → 1 ≤ weight_of o
weight_pos None = omega arith
weight_pos (Some g) = omega arith

-- ---- an answer
-- after the fill of an ivar for which these wait
filled_first : ℕ → ℤ → State → State
filled_first r v s = noting (entry.Fill r v) (record s { cells = filled r v s.cells })

pub answers : (t : Target) (s : State) (ps : List ℤ) (ws : List Work) (callers : List Caller) (r m : ℕ) (v : ℤ) (n : ℕ) → Within s ps ws
    → Linked t s.cells s.monitors r m callers → weight callers ≤ n
    → Left t flow.On (fill r v s) (record { walk = answered v callers; prints = ps; works = ws }) n
answers t s ps ws [] r m v n x l h =
    let u : State = noting (entry.Fill r v) (record s { cells = filled r v s.cells })
    in let e : fill r v s ≡ u = ap (λ o. fill_at o r v s) l.empty ∙ ap (λ gs. fold (woken_by v) u gs) l.none
    in subst (λ (z : State). Left t flow.On z (record { walk = source.Over; prints = ps; works = ws }) n) (sym e)
    (inr (record {
      calm = record {
        low = x.calm.low;
        clock = x.calm.clock;
        helpers = x.calm.helpers;
        requests = x.calm.requests;
        left = x.calm.left;
        fresh = fresh_filled r v s.cells l.drawn x.calm.fresh;
      };
      queued = x.queued;
      none_out = x.none_out;
      walk = refl;
      told = told_quiet s.trace (entry.Fill r v) ps ws refl refl x.told;
    }))
answers t s ps ws (k ∷ callers) r m v n x l h =
    let link = l.3
    in let u : State = noting (entry.Fill r v) (record s { cells = filled r v s.cells })
    in let task : Task = woken_task (OnValue l.0 (piece_vals k.locals l.1) Drop) v
    in let job : Job Task = record { no = s.queues.next; ctx = ctx_at l.2; frame = task }
    in let e : fill r v s ≡ enqueue (ctx_at l.2) task u = ap (λ o. fill_at o r v s) link.empty ∙ ap (λ gs. fold (woken_by v) u gs) link.waits
    in subst (λ (z : State). Left t flow.On z (record { walk = walk_on k.lines (v ∷ k.locals) callers; prints = ps; works = ws }) n) (sym e)
    (inl (record {
      job = job;
      place = l.0;
      lines = k.lines;
      locals = v ∷ k.locals;
      callers = callers;
      r = l.1;
      m = l.2;
      calm = record {
        low = x.calm.low;
        clock = x.calm.clock;
        helpers = x.calm.helpers;
        requests = x.calm.requests;
        left = x.calm.left;
        fresh = fresh_filled r v s.cells link.drawn x.calm.fresh;
      };
      queued = ap (λ q. q ++ job ∷ []) x.queued;
      none_out = x.none_out;
      runs = λ u. refl;
      stands = link.stands;
      linked = linked_kept t r s.cells (filled r v s.cells) s.monitors s.monitors (keeps_fill r v s.cells s.monitors) callers l.1 l.2 link.older l.4;
      walk = refl;
      told = told_quiet (s.trace ++ entry.Fill r v ∷ []) (entry.Enq s.queues.next false) ps ws refl refl
          (told_quiet s.trace (entry.Fill r v) ps ws refl refl x.told);
      cost = omega (arith, h, weight_pos k.catch);
    }))

-- ---- a call
-- the job of a call waits
pub call_ready : (t : Target) → IsTarget t → (s : State) (w : Walked) (callers : List Caller) (r m f number n : ℕ) (args : List ℤ)
    → Callable t.source f (length args) → Calm s
    → s.queues.normal ≡ record { no = number; ctx = ctx_at m; frame = plain_task (Call (t.entry f) (piece_vals args r) Drop) } ∷ [] → s.works ≡ []
    → Linked t s.cells s.monitors r m callers → w.walk ≡ source.called t.source f args callers → Told s.trace w.prints w.works → suc (weight callers) ≤ n
    → Ready t s w n
call_ready t is s w callers r m f number n args c calm q o l e told h =
    record {
      job = record { no = number; ctx = ctx_at m; frame = plain_task (Call (t.entry f) (piece_vals args r) Drop) };
      place = t.entry f;
      lines = fun_lines t.source f;
      locals = args;
      callers = callers;
      r = r;
      m = m;
      calm = calm;
      queued = q;
      none_out = o;
      runs = λ u. refl;
      stands = is.funs f (length args) c;
      linked = l;
      walk = e;
      told = told;
      cost = h;
    }

-- ---- an error
-- the one handler of a try takes the error
send_caught : (t : Target) (s : State) (r m m' g : ℕ) (e : ℤ) → Guards t s.monitors r m m' g
    → send m e s ≡ going_on (called (ctx_at m') (t.entry g) (Num e ∷ Ivar r ∷ []) Drop (noting (entry.Caught m) (noting (entry.Error e m) s)))
send_caught t s r m m' g e x =
    let u : State = noting (entry.Error e m) s
    in let v : State = noting (entry.Caught m) u
    in let nothing : without_next_errors m s.monitors ≡ s.monitors = none_taken s.monitors m (ap (λ (y : Monitor Handler). y.next_errors) x.is)
    in let one : next_errors_filled e v m ≡ v =
    ap (λ l. fold (filled_with e) (record v { monitors = without_next_errors m s.monitors }) l) (ap (λ (y : Monitor Handler). y.next_errors) x.is)
    ∙ ap (λ l. record v { monitors = l }) nothing
    in ap (λ o. caught_at o m e u) (catches s.monitors m x.below (ap (λ (y : Monitor Handler). y.detached) x.is))
    ∙ ap (λ l. going_on (handled m e (fold (next_errors_filled e) v l))) (way_up s.monitors m x.below)
    ∙ ap (λ z. going_on (handled m e z)) one
    ∙ ap (λ l. going_on (fold (handler_acts e) v l)) (ap (λ (y : Monitor Handler). y.handlers) x.is)

send_uncaught : (s : State) (m : ℕ) (e : ℤ) → m ≡ 0 → 0 < length s.monitors → (monitor_in s.monitors 0).detached ≡ false
    → send m e s ≡ record { state = noting (entry.End ending.Unhandled) (noting (entry.Unhandled e) (noting (entry.Error e m) s)); flow = flow.Unhandled e }
send_uncaught s m e z h d =
    ap (λ o. caught_at o m e (noting (entry.Error e m) s)) (subst (λ k. catcher s.monitors k ≡ None) (sym z) (root_catches_none s.monitors h d))

abbrev AfterLeft : Target → After → Walked → ℕ → Type 0
AfterLeft t after w n = Left t after.flow after.state w n

pub throws : (t : Target) → IsTarget t → (s : State) (ps : List ℤ) (ws : List Work) (callers : List Caller) (r m : ℕ) (e : ℤ) (n : ℕ) → Within s ps ws
    → Linked t s.cells s.monitors r m callers → weight callers ≤ n
    → Left t (send m e s).flow (send m e s).state (record { walk = thrown t.source e callers; prints = ps; works = ws }) n
throws t is s ps ws [] r m e n x l h =
    subst (λ (z : After). AfterLeft t z (record { walk = source.Raised e; prints = ps; works = ws }) n) (sym (send_uncaught s m e l.root l.there l.open_root))
    (record {
      walk = refl;
      before = s.trace ++ entry.Error e m ∷ [];
      last = append_assoc (s.trace ++ entry.Error e m ∷ []) (entry.Unhandled e ∷ []) (entry.End ending.Unhandled ∷ []);
      told = told_quiet (s.trace ++ entry.Error e m ∷ [] ++ entry.Unhandled e ∷ []) (entry.End ending.Unhandled) ps ws refl refl
          (told_quiet (s.trace ++ entry.Error e m ∷ []) (entry.Unhandled e) ps ws refl refl
          (told_quiet s.trace (entry.Error e m) ps ws refl refl x.told));
    })
throws t is s ps ws (k ∷ callers) r m e n x l h =
    by k.catch refl l.3.level
    (λ n' h' same. subst (λ j. AfterLeft t (send j e s) (record { walk = thrown t.source e callers; prints = ps; works = ws }) n') (sym same)
    (throws t is s ps ws callers l.1 l.2 e n' x l.4 h'))
  where
    by : (o : Option ℕ) → k.catch ≡ o → Level t s.monitors r m l.2 o
        → ((n' : ℕ) → weight callers ≤ n' → m ≡ l.2 → AfterLeft t (send m e s) (record { walk = thrown t.source e callers; prints = ps; works = ws }) n')
        → AfterLeft t (send m e s) (record { walk = caught o t.source e k callers (thrown t.source e callers); prints = ps; works = ws }) n
    by None c level further = further n (omega (arith, h, weight_pos k.catch)) level
    by (Some g) c level further =
        let left : Caller = record k { catch = None }
        in
        subst (λ (z : After). AfterLeft t z (record { walk = source.called t.source g (e ∷ []) (left ∷ callers); prints = ps; works = ws }) n)
        (sym (send_caught t s r m l.2 g e level))
        (inl (call_ready t is (called (ctx_at l.2) (t.entry g) (Num e ∷ Ivar r ∷ []) Drop (noting (entry.Caught m) (noting (entry.Error e m) s)))
        (record { walk = source.called t.source g (e ∷ []) (left ∷ callers); prints = ps; works = ws })
        (left ∷ callers) r l.2 g s.queues.next n (e ∷ []) level.callable
        (record { low = x.calm.low; clock = x.calm.clock; helpers = x.calm.helpers; requests = x.calm.requests; left = x.calm.left; fresh = x.calm.fresh })
        (ap (λ q. q ++ record { no = s.queues.next; ctx = ctx_at l.2; frame = plain_task (Call (t.entry g) (piece_vals (e ∷ []) r) Drop) } ∷ []) x.queued)
        x.none_out (
          l.0,
          l.1,
          l.2,
          record { empty = l.3.empty; number = l.3.number; waits = l.3.waits; older = l.3.older; drawn = l.3.drawn; stands = l.3.stands; level = refl },
          l.4,
        )
        refl
        (told_quiet (s.trace ++ entry.Error e m ∷ [] ++ entry.Caught m ∷ []) (entry.Enq s.queues.next false) ps ws refl refl
        (told_quiet (s.trace ++ entry.Error e m ∷ []) (entry.Caught m) ps ws refl refl
        (told_quiet s.trace (entry.Error e m) ps ws refl refl x.told)))
        (omega (arith, h, ap weight_of c))))
