-- A job that begins with a piece does what the walk does, up to the next await, answer or error.
use Rattle.std.proofs.Common.{ℕ, ℤ, suc, ◌+◌, ◌<◌, ◌≤◌, ◌≡◌, inl, List, [], ◌∷◌, ◌++◌, map, length, false, Some, None, refl, ap, sym, ◌∙◌, subst, arith, append_assoc, length-append}
use Rattle.ak_base.specs.declared.number.Ctx.{Ctx}
use Rattle.ak_labor.specs.declared.work.Work.{Work}
use Rattle.ak_labor.specs.declared.work.WorkKind.{WorkKind}
use Rattle.ak_labor.specs.declared.ask.Ask.TheVariants as ask
use Rattle.ak_frames.specs.declared.value.Value.{Value}
use Rattle.ak_frames.specs.declared.value.Value.TheVariants.{Ivar, Def, Mon}
use Rattle.ak_frames.specs.declared.frame.Ret.{Ret}
use Rattle.ak_frames.specs.declared.frame.Ret.TheVariants.{Drop}
use Rattle.ak_frames.specs.declared.frame.Frame.{Frame}
use Rattle.ak_frames.specs.declared.frame.Frame.TheVariants.{Call, OnValue}
use Rattle.ak_trace.specs.declared.entry.Entry.TheVariants as entry
use Rattle.ak_program.specs.declared.statement.NumAtom.TheVariants.{Local}
use Rattle.ak_program.specs.declared.program.NumStatement.{NumStatement}
use Rattle.ak_cells.specs.Cells.{Cells, with_fresh, with_registration, number_in as cell_number, waiting_on}
use Rattle.ak_monitor.specs.Monitors.{Monitor, monitor_in}
use Rattle.ak_machine.specs.declared.held.Handler.{Handler}
use Rattle.ak_machine.specs.declared.held.Handler.TheVariants.{OnError}
use Rattle.ak_machine.specs.State.{State}
use Rattle.ak_machine.specs.Deferred.{plain_task, called, register, register_at, with_ivar}
use Rattle.ak_machine.specs.Monitors.{with_monitor, detach, handled_by, in_monitor}
use Rattle.ak_machine.specs.Works.{submitted}
use Rattle.ak_machine.specs.Errors.{going_on, stopped, send}
use Rattle.ak_machine.specs.Effect.{Effect, Goes, Raises, Returns, Stops, Ends, Asks, local, name_of, name_in, args_of}
use Rattle.ak_machine.specs.Statement.{work_effect, line_effect}
use Rattle.ak_machine.specs.Job.{Rest, Progress, Over, Asking, run_lines, returned}
use Rattle.ak_let.specs.declared.source.Atom.{Atom}
use Rattle.ak_let.specs.declared.source.Line.{Line}
use Rattle.ak_let.specs.declared.source.Line.TheVariants.{Await, AwaitWork, Try}
use Rattle.ak_let.specs.Eval as source
use Rattle.ak_let.specs.Eval.{Caller, Walk, Walked, value, acts, walk_on, answered, thrown, computed_to, outcome_taken}
use Rattle.ak_let.specs.Compile.{Piece, atom, resumed, written}
use Rattle.ak_let.proofs.Cells.{push_other, push_same, number_fresh, number_older, ivars_fresh}
use Rattle.ak_let.proofs.Levels.{with_guard, guard_length, guard_here, guard_other}
use Rattle.ak_let.proofs.Locals.{Reads, number_reads, answer_now, args_as, kept_as, next_value}
use Rattle.ak_let.proofs.Related.{Target, IsTarget, Stands, Follows, ctx_at, piece_vals, Level, Linked, Within, Leads, RunsTo, IsAt, weight}
use Rattle.ak_let.proofs.Chain.{told_quiet, told_submit, told_same, linked_kept, linked_drawn, call_ready}

-- ---- one line of a job
abbrev pub proceeds : Ctx → Ret → List NumStatement → State → Effect → Progress
proceeds ctx ret lines s (Goes s' vals') = run_lines ctx ret lines s' vals'
proceeds ctx ret lines s (Raises e) = Over (send ctx.mon e s)
proceeds ctx ret lines s (Returns v) = Over (going_on (returned ret v s))
proceeds ctx ret lines s Stops = Over (stopped s)
proceeds ctx ret lines s (Ends after) = Over after
proceeds ctx ret lines s (Asks a s' vals') = Asking a s' (record { ctx = ctx; ret = ret; vals = vals'; lines = lines })

pub run_line : (ctx : Ctx) (ret : Ret) (line : NumStatement) (lines : List NumStatement) (s : State) (vals : List Value)
    → run_lines ctx ret (line ∷ lines) s vals ≡ proceeds ctx ret lines s (line_effect ctx line s vals)
run_line ctx ret line lines s vals = by (line_effect ctx line s vals)
  where
    by : (e : Effect) → elim e [
      | Goes s' vals' ↦ run_lines ctx ret lines s' vals'
      | Raises e ↦ Over (send ctx.mon e s)
      | Returns v ↦ Over (going_on (returned ret v s))
      | Stops ↦ Over (stopped s)
      | Ends after ↦ Over after
      | Asks ask s' vals' ↦ Asking ask s' (record { ctx = ctx; ret = ret; vals = vals'; lines = lines })
    ] ≡ proceeds ctx ret lines s e
    by (Goes s' vals') = refl
    by (Raises e) = refl
    by (Returns v) = refl
    by Stops = refl
    by (Ends after) = refl
    by (Asks a s' vals') = refl

-- ---- counting
pub run_now : (t : Target) (q : Progress) (w : Walked) (base limit n : ℕ) → n ≤ base → Leads t q w n → RunsTo t q w base limit
run_now t q w base limit n h l =
    record { count = 0; spent = n; then = w; steps = refl; few = omega arith; bound = omega (arith, h); leads = l }

pub run_step : (t : Target) (q : Progress) (w : Walked) (base limit : ℕ) → IsAt w.walk → RunsTo t q (source.stepped t.source w) base limit
    → RunsTo t q w base (suc limit)
run_step t q w base limit a x =
    record {
      count = suc x.count;
      spent = x.spent;
      then = x.then;
      steps = (a, x.steps);
      few = omega (arith, x.few);
      bound = omega (arith, x.bound);
      leads = x.leads;
    }

pub run_last : (t : Target) (q : Progress) (w : Walked) (base limit n : ℕ) → IsAt w.walk → n ≤ base + 3 → Leads t q (source.stepped t.source w) n
    → RunsTo t q w base (suc limit)
run_last t q w base limit n a h l =
    record { count = 1; spent = n; then = source.stepped t.source w; steps = (a, refl); few = omega arith; bound = omega (arith, h); leads = l }

-- ---- a caller more
-- a handler on a fresh ivar
upon_fresh : (u : State) (i j : ℕ) (ctx : Ctx) (frame : Frame) → j ≡ i → cell_number i u.cells ≡ None
    → register j ctx frame u ≡ record u { cells = with_registration i ctx frame u.cells }
upon_fresh u i j ctx frame e f = ap (λ k. register k ctx frame u) e ∙ ap (λ o. register_at o i ctx frame u) f

fresh_pushed : (c : Cells Frame) (ctx : Ctx) (frame : Frame) → ((j : ℕ) → length c.ivars ≤ j → waiting_on j c ≡ []) → (j : ℕ)
    → length (with_fresh c).ivars ≤ j → waiting_on j (with_registration (length c.ivars) ctx frame (with_fresh c)) ≡ []
fresh_pushed c ctx frame f j h =
    push_other (length c.ivars) j ctx frame (with_fresh c) (λ e. omega (arith, e, h, ivars_fresh c))
    ∙ f j (omega (arith, h, ivars_fresh c))

pushed : (t : Target) (c : Cells Frame) (ms ms' : List (Monitor Handler)) (callers : List Caller) (k : Caller) (r m m2 place : ℕ) → Linked t c ms r m callers
    → ((j : ℕ) → length c.ivars ≤ j → waiting_on j c ≡ []) → ((j : ℕ) → j < length ms → monitor_in ms' j ≡ monitor_in ms j) → length ms ≤ length ms'
    → Stands t place (suc (length k.locals)) k.lines → Level t ms' (length c.ivars) m2 m k.catch
    → Linked t (with_registration (length c.ivars) (ctx_at m) (OnValue place (piece_vals k.locals r) Drop) (with_fresh c)) ms' (length c.ivars) m2
    (k ∷ callers)
pushed t c ms ms' callers k r m m2 place l f same more stands level =
    let i : ℕ = length c.ivars
    in let frame : Frame = OnValue place (piece_vals k.locals r) Drop
    in let c' : Cells Frame = with_registration i (ctx_at m) frame (with_fresh c)
    in (
      place,
      r,
      m,
      record {
        empty = number_fresh c;
        number = c.next;
        waits = push_same i (ctx_at m) frame (with_fresh c) (f i (omega arith));
        older = linked_drawn t c ms callers r m l;
        drawn = omega (arith, ivars_fresh c);
        stands = stands;
        level = level;
      },
      linked_kept t i c c' ms ms' (record {
        number = λ j h. number_older j c h;
        waits = λ j h. push_other i j (ctx_at m) frame (with_fresh c) (λ e. omega (arith, e, h));
        ivars = omega (arith, ivars_fresh c);
        monitor = same;
        monitors = more;
      }) callers r m (linked_drawn t c ms callers r m l) l,
    )

pub same_within : (s : State) (ps : List ℤ) (ws : List Work) → Within s ps ws → Within s (ps ++ []) (ws ++ [])
same_within s ps ws x = record { calm = x.calm; queued = x.queued; none_out = x.none_out; told = told_same s.trace ps ws x.told }

-- the walk before these lines
abbrev pub before : List Line → List ℤ → List Caller → List ℤ → List Work → Walked
before lines locals callers ps ws = record { walk = walk_on lines locals callers; prints = ps; works = ws }

pub answer_name : {vals : List Value} {x : Piece} {r : ℕ} {locals : List ℤ} → Reads vals x r locals → name_in vals x.answer ≡ r
answer_name h = ap name_of (answer_now h)

-- ---- the awaits
pub await_runs : (t : Target) → IsTarget t
    → (f : ℕ) (args : List Atom) (lines : List Line) (locals : List ℤ) (callers : List Caller) (r m : ℕ) (x : Piece) (place : ℕ) (vals : List Value)
    (s : State) (ps : List ℤ) (ws : List Work)
    → Within s ps ws → Linked t s.cells s.monitors r m callers → Reads vals x r locals → Follows t place (length locals) (Await f args ∷ lines)
    → length lines ≤ 64
    → RunsTo t (run_lines (ctx_at m) Drop (written t.entry place x (Await f args ∷ lines)) s vals) (before (Await f args ∷ lines) locals callers ps ws)
    (weight callers) (suc (length lines))
await_runs t is f args lines locals callers r m x place vals s ps ws wi l h fo short =
    let i : ℕ = length s.cells.ivars
    in let more : List Value = Ivar i ∷ []
    in let k : Caller = record { lines = lines; locals = locals; catch = None }
    in let given : List ℤ = map (value locals) args
    in let e1 : local (vals ++ more) x.size ≡ Ivar i = next_value vals (Ivar i) [] x.size h.size
    in let u : State = called (ctx_at m) (t.entry f) (piece_vals given i) Drop (with_ivar s)
    in let frame : Frame = OnValue place (piece_vals locals r) Drop
    in let v : State = record u { cells = with_registration i (ctx_at m) frame u.cells }
    in let e : run_lines (ctx_at m) Drop (written t.entry place x (Await f args ∷ lines)) s vals ≡ Over (going_on v) =
    ap
    (λ vs. Over
    (going_on
    (register (name_in (vals ++ more) x.size) (ctx_at m) (OnValue place (args_of (vals ++ more) (x.atoms ++ Local x.answer ∷ [])) Drop)
    (called (ctx_at m) (t.entry f) vs Drop (with_ivar s)))))
    (args_as h more i args e1)
    ∙ ap (λ vs. Over (going_on (register (name_in (vals ++ more) x.size) (ctx_at m) (OnValue place vs Drop) u))) (kept_as h more)
    ∙ ap (λ z. Over (going_on z)) (upon_fresh u i (name_in (vals ++ more) x.size) (ctx_at m) frame (ap name_of e1) (number_fresh s.cells))
    in subst (λ q. RunsTo t q (before (Await f args ∷ lines) locals callers ps ws) (weight callers) (suc (length lines))) (sym e)
    (run_last t (Over (going_on v)) (before (Await f args ∷ lines) locals callers ps ws) (weight callers) (length lines) (weight callers + 3) tt (omega arith)
    (inl
    (call_ready t is v (source.stepped t.source (before (Await f args ∷ lines) locals callers ps ws)) (k ∷ callers) i m f s.queues.next
    (weight callers + 3) given
    (record { there = fo.0.there; takes = fo.0.takes ∙ sym (length_map (value locals) args) })
    (record {
      low = wi.calm.low;
      clock = wi.calm.clock;
      helpers = wi.calm.helpers;
      requests = wi.calm.requests;
      left = wi.calm.left;
      fresh = fresh_pushed s.cells (ctx_at m) frame wi.calm.fresh;
    })
    (ap (λ q. q ++ record { no = s.queues.next; ctx = ctx_at m; frame = plain_task (Call (t.entry f) (piece_vals given i) Drop) } ∷ []) wi.queued)
    wi.none_out
    (pushed t s.cells s.monitors s.monitors callers k r m m place l wi.calm.fresh (λ j b. refl) (omega arith)
    (record { stood = fo.1; follows = fo.2; short = short }) refl)
    refl
    (told_same (s.trace ++ entry.Enq s.queues.next false ∷ []) ps ws (told_quiet s.trace (entry.Enq s.queues.next false) ps ws refl refl wi.told))
    (omega arith))))
  where
    length_map : (g : Atom → ℤ) (xs : List Atom) → length (map g xs) ≡ length xs
    length_map g [] = refl
    length_map g (y ∷ ys) = ap suc (length_map g ys)

pub work_runs : (t : Target) → IsTarget t
    → (kind : WorkKind) (a : Atom) (lines : List Line) (locals : List ℤ) (callers : List Caller) (r m : ℕ) (x : Piece) (place : ℕ) (vals : List Value)
    (s : State) (ps : List ℤ) (ws : List Work)
    → Within s ps ws → Linked t s.cells s.monitors r m callers → Reads vals x r locals → Follows t place (length locals) (AwaitWork kind a ∷ lines)
    → length lines ≤ 64
    → RunsTo t (run_lines (ctx_at m) Drop (written t.entry place x (AwaitWork kind a ∷ lines)) s vals)
    (before (AwaitWork kind a ∷ lines) locals callers ps ws) (weight callers) (suc (length lines))
work_runs t is kind a lines locals callers r m x place vals s ps ws wi l h fo short =
    let i : ℕ = length s.cells.ivars
    in let more : List Value = Def i ∷ []
    in let k : Caller = record { lines = lines; locals = locals; catch = None }
    in let work : Work = record { kind = kind; num = value locals a }
    in let e1 : local (vals ++ more) x.size ≡ Def i = next_value vals (Def i) [] x.size h.size
    in let frame : Frame = OnValue place (piece_vals locals r) Drop
    in let rest : Rest = record { ctx = ctx_at m; ret = Drop; vals = vals ++ more; lines = resumed (record x { line = x.line + 1 }) place }
    in let u : State = submitted (ctx_at m) i work None (with_ivar s)
    in let v : State = record u { cells = with_registration i (ctx_at m) frame u.cells }
    in let e : run_lines (ctx_at m) Drop (written t.entry place x (AwaitWork kind a ∷ lines)) s vals ≡ Asking (ask.Submit s.next_work work None) u rest =
    ap (λ z. proceeds (ctx_at m) Drop (resumed (record x { line = x.line + 1 }) place) s (work_effect (ctx_at m) kind z None s vals)) (number_reads h a)
    in subst (λ q. RunsTo t q (before (AwaitWork kind a ∷ lines) locals callers ps ws) (weight callers) (suc (length lines))) (sym e)
    (run_last t (Asking (ask.Submit s.next_work work None) u rest) (before (AwaitWork kind a ∷ lines) locals callers ps ws) (weight callers) (length lines)
    (weight callers + 3) tt (omega arith)
    (record {
      number = s.next_work;
      work = work;
      then = v;
      asks = refl;
      goes_on =
          ap (λ vs. Over (going_on (register (name_in (vals ++ more) x.size) (ctx_at m) (OnValue place vs Drop) u))) (kept_as h more)
          ∙ ap (λ z. Over (going_on z)) (upon_fresh u i (name_in (vals ++ more) x.size) (ctx_at m) frame (ap name_of e1) (number_fresh s.cells));
      out = record {
        callers = k ∷ callers;
        r = i;
        m = m;
        calm = record {
          low = wi.calm.low;
          clock = wi.calm.clock;
          helpers = wi.calm.helpers;
          requests = wi.calm.requests;
          left = wi.calm.left;
          fresh = fresh_pushed s.cells (ctx_at m) frame wi.calm.fresh;
        };
        queued = wi.queued;
        out = ap (λ q. q ++ record { number = s.next_work; to = i; ctx = ctx_at m; helper = None } ∷ []) wi.none_out;
        linked = pushed t s.cells s.monitors s.monitors callers k r m m place l wi.calm.fresh (λ j b. refl) (omega arith)
            (record { stood = fo.0; follows = fo.1; short = short }) refl;
        walk = refl;
        told = told_submit s.trace s.next_work kind (value locals a) ps ws wi.told;
        cost = omega arith;
      };
    }))

pub try_runs : (t : Target) → IsTarget t
    → (f : ℕ) (args : List Atom) (g : ℕ) (lines : List Line) (locals : List ℤ) (callers : List Caller) (r m : ℕ) (x : Piece) (place : ℕ) (vals : List Value)
    (s : State) (ps : List ℤ) (ws : List Work)
    → Within s ps ws → Linked t s.cells s.monitors r m callers → Reads vals x r locals → Follows t place (length locals) (Try f args g ∷ lines)
    → length lines ≤ 64
    → RunsTo t (run_lines (ctx_at m) Drop (written t.entry place x (Try f args g ∷ lines)) s vals) (before (Try f args g ∷ lines) locals callers ps ws)
    (weight callers) (suc (length lines))
try_runs t is f args g lines locals callers r m x place vals s ps ws wi l h fo short =
    let i : ℕ = length s.cells.ivars
    in let n : ℕ = length s.monitors
    in let more : List Value = Ivar i ∷ Mon n ∷ []
    in let k : Caller = record { lines = lines; locals = locals; catch = Some g }
    in let given : List ℤ = map (value locals) args
    in let e1 : local (vals ++ more) x.size ≡ Ivar i = next_value vals (Ivar i) (Mon n ∷ []) x.size h.size
    in let e2 : local (vals ++ more) (x.size + 1) ≡ Mon n =
    subst (λ (vs : List Value). local vs (x.size + 1) ≡ Mon n) (append_assoc vals (Ivar i ∷ []) (Mon n ∷ []))
    (next_value (vals ++ Ivar i ∷ []) (Mon n) [] (x.size + 1) (length-append vals (Ivar i ∷ []) ∙ ap (λ z. z + 1) h.size))
    in let handler : Handler = OnError (t.entry g) (Ivar i ∷ [])
    in let frame : Frame = OnValue place (piece_vals locals r) Drop
    in let built : (j o : ℕ) (hs ys zs : List Value) → State =
    λ j o hs ys zs. register j (ctx_at m) (OnValue place zs Drop)
    (called (in_monitor o (ctx_at m)) (t.entry f) ys Drop (handled_by o (ctx_at m) (OnError (t.entry g) hs) (detach o (with_monitor m (with_ivar s)))))
    in let from : List Value → Progress =
    λ vs. Over
    (going_on
    (built (name_in vs x.size) (name_in vs (x.size + 1)) (args_of vs (Local x.size ∷ [])) (args_of vs (map (atom x.atoms) args ++ Local x.size ∷ []))
    (args_of vs (x.atoms ++ Local x.answer ∷ []))))
    in let u : State = called (ctx_at n) (t.entry f) (piece_vals given i) Drop (handled_by n (ctx_at m) handler (detach n (with_monitor m (with_ivar s))))
    in let v : State = record u { cells = with_registration i (ctx_at m) frame u.cells }
    in let e : run_lines (ctx_at m) Drop (written t.entry place x (Try f args g ∷ lines)) s vals ≡ Over (going_on v) =
    ap from (append_assoc vals (Ivar i ∷ []) (Mon n ∷ []))
    ∙ ap
    (λ o. Over
    (going_on
    (built (name_in (vals ++ more) x.size) o (args_of (vals ++ more) (Local x.size ∷ []))
    (args_of (vals ++ more) (map (atom x.atoms) args ++ Local x.size ∷ [])) (args_of (vals ++ more) (x.atoms ++ Local x.answer ∷ [])))))
    (ap name_of e2)
    ∙ ap
    (λ y. Over
    (going_on
    (built (name_in (vals ++ more) x.size) n (y ∷ []) (args_of (vals ++ more) (map (atom x.atoms) args ++ Local x.size ∷ []))
    (args_of (vals ++ more) (x.atoms ++ Local x.answer ∷ [])))))
    e1
    ∙ ap (λ ys. Over (going_on (built (name_in (vals ++ more) x.size) n (Ivar i ∷ []) ys (args_of (vals ++ more) (x.atoms ++ Local x.answer ∷ [])))))
    (args_as h more i args e1)
    ∙ ap (λ zs. Over (going_on (built (name_in (vals ++ more) x.size) n (Ivar i ∷ []) (piece_vals given i) zs))) (kept_as h more)
    ∙ ap (λ z. Over (going_on z)) (upon_fresh u i (name_in (vals ++ more) x.size) (ctx_at m) frame (ap name_of e1) (number_fresh s.cells))
    in subst (λ q. RunsTo t q (before (Try f args g ∷ lines) locals callers ps ws) (weight callers) (suc (length lines))) (sym e)
    (run_last t (Over (going_on v)) (before (Try f args g ∷ lines) locals callers ps ws) (weight callers) (length lines) (weight callers + 3) tt (omega arith)
    (inl
    (call_ready t is v (source.stepped t.source (before (Try f args g ∷ lines) locals callers ps ws)) (k ∷ callers) i n f s.queues.next
    (weight callers + 3) given
    (record { there = fo.0.there; takes = fo.0.takes ∙ sym (length_map (value locals) args) })
    (record {
      low = wi.calm.low;
      clock = wi.calm.clock;
      helpers = wi.calm.helpers;
      requests = wi.calm.requests;
      left = wi.calm.left;
      fresh = fresh_pushed s.cells (ctx_at m) frame wi.calm.fresh;
    })
    (ap (λ q. q ++ record { no = s.queues.next; ctx = ctx_at n; frame = plain_task (Call (t.entry f) (piece_vals given i) Drop) } ∷ []) wi.queued)
    wi.none_out
    (pushed t s.cells s.monitors (with_guard m (ctx_at m) handler s.monitors) callers k r m n place l wi.calm.fresh
    (guard_other m (ctx_at m) handler s.monitors)
    (omega (arith, guard_length m (ctx_at m) handler s.monitors))
    (record { stood = fo.2; follows = fo.3; short = short })
    (record { below = omega (arith, guard_length m (ctx_at m) handler s.monitors); is = guard_here m (ctx_at m) handler s.monitors; callable = fo.1 }))
    refl
    (told_same (s.trace ++ entry.Monitor n m ∷ [] ++ entry.Detach n ∷ [] ++ entry.Enq s.queues.next false ∷ []) ps ws
    (told_quiet (s.trace ++ entry.Monitor n m ∷ [] ++ entry.Detach n ∷ []) (entry.Enq s.queues.next false) ps ws refl refl
    (told_quiet (s.trace ++ entry.Monitor n m ∷ []) (entry.Detach n) ps ws refl refl
    (told_quiet s.trace (entry.Monitor n m) ps ws refl refl wi.told))))
    (omega arith))))
  where
    length_map : (g : Atom → ℤ) (xs : List Atom) → length (map g xs) ≡ length xs
    length_map g [] = refl
    length_map g (y ∷ ys) = ap suc (length_map g ys)
