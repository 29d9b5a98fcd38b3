-- The whole machine: after each reply it stands for the walk after some lines.
use Rattle.std.proofs.Common.{ℕ, ℤ, suc, ◌+◌, ◌*◌, ◌<◌, ◌≤◌, ◌≡◌, inl, inr, List, [], ◌∷◌, ◌++◌, length, Bool, true, false, cond, not, ◌==◌, ◌&&◌, ◌||◌, nat_le, nat_lt, Option, Some, None, refl, ap, ap₂, sym, ◌∙◌, subst, arith, fold, find, filter}
use Rattle.std.specs.List.{list_all, AllByRecursion}
use Rattle.std.specs.Prelude.{count_by}
use Rattle.std.proofs.lemmas.Bool.{leb-true, leb-false, lt-leb, eqb-true}
use Rattle.ak_base.specs.Lists.{rest_of, is_empty_list}
use Rattle.ak_labor.specs.declared.work.Work.{Work}
use Rattle.ak_labor.specs.declared.work.Outcome.{Outcome}
use Rattle.ak_labor.specs.declared.work.Outcome.TheVariants.{Good, Bad}
use Rattle.ak_labor.specs.declared.ask.Ask.{Ask}
use Rattle.ak_labor.specs.declared.ask.Ask.TheVariants as ask
use Rattle.ak_labor.specs.Arrived.{Arrived}
use Rattle.ak_labor.specs.Calls.{Reply, Drained, Granted, Done}
use Rattle.ak_labor.specs.Value.{value_of}
use Rattle.ak_frames.specs.declared.frame.Ret.TheVariants.{Drop}
use Rattle.ak_frames.specs.declared.frame.Frame.TheVariants.{Call}
use Rattle.ak_frames.specs.declared.frame.Task.{Task}
use Rattle.ak_trace.specs.declared.entry.Entry.{Entry}
use Rattle.ak_trace.specs.declared.entry.Entry.TheVariants as entry
use Rattle.ak_trace.specs.declared.entry.Ending.TheVariants as ending
use Rattle.ak_rings.specs.declared.job.Job.{Job}
use Rattle.ak_rings.specs.Queues.{Queues, first_under, pick_or, pick_of, picked_by, picked_from, recounted}
use Rattle.ak_cells.specs.Cells.{no_cells}
use Rattle.ak_monitor.specs.Monitors.{Monitor, root_alone, monitor_in}
use Rattle.ak_machine.specs.declared.held.Handler.{Handler}
use Rattle.ak_clock.specs.Clock.{clock_at_zero, has_yield, has_due}
use Rattle.ak_labor.specs.declared.config.Config.{Config}
use Rattle.ak_machine.specs.declared.flow.Flow.{Flow}
use Rattle.ak_machine.specs.declared.flow.Flow.TheVariants as flow
use Rattle.ak_machine.specs.declared.held.Outstanding.{Outstanding}
use Rattle.ak_machine.specs.State.{State}
use Rattle.ak_machine.specs.Deferred.{noting, plain_task, called, with_ivar}
use Rattle.ak_machine.specs.Alarms.{yields_filled, alarms_filled}
use Rattle.ak_machine.specs.Errors.{After}
use Rattle.ak_machine.specs.Works.{is_active, is_unanswered}
use Rattle.ak_machine.specs.Job.{Rest, Progress, Over, Asking, run_lines, run_job}
use Rattle.ak_machine.specs.Cycle.{cycle_begun, has_more, is_stuck, is_general, is_work, is_other_work, outcome_given, arrival_of, arrive, arrive_all, is_quiet, requests_served, served_by, with_left}
use Rattle.ak_machine.specs.Run.{Place, AtDrain, AtJob, AtClose, Ended, Wrong, Machine, Wants, ran_to, draining, closing, ending_by, progressed, waiting, cycle_ended, picked, served, drained, job_answered, stepped_at, stepped, begun as machine_begun}
use Rattle.ak_let.specs.Eval as source
use Rattle.ak_let.specs.Eval.{Caller, Walk, Walked, walk_on, begun, fun_lines}
use Rattle.ak_let.specs.Compile.{begin, written}
use Rattle.ak_let.specs.Correct.{Told, AsksFor, Brings, AreTrue}
use Rattle.ak_let.proofs.Related.{Target, whole, IsTarget, ctx_at, piece_vals, Calm, Within, Ready, Finished, Out, Failed, Left, Leads, Submits, RunsTo, Steps, weight}
use Rattle.ak_let.proofs.Locals.{reads_begin}
use Rattle.ak_let.proofs.Chain.{told_quiet, answers, throws, call_ready}
use Rattle.ak_let.proofs.Jobs.{piece_runs}
use Rattle.ak_let.proofs.Counts.{steps_more}
use Rattle.ak_let.proofs.Cells.{number_fresh, ivars_fresh}

-- ---- the relation
-- before the first job
pub record Starting (t : Target) (s : State) (w : Walked) (n : ℕ) : Type 0 where
  pub number : ℕ
  pub calm : Calm s
  pub queued : s.queues.normal ≡ record { no = number; ctx = ctx_at 0; frame = plain_task (Call 0 [] Drop) } ∷ []
  pub none_out : s.works ≡ []
  pub cells : s.cells ≡ no_cells
  pub monitors : s.monitors ≡ root_alone
  pub walk : w.walk ≡ source.called t.source t.source.main [] []
  pub told : Told s.trace w.prints w.works
  pub cost : 2 ≤ n

-- a work that was asked for is out
pub record IsOut (t : Target) (s : State) (w : Walked) (n : ℕ) : Type 0 where
  pub number : ℕ
  pub work : Work
  pub out : Out t s w n number work
  pub comes : t.outcome number ≡ value_of work

pub data Pending (t : Target) (s : State) (w : Walked) (n : ℕ) : Type 0 where
  Runs : Ready t s w n → Pending t s w n
  Idles : Finished s w → Pending t s w n
  Awaits : IsOut t s w n → Pending t s w n
  Starts : Starting t s w n → Pending t s w n

-- how far the walk is after so many jobs, of which n more are paid
pub record Counted (t : Target) (config : Config) (ran : ℕ) (w : Walked) (n : ℕ) : Type 0 where
  pub count : ℕ
  pub steps : Steps t.source count (begun t.source) w
  pub few : count ≤ 64 * ran
  pub bound : ran + n ≤ 2 + 3 * count
  pub within : ran ≤ config.jobs

pub data EndsBy (t : Target) (config : Config) (ran : ℕ) (s : State) (w : Walked) (n : ℕ) : Type 0 where
  ByIdle : (before : List Entry) → s.trace ≡ before ++ entry.End ending.Idle ∷ [] → w.walk ≡ source.Over → Told s.trace w.prints w.works
      → EndsBy t config ran s w n
  ByError : (e : ℤ) → Failed s w e → EndsBy t config ran s w n
  ByJobs : (before : List Entry) → s.trace ≡ before ++ entry.End ending.Jobs ∷ [] → config.jobs ≤ ran → 1 ≤ n → Told s.trace w.prints w.works
      → EndsBy t config ran s w n

pub record Drains (t : Target) (config : Config) (m : Machine) : Type 0 where
  pub w : Walked
  pub n : ℕ
  pub counted : Counted t config m.ran w n
  pub pending : Pending t m.state w n

pub record InJob (t : Target) (config : Config) (a : Ask) (rest : Rest) (m : Machine) : Type 0 where
  pub w : Walked
  pub n : ℕ
  pub counted : Counted t config m.ran w n
  pub submits : Submits t a m.state rest w n

pub record Closes (t : Target) (config : Config) (m : Machine) : Type 0 where
  pub w : Walked
  pub n : ℕ
  pub counted : Counted t config m.ran w n
  pub ends : EndsBy t config m.ran m.state w n

abbrev pub SimAt : Target → Config → Place → Machine → Type 0
SimAt t config AtDrain m = Drains t config m
SimAt t config (AtJob a rest) m = InJob t config a rest m
SimAt t config AtClose m = Closes t config m
SimAt t config Ended m = Closes t config m
SimAt t config Wrong m = Unit {0}

abbrev pub Sim : Target → Config → Machine → Type 0
Sim t config m = SimAt t config m.place m

-- ---- a cycle
abbrev cycled : State → State
cycled s = record s { queues = recounted s.queues; trace = s.trace ++ entry.Cycle ∷ []; clock = clock_at_zero }

cycle_is : (s : State) → s.clock ≡ clock_at_zero → cycle_begun s ≡ cycled s
cycle_is s e = ap (λ c. alarms_filled (yields_filled (record s { queues = recounted s.queues; trace = s.trace ++ entry.Cycle ∷ []; clock = c }))) e

calm_cycled : (s : State) → Calm s → Calm (cycled s)
calm_cycled s c = record { low = c.low; clock = refl; helpers = c.helpers; requests = c.requests; left = c.left; fresh = c.fresh }

told_cycled : (s : State) (ps : List ℤ) (ws : List Work) → Told s.trace ps ws → Told (s.trace ++ entry.Cycle ∷ []) ps ws
told_cycled s ps ws h = told_quiet s.trace entry.Cycle ps ws refl refl h

ready_cycled : (t : Target) (s : State) (w : Walked) (n : ℕ) → Ready t s w n → Ready t (cycled s) w n
ready_cycled t s w n x =
    record {
      job = x.job;
      place = x.place;
      lines = x.lines;
      locals = x.locals;
      callers = x.callers;
      r = x.r;
      m = x.m;
      calm = calm_cycled s x.calm;
      queued = x.queued;
      none_out = x.none_out;
      runs = x.runs;
      stands = x.stands;
      linked = x.linked;
      walk = x.walk;
      told = told_cycled s w.prints w.works x.told;
      cost = x.cost;
    }

out_cycled : (t : Target) (s : State) (w : Walked) (n number : ℕ) (work : Work) → Out t s w n number work → Out t (cycled s) w n number work
out_cycled t s w n number work x =
    record {
      callers = x.callers;
      r = x.r;
      m = x.m;
      calm = calm_cycled s x.calm;
      queued = x.queued;
      out = x.out;
      linked = x.linked;
      walk = x.walk;
      told = told_cycled s w.prints w.works x.told;
      cost = x.cost;
    }

starting_cycled : (t : Target) (s : State) (w : Walked) (n : ℕ) → Starting t s w n → Starting t (cycled s) w n
starting_cycled t s w n x =
    record {
      number = x.number;
      calm = calm_cycled s x.calm;
      queued = x.queued;
      none_out = x.none_out;
      cells = x.cells;
      monitors = x.monitors;
      walk = x.walk;
      told = told_cycled s w.prints w.works x.told;
      cost = x.cost;
    }

-- ---- a job
-- what a job leads to is what the machine stands for then
job_done : (t : Target) (config : Config) (q : Progress) (w : Walked) (n : ℕ) (m : Machine) → Counted t config m.ran w n → Leads t q w n
    → Sim t config (progressed q m)
job_done t config (Over after) w n m c l = by after.flow l
  where
    by : (f : Flow) → Left t f after.state w n → Sim t config (elim f [
      | flow.On ↦ draining after.state m
      | flow.Stopped ↦ closing after.state m
      | flow.Unhandled e ↦ closing after.state m
    ])
    by flow.On (inl x) = record { w = w; n = n; counted = c; pending = Runs x }
    by flow.On (inr x) = record { w = w; n = n; counted = c; pending = Idles x }
    by flow.Stopped x = absurd x
    by (flow.Unhandled e) x = record { w = w; n = n; counted = c; ends = ByError e x }
job_done t config (Asking a s rest) w n m c l =
    record { w = w; n = n; counted = c; submits = l }

-- the queues of one job
one_picked : (q : Queues Task) (job : Job Task) → q.normal ≡ job ∷ [] → q.low ≡ [] → pick_of q ≡ cond (nat_lt q.normal_ran q.limit) (Some job) None
one_picked q job e f =
    ap₂ (λ a b. pick_or (first_under q.normal_ran q.limit a) (first_under q.low_ran q.limit b)) e f
    ∙ by (nat_lt q.normal_ran q.limit)
  where
    by : (b : Bool) → pick_or (cond b (Some job) None) None ≡ cond b (Some job) None
    by true = refl
    by false = refl

no_pick : (q : Queues Task) → q.normal ≡ [] → q.low ≡ [] → pick_of q ≡ None
no_pick q e f = ap₂ (λ a b. pick_or (first_under q.normal_ran q.limit a) (first_under q.low_ran q.limit b)) e f

left_queues : (q : Queues Task) (job : Job Task) → q.normal ≡ job ∷ [] → nat_lt q.normal_ran q.limit ≡ true
    → picked_from q ≡ record q { normal = []; normal_ran = q.normal_ran + 1 }
left_queues q job e l =
    ap (λ a. picked_by a (first_under q.low_ran q.limit q.low) q) (ap (first_under q.normal_ran q.limit) e ∙ ap (λ b. cond b (Some job) None) l)
    ∙ ap (λ a. record q { normal = rest_of a; normal_ran = q.normal_ran + 1 }) e

-- the job of a piece
ready_runs : (t : Target) → IsTarget t → (s : State) (w : Walked) (n : ℕ) (x : Ready t s w n) (q : Queues Task) → q.normal ≡ [] → q.low ≡ []
    → RunsTo t (run_job t.procs x.job (record s { queues = q })) w (weight x.callers) (length x.lines)
ready_runs t is s w n x q e f =
    let u : State = noting (entry.Job x.job.no) (record s { queues = q })
    in subst (λ z. RunsTo t z w (weight x.callers) (length x.lines))
    (sym (x.runs (record s { queues = q }) ∙ ap (λ ls. run_lines (ctx_at x.m) Drop ls u (piece_vals x.locals x.r)) x.stands.stood.1))
    (subst
    (λ (z : Walked). RunsTo t
    (run_lines (ctx_at x.m) Drop (written t.entry (suc x.place) (begin (length x.locals) x.stands.stood.0) x.lines) u (piece_vals x.locals x.r)) z
    (weight x.callers) (length x.lines))
    (sym (ap (λ y. record { walk = y; prints = w.prints; works = w.works }) x.walk))
    (piece_runs t is x.lines x.locals x.callers x.r x.m (begin (length x.locals) x.stands.stood.0) (suc x.place) (piece_vals x.locals x.r) u w.prints w.works (
      record {
        calm = record { low = f; clock = x.calm.clock; helpers = x.calm.helpers; requests = x.calm.requests; left = x.calm.left; fresh = x.calm.fresh };
        queued = e;
        none_out = x.none_out;
        told = told_quiet s.trace (entry.Job x.job.no) w.prints w.works refl refl x.told;
      },
      x.linked,
      reads_begin x.locals x.r x.stands.stood.0,
      x.stands.follows,
      x.stands.short,
    )))

ran_counted : (t : Target) (config : Config) (ran : ℕ) (w : Walked) (n base limit : ℕ) (q : Progress) → Counted t config ran w n
    → (x : RunsTo t q w base limit) → suc base ≤ n → limit ≤ 64 → ran < config.jobs → Counted t config (ran + 1) x.then x.spent
ran_counted t config ran w n base limit q c x h short more =
    record {
      count = c.count + x.count;
      steps = steps_more t.source c.count x.count (begun t.source) w x.then c.steps x.steps;
      few = omega (arith, c.few, x.few, short);
      bound = omega (arith, c.bound, x.bound, h);
      within = omega (arith, more);
    }

has_more_when : (s : State) (job : Job Task) → s.queues.normal ≡ job ∷ [] → has_more s ≡ true
has_more_when s job e =
    ap (λ l. not (is_empty_list l && is_empty_list s.queues.low) || has_yield s.clock || has_due s.clock) e

has_no_more : (s : State) → s.queues.normal ≡ [] → Calm s → has_more s ≡ false
has_no_more s e c =
    ap (λ l. not (is_empty_list l && is_empty_list s.queues.low) || has_yield s.clock || has_due s.clock) e
    ∙ ap (λ l. not (true && is_empty_list l) || has_yield s.clock || has_due s.clock) c.low
    ∙ ap (λ k. false || has_yield k || has_due k) c.clock

-- how a cycle ends, by its tests: whether jobs are left, nobody waits for a reply, no work is out, and none can go on
abbrev ends_cycle : Bool → Bool → Bool → Bool → State → Machine → Machine
ends_cycle more quiet none stuck s m =
    cond more (draining (cycle_begun s) m)
    (cond (not quiet) (waiting s m)
    (cond none (ending_by ending.Idle s m)
    (cond stuck (ending_by ending.Stuck s m) (waiting s m))))

-- a job waits, and none may run any more in this cycle
to_next_cycle : (t : Target) (config : Config) (s : State) (m : Machine) (w : Walked) (n : ℕ) (job : Job Task) → s.queues.normal ≡ job ∷ []
    → s.clock ≡ clock_at_zero → Counted t config m.ran w n → Pending t (cycled s) w n → Sim t config (cycle_ended config s m)
to_next_cycle t config s m w n job e k c p =
    subst (λ b. Sim t config (ends_cycle b (is_quiet s) (is_empty_list s.works) (is_stuck config.threads s) s m))
    (sym (has_more_when s job e))
    (record { w = w; n = n; counted = c; pending = subst (λ (z : State). Pending t z w n) (sym (cycle_is s k)) p })

-- a job waits: it runs, or the cycle or the run ends
job_picked : (t : Target) (config : Config) (s : State) (m : Machine) (w : Walked) (n base limit : ℕ) (job : Job Task) → s.queues.normal ≡ job ∷ [] → Calm s
    → Told s.trace w.prints w.works → Counted t config m.ran w n → suc base ≤ n → limit ≤ 64 → Pending t (cycled s) w n
    → ((q : Queues Task) → q.normal ≡ [] → q.low ≡ [] → RunsTo t (run_job t.procs job (record s { queues = q })) w base limit)
    → Sim t config (picked (whole t) config (pick_of s.queues) s m)
job_picked t config s m w n base limit job e calm told c h short p runs =
    subst (λ o. Sim t config (picked (whole t) config o s m)) (sym (one_picked s.queues job e calm.low))
    (by (nat_lt s.queues.normal_ran s.queues.limit) refl)
  where
    runs_on : (b : Bool) → nat_le config.jobs m.ran ≡ b → nat_lt s.queues.normal_ran s.queues.limit ≡ true
        → Sim t config
        (cond b (ending_by ending.Jobs s m) (progressed (run_job t.procs job (record s { queues = picked_from s.queues })) (record m { ran = m.ran + 1 })))
    runs_on true f l =
        record {
          w = w;
          n = n;
          counted = c;
          ends = ByJobs s.trace refl (leb-true config.jobs m.ran f) (omega (arith, h))
              (told_quiet s.trace (entry.End ending.Jobs) w.prints w.works refl refl told);
        }
    runs_on false f l =
        let q : Queues Task = record s.queues { normal = []; normal_ran = s.queues.normal_ran + 1 }
        in let x : RunsTo t (run_job t.procs job (record s { queues = q })) w base limit = runs q refl calm.low
        in subst (λ (z : Queues Task). Sim t config (progressed (run_job t.procs job (record s { queues = z })) (record m { ran = m.ran + 1 })))
        (sym (left_queues s.queues job e l))
        (job_done t config (run_job t.procs job (record s { queues = q })) x.then x.spent (record m { ran = m.ran + 1 })
        (ran_counted t config m.ran w n base limit _ c x h short (leb-false config.jobs m.ran f)) x.leads)

    by : (b : Bool) → nat_lt s.queues.normal_ran s.queues.limit ≡ b → Sim t config (picked (whole t) config (cond b (Some job) None) s m)
    by true l = runs_on (nat_le config.jobs m.ran) refl l
    by false l = to_next_cycle t config s m w n job e calm.clock c p

ready_picked : (t : Target) → IsTarget t → (config : Config) (s : State) (m : Machine) (w : Walked) (n : ℕ) → Counted t config m.ran w n → Ready t s w n
    → Sim t config (picked (whole t) config (pick_of s.queues) s m)
ready_picked t is config s m w n c x =
    job_picked t config s m w n (weight x.callers) (length x.lines) x.job x.queued x.calm x.told c x.cost x.stands.short (Runs (ready_cycled t s w n x))
    (ready_runs t is s w n x)

-- the first job calls main
starting_runs : (t : Target) → IsTarget t → (s : State) (w : Walked) (n : ℕ) (x : Starting t s w n) (q : Queues Task) → q.normal ≡ [] → q.low ≡ []
    → RunsTo t (run_job t.procs (record { no = x.number; ctx = ctx_at 0; frame = plain_task (Call 0 [] Drop) }) (record s { queues = q })) w 1 0
starting_runs t is s w n x q e f =
    let u : State = noting (entry.Job x.number) (record s { queues = q })
    in let i : ℕ = length s.cells.ivars
    in let v : State = called (ctx_at 0) (t.entry t.source.main) (piece_vals [] i) Drop (with_ivar u)
    in subst (λ z. RunsTo t z w 1 0)
    (sym (ap (λ ls. run_lines (ctx_at 0) Drop ls u []) is.starter.2))
    (record {
      count = 0;
      spent = 1;
      then = w;
      steps = refl;
      few = omega arith;
      bound = omega arith;
      leads = inl (call_ready t is v w [] i 0 t.source.main q.next 1 [] is.main
          (record {
            low = f;
            clock = x.calm.clock;
            helpers = x.calm.helpers;
            requests = x.calm.requests;
            left = x.calm.left;
            fresh = λ j h. x.calm.fresh j (omega (arith, h, ivars_fresh s.cells));
          })
          (ap (λ l. l ++ record { no = q.next; ctx = ctx_at 0; frame = plain_task (Call (t.entry t.source.main) (piece_vals [] i) Drop) } ∷ []) e)
          x.none_out
          (record {
            empty = number_fresh s.cells;
            none = x.calm.fresh i (omega arith);
            drawn = omega (arith, ivars_fresh s.cells);
            root = refl;
            there = subst (λ (ms : List (Monitor Handler)). 0 < length ms) (sym x.monitors) (omega arith);
            open_root = ap (λ (ms : List (Monitor Handler)). (monitor_in ms 0).detached) x.monitors;
          })
          x.walk
          (told_quiet (s.trace ++ entry.Job x.number ∷ []) (entry.Enq q.next false) w.prints w.works refl refl
          (told_quiet s.trace (entry.Job x.number) w.prints w.works refl refl x.told))
          (omega arith));
    })

starting_picked : (t : Target) → IsTarget t → (config : Config) (s : State) (m : Machine) (w : Walked) (n : ℕ) → Counted t config m.ran w n → Starting t s w n
    → Sim t config (picked (whole t) config (pick_of s.queues) s m)
starting_picked t is config s m w n c x =
    job_picked t config s m w n 1 0 (record { no = x.number; ctx = ctx_at 0; frame = plain_task (Call 0 [] Drop) }) x.queued x.calm x.told c x.cost
    (omega arith) (Starts (starting_cycled t s w n x)) (starting_runs t is s w n x)

-- ---- no job waits
quiet : (s : State) → Calm s → is_quiet s ≡ true
quiet s c = ap (λ rs. count_by is_unanswered rs == s.left) c.requests ∙ ap (λ n. 0 == n) c.left

finished_picked : (t : Target) (config : Config) (s : State) (m : Machine) (w : Walked) (n : ℕ) → Counted t config m.ran w n → Finished s w
    → Sim t config (picked (whole t) config (pick_of s.queues) s m)
finished_picked t config s m w n c x =
    subst (λ o. Sim t config (picked (whole t) config o s m)) (sym (no_pick s.queues x.queued x.calm.low))
    (subst (λ b. Sim t config (ends_cycle b (is_quiet s) (is_empty_list s.works) (is_stuck config.threads s) s m))
    (sym (has_no_more s x.queued x.calm))
    (subst (λ b. Sim t config (ends_cycle false b (is_empty_list s.works) (is_stuck config.threads s) s m))
    (sym (quiet s x.calm))
    (subst (λ (l : List Outstanding). Sim t config (ends_cycle false true (is_empty_list l) (is_stuck config.threads s) s m))
    (sym x.none_out)
    (record {
      w = w;
      n = n;
      counted = c;
      ends = ByIdle s.trace refl x.walk (told_quiet s.trace (entry.End ending.Idle) w.prints w.works refl refl x.told);
    }))))

not_stuck : (threads : ℕ) (s : State) → 1 ≤ threads → s.helpers ≡ [] → is_stuck threads s ≡ false
not_stuck threads s h e =
    ap (λ l. not (is_empty_list s.works) && list_all is_general s.works && nat_le threads (count_by is_active l)) e
    ∙ ap (λ b. not (is_empty_list s.works) && list_all is_general s.works && b) (lt-leb threads 0 (omega (arith, h)))
    ∙ and_false (not (is_empty_list s.works) && list_all is_general s.works)
  where
    and_false : (b : Bool) → (b && false) ≡ false
    and_false true = refl
    and_false false = refl

out_picked : (t : Target) (config : Config) → 1 ≤ config.threads → (s : State) (m : Machine) (w : Walked) (n : ℕ) → Counted t config m.ran w n → IsOut t s w n
    → Sim t config (picked (whole t) config (pick_of s.queues) s m)
out_picked t config h s m w n c x =
    subst (λ o. Sim t config (picked (whole t) config o s m)) (sym (no_pick s.queues x.out.queued x.out.calm.low))
    (subst (λ b. Sim t config (ends_cycle b (is_quiet s) (is_empty_list s.works) (is_stuck config.threads s) s m))
    (sym (has_no_more s x.out.queued x.out.calm))
    (subst (λ b. Sim t config (ends_cycle false b (is_empty_list s.works) (is_stuck config.threads s) s m))
    (sym (quiet s x.out.calm))
    (subst (λ (l : List Outstanding). Sim t config (ends_cycle false true (is_empty_list l) (is_stuck config.threads s) s m))
    (sym x.out.out)
    (subst (λ b. Sim t config (ends_cycle false true false b s m))
    (sym (not_stuck config.threads s h x.out.calm.helpers))
    (record {
      w = w;
      n = n;
      counted = c;
      pending = subst (λ (z : State). Pending t z w n) (sym (cycle_is s x.out.calm.clock))
          (Awaits (record { number = x.number; work = x.work; out = out_cycled t s w n x.number x.work x.out; comes = x.comes }));
    })))))

-- ---- a drain
-- what further pairs do after one
abbrev arriving : List (ℕ × Outcome) → Option After → Option After
arriving pairs None = None
arriving pairs (Some after) =
    elim after.flow [
      | flow.On ↦ arrive_all pairs after.state
      | flow.Stopped ↦ Some after
      | flow.Unhandled e ↦ Some after
    ]

arrive_next : (pair : ℕ × Outcome) (pairs : List (ℕ × Outcome)) (s : State) → arrive_all (pair ∷ pairs) s ≡ arriving pairs (arrive pair.0 pair.1 s)
arrive_next pair pairs s = by (arrive pair.0 pair.1 s)
  where
    by : (o : Option After) → elim o [
      | None ↦ None
      | Some after ↦ elim after.flow [
        | flow.On ↦ arrive_all pairs after.state
        | flow.Stopped ↦ Some after
        | flow.Unhandled e ↦ Some after
      ]
    ] ≡ arriving pairs o
    by None = refl
    by (Some after) = refl

-- nobody asks from outside: on with the next pick
quietly : (t : Target) (config : Config) (s : State) (m : Machine) (arrived : Arrived) → arrived.requests ≡ [] → arrived.left ≡ 0 → Calm s
    → Sim t config (picked (whole t) config (pick_of s.queues) s m)
    → Sim t config (drained (whole t) config arrived (Some (record { state = s; flow = flow.On })) m)
quietly t config s m arrived none nobody calm p =
    subst (λ o. Sim t config (served (whole t) config o arrived.left m)) (sym served_none)
    (subst (λ (z : State). Sim t config (picked (whole t) config (pick_of s.queues) z m)) (sym same) p)
  where
    by_askers : (b : Bool) → requests_served (cond b None None) [] s ≡ Some s
    by_askers true = refl
    by_askers false = refl

    served_none : requests_served (served_by None config.askers) arrived.requests s ≡ Some s
    served_none = ap (λ rs. requests_served (served_by None config.askers) rs s) none ∙ by_askers (nat_lt 0 config.askers)

    same : with_left arrived.left s ≡ s
    same = ap (λ n. with_left n s) (nobody ∙ sym calm.left)

-- where no work is out no pair fits
quiet_drained : (t : Target) (config : Config) (s : State) (m : Machine) (arrived : Arrived) → arrived.requests ≡ [] → arrived.left ≡ 0
    → (pairs : List (ℕ × Outcome)) → s.works ≡ [] → Calm s → Sim t config (picked (whole t) config (pick_of s.queues) s m)
    → Sim t config (drained (whole t) config arrived (arrive_all pairs s) m)
quiet_drained t config s m arrived r l [] e calm p = quietly t config s m arrived r l calm p
quiet_drained t config s m arrived r l (pair ∷ pairs) e calm p =
    subst (λ o. Sim t config (drained (whole t) config arrived o m))
    (sym (arrive_next pair pairs s ∙ ap (λ (l : List Outstanding). arriving pairs (arrival_of (find (is_work pair.0) l) pair.0 pair.1 s)) e))
    tt

-- after an arrival
after_drained : (t : Target) → IsTarget t → (config : Config) (m : Machine) (w : Walked) (n : ℕ) (arrived : Arrived) → arrived.requests ≡ []
    → arrived.left ≡ 0 → (pairs : List (ℕ × Outcome)) (s : State) (f : Flow) → Counted t config m.ran w n → Left t f s w n
    → Sim t config (drained (whole t) config arrived (arriving pairs (Some (record { state = s; flow = f }))) m)
after_drained t is config m w n arrived r l pairs s flow.On c (inl x) =
    quiet_drained t config s m arrived r l pairs x.none_out x.calm (ready_picked t is config s m w n c x)
after_drained t is config m w n arrived r l pairs s flow.On c (inr x) =
    quiet_drained t config s m arrived r l pairs x.none_out x.calm (finished_picked t config s m w n c x)
after_drained t is config m w n arrived r l pairs s flow.Stopped c x = absurd x
after_drained t is config m w n arrived r l pairs s (flow.Unhandled e) c x = record { w = w; n = n; counted = c; ends = ByError e x }

abbrev outstanding_at : ℕ → ℕ → ℕ → Outstanding
outstanding_at number r m = record { number = number; to = r; ctx = ctx_at m; helper = None }

abbrev arrived_in : Entry → State → State
arrived_in e s = noting e (record s { works = [] })

-- the work that is out arrives
arrived_left : (t : Target) → IsTarget t → (s : State) (w : Walked) (n number : ℕ) (work : Work) (x : Out t s w n number work) (o : Outcome)
    → o ≡ value_of work → (e : Entry) → Told (s.trace ++ e ∷ []) w.prints w.works
    → Left t (outcome_given o (outstanding_at number x.r x.m) (arrived_in e s)).flow (outcome_given o (outstanding_at number x.r x.m) (arrived_in e s)).state
    w n
arrived_left t is s w n number work x o same e told =
    subst
    (λ (z : Walked). Left t (outcome_given o (outstanding_at number x.r x.m) (arrived_in e s)).flow
    (outcome_given o (outstanding_at number x.r x.m) (arrived_in e s)).state z n)
    (ap (λ (y : Outcome). record { walk = source.outcome_taken t.source y x.callers; prints = w.prints; works = w.works }) same
    ∙ sym (ap (λ y. record { walk = y; prints = w.prints; works = w.works }) x.walk))
    (by o)
  where
    within : Within (arrived_in e s) w.prints w.works
    within =
        record {
          calm = record {
            low = x.calm.low;
            clock = x.calm.clock;
            helpers = x.calm.helpers;
            requests = x.calm.requests;
            left = x.calm.left;
            fresh = x.calm.fresh;
          };
          queued = x.queued;
          none_out = refl;
          told = told;
        }

    by : (o : Outcome)
        → Left t (outcome_given o (outstanding_at number x.r x.m) (arrived_in e s)).flow
        (outcome_given o (outstanding_at number x.r x.m) (arrived_in e s)).state
        (record { walk = source.outcome_taken t.source o x.callers; prints = w.prints; works = w.works }) n
    by (Good v) = answers t (arrived_in e s) w.prints w.works x.callers x.r x.m v n within x.linked x.cost
    by (Bad k) = throws t is (arrived_in e s) w.prints w.works x.callers x.r x.m k n within x.linked x.cost

out_drained : (t : Target) → IsTarget t → (config : Config) → 1 ≤ config.threads → (s : State) (m : Machine) (w : Walked) (n : ℕ)
    → Counted t config m.ran w n → IsOut t s w n → (arrived : Arrived) → arrived.requests ≡ [] → arrived.left ≡ 0 → (pairs : List (ℕ × Outcome))
    → AllByRecursion (λ (pair : ℕ × Outcome). pair.1 ≡ t.outcome pair.0) pairs
    → Sim t config (drained (whole t) config arrived (arrive_all pairs s) m)
out_drained t is config h s m w n c x arrived r l [] truth =
    quietly t config s m arrived r l x.out.calm (out_picked t config h s m w n c x)
out_drained t is config h s m w n c x arrived r l (pair ∷ pairs) truth =
    subst (λ o. Sim t config (drained (whole t) config arrived o m))
    (sym (arrive_next pair pairs s ∙ ap (λ (l : List Outstanding). arriving pairs (arrival_of (find (is_work pair.0) l) pair.0 pair.1 s)) x.out.out))
    (by (x.number == pair.0) refl)
  where
    by : (b : Bool) → (x.number == pair.0) ≡ b
        → Sim t config
        (drained (whole t) config arrived (arriving pairs (arrival_of (cond b (Some (outstanding_at x.number x.out.r x.out.m)) None) pair.0 pair.1 s)) m)
    by false e = tt
    by true e =
        let none : filter (is_other_work pair.0) s.works ≡ [] =
        ap (filter (is_other_work pair.0)) x.out.out ∙ ap (λ b. cond (not b) ((outstanding_at x.number x.out.r x.out.m) ∷ []) []) e
        in let same : pair.1 ≡ value_of x.work =
        truth.0 ∙ ap t.outcome (sym (eqb-true x.number pair.0 e)) ∙ x.comes
        in let u : State = noting (entry.Arrive pair.0 pair.1) (record s { works = [] })
        in
        subst
        (λ (l : List Outstanding). Sim t config
        (drained (whole t) config arrived
        (arriving pairs
        (Some (outcome_given pair.1 (outstanding_at x.number x.out.r x.out.m) (noting (entry.Arrive pair.0 pair.1) (record s { works = l })))))
        m))
        (sym none)
        (after_drained t is config m w n arrived r l pairs (outcome_given pair.1 (outstanding_at x.number x.out.r x.out.m) u).state
        (outcome_given pair.1 (outstanding_at x.number x.out.r x.out.m) u).flow c
        (arrived_left t is s w n x.number x.work x.out pair.1 same (entry.Arrive pair.0 pair.1)
        (told_quiet s.trace (entry.Arrive pair.0 pair.1) w.prints w.works refl refl x.out.told)))

pending_drained : (t : Target) → IsTarget t → (config : Config) → 1 ≤ config.threads → (s : State) (m : Machine) (w : Walked) (n : ℕ)
    → Counted t config m.ran w n → Pending t s w n → (arrived : Arrived) → Brings t.outcome (Drained arrived)
    → Sim t config (drained (whole t) config arrived (arrive_all arrived.works s) m)
pending_drained t is config h s m w n c (Runs x) arrived truth =
    quiet_drained t config s m arrived truth.requests truth.left arrived.works x.none_out x.calm (ready_picked t is config s m w n c x)
pending_drained t is config h s m w n c (Idles x) arrived truth =
    quiet_drained t config s m arrived truth.requests truth.left arrived.works x.none_out x.calm (finished_picked t config s m w n c x)
pending_drained t is config h s m w n c (Awaits x) arrived truth =
    out_drained t is config h s m w n c x arrived truth.requests truth.left arrived.works truth.works
pending_drained t is config h s m w n c (Starts x) arrived truth =
    quiet_drained t config s m arrived truth.requests truth.left arrived.works x.none_out x.calm (starting_picked t is config s m w n c x)

-- ---- one reply
job_goes_on : (t : Target) (config : Config) (a : Ask) (rest : Rest) (reply : Reply) (m : Machine) → InJob t config a rest m
    → ((id : ℕ) (work : Work) → Wants a ≡ Wants (ask.Submit id work None) → t.outcome id ≡ value_of work) → Sim t config (job_answered a reply rest m)
job_goes_on t config a rest reply m x truth =
    subst (λ z. Sim t config (job_answered z reply rest m)) (sym x.submits.asks) (by reply)
  where
    by : (reply : Reply) → Sim t config (job_answered (ask.Submit x.submits.number x.submits.work None) reply rest m)
    by Done =
        subst (λ q. Sim t config (progressed q m)) (sym x.submits.goes_on)
        (record {
          w = x.w;
          n = x.n;
          counted = x.counted;
          pending = Awaits (record {
            number = x.submits.number;
            work = x.submits.work;
            out = x.submits.out;
            comes = truth x.submits.number x.submits.work (ap Wants x.submits.asks);
          });
        })
    by (Drained arrived) = tt
    by (Granted b) = tt

pub step_sim : (t : Target) → IsTarget t → (config : Config) → 1 ≤ config.threads → (m : Machine) (reply : Reply) → Sim t config m → AsksFor t.outcome m
    → Brings t.outcome reply → Sim t config (stepped (whole t) config m reply)
step_sim t is config h m reply x asks truth = by m.place x asks reply truth
  where
    by : (place : Place) → SimAt t config place m → ((id : ℕ) (work : Work) → ran_to place ≡ Wants (ask.Submit id work None) → t.outcome id ≡ value_of work)
        → (reply : Reply) → Brings t.outcome reply → Sim t config (stepped_at (whole t) config place reply m)
    by AtDrain x asks (Drained arrived) truth = pending_drained t is config h m.state m x.w x.n x.counted x.pending arrived truth
    by AtDrain x asks (Granted b) truth = tt
    by AtDrain x asks Done truth = tt
    by (AtJob a rest) x asks reply truth = job_goes_on t config a rest reply m x asks
    by AtClose x asks Done truth = record { w = x.w; n = x.n; counted = x.counted; ends = x.ends }
    by AtClose x asks (Drained arrived) truth = tt
    by AtClose x asks (Granted b) truth = tt
    by Ended x asks reply truth = tt
    by Wrong x asks reply truth = tt

pub all_sim : (t : Target) → IsTarget t → (config : Config) → 1 ≤ config.threads → (replies : List Reply) (m : Machine) → Sim t config m
    → AreTrue t.outcome (whole t) config m replies → Sim t config (fold (stepped (whole t) config) m replies)
all_sim t is config h [] m x truth = x
all_sim t is config h (reply ∷ replies) m x truth =
    all_sim t is config h replies (stepped (whole t) config m reply) (step_sim t is config h m reply x truth.0 truth.1) truth.2

-- ---- the begin
pub begun_sim : (t : Target) (config : Config) → config.askers ≡ 0 → Sim t config (machine_begun 0 config)
begun_sim t config none =
    record {
      w = begun t.source;
      n = 2;
      counted = record { count = 0; steps = refl; few = omega arith; bound = omega arith; within = omega arith };
      pending = Starts (record {
        number = 0;
        calm = record { low = refl; clock = refl; helpers = refl; requests = refl; left = none; fresh = λ j h. refl };
        queued = refl;
        none_out = refl;
        cells = refl;
        monitors = refl;
        walk = refl;
        told = record { prints_are = refl; works_are = refl };
        cost = omega arith;
      });
    }
