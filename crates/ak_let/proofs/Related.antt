-- How a state of the machine stands for a walk of the source. There is one activity: one queued job, or one work that is out.
-- Behind it stands a chain of handlers, one for each caller: each waits for an ivar, and answers the next one.
use Rattle.std.proofs.Common.{ℕ, ℤ, zero, suc, ◌+◌, ◌*◌, ◌<◌, ◌≤◌, ◌≡◌, ◌⊎◌, List, [], ◌∷◌, ◌++◌, map, length, true, false, Option, Some, None}
use Rattle.ak_base.specs.declared.number.Ctx.{Ctx}
use Rattle.ak_labor.specs.declared.work.Work.{Work}
use Rattle.ak_labor.specs.declared.work.Outcome.{Outcome}
use Rattle.ak_labor.specs.declared.ask.Ask.{Ask}
use Rattle.ak_labor.specs.declared.ask.Ask.TheVariants as ask
use Rattle.ak_labor.specs.Value.{value_of}
use Rattle.ak_frames.specs.declared.value.Value.{Value}
use Rattle.ak_frames.specs.declared.value.Value.TheVariants.{Num, Ivar}
use Rattle.ak_frames.specs.declared.frame.Ret.TheVariants.{Drop}
use Rattle.ak_frames.specs.declared.frame.Frame.{Frame}
use Rattle.ak_frames.specs.declared.frame.Frame.TheVariants.{OnValue}
use Rattle.ak_frames.specs.declared.frame.Task.{Task}
use Rattle.ak_trace.specs.declared.entry.Entry.{Entry}
use Rattle.ak_trace.specs.declared.entry.Entry.TheVariants as entry
use Rattle.ak_trace.specs.declared.entry.Ending.TheVariants as ending
use Rattle.ak_program.specs.declared.program.NumProc.{NumProc}
use Rattle.ak_program.specs.Programs.{NumProgram}
use Rattle.ak_program.specs.declared.statement.NumAtom.TheVariants.{Local}
use Rattle.ak_program.specs.declared.statement.NumStmt.TheVariants as stmt
use Rattle.ak_rings.specs.declared.job.Job.{Job}
use Rattle.ak_cells.specs.Cells.{Cells, number_in, waiting_on}
use Rattle.ak_monitor.specs.Monitors.{Monitor, monitor_in}
use Rattle.ak_clock.specs.Clock.{clock_at_zero}
use Rattle.ak_machine.specs.declared.flow.Flow.{Flow}
use Rattle.ak_machine.specs.declared.flow.Flow.TheVariants as flow
use Rattle.ak_machine.specs.declared.held.Handler.{Handler}
use Rattle.ak_machine.specs.declared.held.Handler.TheVariants.{OnError}
use Rattle.ak_machine.specs.State.{State}
use Rattle.ak_machine.specs.Deferred.{noting}
use Rattle.ak_machine.specs.Errors.{going_on}
use Rattle.ak_machine.specs.Job.{Rest, Progress, Over, Asking, run_lines, lines_of, run_job}
use Rattle.ak_let.specs.declared.source.Line.{Line}
use Rattle.ak_let.specs.declared.source.Line.TheVariants.{Let, Compute, Print, Raise, Return, Await, AwaitWork, Try}
use Rattle.ak_let.specs.declared.source.Source.{Source}
use Rattle.ak_let.specs.Eval as source
use Rattle.ak_let.specs.Eval.{Caller, Walk, Walked, fun_lines, walk_on, outcome_taken}
use Rattle.ak_let.specs.Compile.{plain, begin, written}
use Rattle.ak_let.specs.Correct.{Callable, Told}

-- a source with a program, where its functions begin there, and what the works of a run come to
pub record Target : Type 0 where
  pub outcome : ℕ → Outcome
  pub source : Source
  pub procs : List NumProc
  pub entry : ℕ → ℕ

-- its program serves no requests from outside
abbrev pub whole : Target → NumProgram
whole t = record { procs = t.procs; main = 0; ask = None }

abbrev pub ctx_at : ℕ → Ctx
ctx_at m = record { mon = m; low = false }

-- the procedure at a place is the piece of these lines with n locals
abbrev pub Stood : Target → ℕ → ℕ → List Line → Type 0
Stood t place n lines = (line : ℕ) × (lines_of t.procs place ≡ written t.entry (suc place) (begin n line) lines)

-- what follows the awaits of these lines stands from a place on, and their calls fit
abbrev pub Follows : Target → ℕ → ℕ → List Line → Type 0
Follows t place n [] = Unit {0}
Follows t place n (Let a ∷ lines) = Follows t place (suc n) lines
Follows t place n (Compute a op b ∷ lines) = Follows t place (suc n) lines
Follows t place n (Print when a ∷ lines) = Follows t place n lines
Follows t place n (Raise when a ∷ lines) = Follows t place n lines
Follows t place n (Return when a ∷ lines) = Follows t place n lines
Follows t place n (Await f args ∷ lines) =
    Callable t.source f (length args) × Stood t place (suc n) lines × Follows t (suc place) (suc n) lines
Follows t place n (AwaitWork kind a ∷ lines) = Stood t place (suc n) lines × Follows t (suc place) (suc n) lines
Follows t place n (Try f args g ∷ lines) =
    Callable t.source f (length args) × Callable t.source g 1 × Stood t place (suc n) lines × Follows t (suc place) (suc n) lines

-- a piece and what follows its awaits
pub record Stands (t : Target) (place n : ℕ) (lines : List Line) : Type 0 where
  pub stood : Stood t place n lines
  pub follows : Follows t (suc place) n lines
  pub short : length lines ≤ 64

-- the program has each function at its entry, and begins with the call of main
pub record IsTarget (t : Target) : Type 0 where
  pub funs : (f n : ℕ) → Callable t.source f n → Stands t (t.entry f) n (fun_lines t.source f)
  pub main : Callable t.source t.source.main 0
  pub starter : (a : ℕ) × (b : ℕ) × (lines_of t.procs 0 ≡ plain a (stmt.Ivar 0) ∷ plain b (stmt.Sched (t.entry t.source.main) (Local 0 ∷ [])) ∷ [])

-- ---- the chain
-- the values of a piece: the locals, and the ivar of its function's answer
abbrev pub piece_vals : List ℤ → ℕ → List Value
piece_vals locals r = map Num locals ++ Ivar r ∷ []

-- in which monitor the callee runs, when the caller runs in m'
pub record Guards (t : Target) (ms : List (Monitor Handler)) (r m m' g : ℕ) : Type 0 where
  pub below : m < length ms
  pub is : monitor_in ms m ≡ record { parent = m'; detached = true; handlers = (ctx_at m', OnError (t.entry g) (Ivar r ∷ [])) ∷ []; next_errors = [] }
  pub callable : Callable t.source g 1

abbrev pub Level : Target → List (Monitor Handler) → ℕ → ℕ → ℕ → Option ℕ → Type 0
Level t ms r m m' None = m ≡ m'
Level t ms r m m' (Some g) = Guards t ms r m m' g

-- a caller waits for the ivar r, which the callee in the monitor m answers; it answers r' itself, and runs in m'
pub record Link (t : Target) (c : Cells Frame) (ms : List (Monitor Handler)) (k : Caller) (place r r' m m' : ℕ) : Type 0 where
  pub empty : number_in r c ≡ None
  pub number : ℕ
  pub waits : waiting_on r c ≡ record { number = number; ivar = r; ctx = ctx_at m'; frame = OnValue place (piece_vals k.locals r') Drop } ∷ []
  pub older : r' < r
  pub drawn : r < length c.ivars
  pub stands : Stands t place (suc (length k.locals)) k.lines
  pub level : Level t ms r m m' k.catch

-- main answers an ivar for which nothing waits, in the root
pub record Root (c : Cells Frame) (ms : List (Monitor Handler)) (r m : ℕ) : Type 0 where
  pub empty : number_in r c ≡ None
  pub none : waiting_on r c ≡ []
  pub drawn : r < length c.ivars
  pub root : m ≡ 0
  pub there : 0 < length ms
  pub open_root : (monitor_in ms 0).detached ≡ false

abbrev pub Linked : Target → Cells Frame → List (Monitor Handler) → ℕ → ℕ → List Caller → Type 0
Linked t c ms r m [] = Root c ms r m
Linked t c ms r m (k ∷ callers) =
    (place : ℕ) × (r' : ℕ) × (m' : ℕ) × Link t c ms k place r r' m m' × Linked t c ms r' m' callers

-- ---- states
-- nothing waits but what the chain says
pub record Calm (s : State) : Type 0 where
  pub low : s.queues.low ≡ []
  pub clock : s.clock ≡ clock_at_zero
  pub helpers : s.helpers ≡ []
  pub requests : s.requests ≡ []
  pub left : s.left ≡ 0
  pub fresh : (j : ℕ) → length s.cells.ivars ≤ j → waiting_on j s.cells ≡ []

-- a job runs
pub record Within (s : State) (prints : List ℤ) (works : List Work) : Type 0 where
  pub calm : Calm s
  pub queued : s.queues.normal ≡ []
  pub none_out : s.works ≡ []
  pub told : Told s.trace prints works

-- how many jobs the callers can still take
abbrev pub weight_of : Option ℕ → ℕ
weight_of None = 1
weight_of (Some g) = 2

abbrev pub weight : List Caller → ℕ
weight [] = 0
weight (k ∷ callers) = weight_of k.catch + weight callers

-- one job waits: a piece at its begin. The rest of the walk costs at most n jobs, but for those that lines will ask for
pub record Ready (t : Target) (s : State) (w : Walked) (n : ℕ) : Type 0 where
  pub job : Job Task
  pub place : ℕ
  pub lines : List Line
  pub locals : List ℤ
  pub callers : List Caller
  pub r : ℕ
  pub m : ℕ
  pub calm : Calm s
  pub queued : s.queues.normal ≡ job ∷ []
  pub none_out : s.works ≡ []
  pub runs : (u : State) → run_job t.procs job u ≡ run_lines (ctx_at m) Drop (lines_of t.procs place) (noting (entry.Job job.no) u) (piece_vals locals r)
  pub stands : Stands t place (length locals) lines
  pub linked : Linked t s.cells s.monitors r m callers
  pub walk : w.walk ≡ walk_on lines locals callers
  pub told : Told s.trace w.prints w.works
  pub cost : suc (weight callers) ≤ n

-- main has answered, and nothing waits
pub record Finished (s : State) (w : Walked) : Type 0 where
  pub calm : Calm s
  pub queued : s.queues.normal ≡ []
  pub none_out : s.works ≡ []
  pub walk : w.walk ≡ source.Over
  pub told : Told s.trace w.prints w.works

-- one work is out, and its outcome is what the walk went on with
pub record Out (t : Target) (s : State) (w : Walked) (n : ℕ) (number : ℕ) (work : Work) : Type 0 where
  pub callers : List Caller
  pub r : ℕ
  pub m : ℕ
  pub calm : Calm s
  pub queued : s.queues.normal ≡ []
  pub out : s.works ≡ record { number = number; to = r; ctx = ctx_at m; helper = None } ∷ []
  pub linked : Linked t s.cells s.monitors r m callers
  pub walk : w.walk ≡ outcome_taken t.source (value_of work) callers
  pub told : Told s.trace w.prints w.works
  pub cost : weight callers ≤ n

-- the run has ended by an error
pub record Failed (s : State) (w : Walked) (e : ℤ) : Type 0 where
  pub walk : w.walk ≡ source.Raised e
  pub before : List Entry
  pub last : s.trace ≡ before ++ entry.Unhandled e ∷ entry.End ending.Unhandled ∷ []
  pub told : Told s.trace w.prints w.works

-- what a job or an arrival leaves
abbrev pub Left : Target → Flow → State → Walked → ℕ → Type 0
Left t flow.On s w n = Ready t s w n ⊎ Finished s w
Left t flow.Stopped s w n = ⊥
Left t (flow.Unhandled e) s w n = Failed s w e

-- a job has asked for a work
pub record Submits (t : Target) (a : Ask) (s : State) (rest : Rest) (w : Walked) (n : ℕ) : Type 0 where
  pub number : ℕ
  pub work : Work
  pub then : State
  pub asks : a ≡ ask.Submit number work None
  pub goes_on : run_lines rest.ctx rest.ret rest.lines s rest.vals ≡ Over (going_on then)
  pub out : Out t then w n number work

abbrev pub Leads : Target → Progress → Walked → ℕ → Type 0
Leads t (Over after) w n = Left t after.flow after.state w n
Leads t (Asking a s rest) w n = Submits t a s rest w n

-- ---- steps of the walk
abbrev pub IsAt : Walk → Type 0
IsAt (source.At line lines locals callers) = Unit {0}
IsAt source.Over = ⊥
IsAt (source.Raised e) = ⊥

-- so many lines are walked from here to there
abbrev pub Steps : Source → ℕ → Walked → Walked → Type 0
Steps p zero w v = w ≡ v
Steps p (suc n) w v = IsAt w.walk × Steps p n (source.stepped p w) v

-- a job that begins at w walks some lines, and leads to what stands for the walk there
pub record RunsTo (t : Target) (progress : Progress) (w : Walked) (base limit : ℕ) : Type 0 where
  pub count : ℕ
  pub spent : ℕ
  pub then : Walked
  pub steps : Steps t.source count w then
  pub few : count ≤ limit
  pub bound : spent ≤ base + 3 * count
  pub leads : Leads t progress then spent
