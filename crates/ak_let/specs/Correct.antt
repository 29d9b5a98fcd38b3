-- What it is for a run of the compiled script to be that of its source. Own.
use Rattle.std.specs.Prelude.{ℕ, ℤ, suc, ◌+◌, ◌*◌, ◌≤◌, ◌<◌, ◌≡◌, ◌⊎◌, List, [], ◌∷◌, ◌++◌, length, Option, Some, None, slice_index_or}
use Rattle.std.specs.List.{filter_map, AllByRecursion}
use Rattle.ak_labor.specs.declared.work.Work.{Work}
use Rattle.ak_labor.specs.declared.work.Outcome.{Outcome}
use Rattle.ak_labor.specs.declared.ask.Ask.TheVariants as ask
use Rattle.ak_labor.specs.Arrived.{Arrived}
use Rattle.ak_labor.specs.Calls.{Reply, Drained, Granted, Done}
use Rattle.ak_labor.specs.Value.{value_of}
use Rattle.ak_trace.specs.declared.entry.Entry.{Entry}
use Rattle.ak_trace.specs.declared.entry.Entry.TheVariants as entry
use Rattle.ak_trace.specs.declared.entry.Ending.TheVariants as ending
use Rattle.ak_program.specs.declared.program.NumProc.{NumProc}
use Rattle.ak_program.specs.Programs.{NumProgram}
use Rattle.ak_labor.specs.declared.config.Config.{Config}
use Rattle.ak_machine.specs.Run.{Machine, Wants, ran_to, stepped}
use Rattle.ak_history.specs.declared.event.Event.{Event}
use Rattle.ak_history.specs.Legal.{Legal}
use Rattle.ak_meets.specs.Meets.{Meets, Yes, run_to}
use Rattle.ak_let.specs.declared.source.Atom.{Atom}
use Rattle.ak_let.specs.declared.source.Atom.TheVariants.{Given, Known}
use Rattle.ak_let.specs.declared.source.Line.{Line}
use Rattle.ak_let.specs.declared.source.Line.TheVariants.{Let, Compute, Print, Raise, Return, Await, AwaitWork, Try}
use Rattle.ak_let.specs.declared.source.Fun.{Fun}
use Rattle.ak_let.specs.declared.source.Source.{Source}
use Rattle.ak_let.specs.Eval.{Walk, At, Over, Raised, eval}

-- ---- sources that compile
-- a function that is there and has so many parameters
pub record Callable (p : Source) (f n : ℕ) : Type 0 where
  pub there : f < length p.funs
  pub takes : (slice_index_or p.funs f (record { params = 0; lines = [] })).params ≡ n

-- the calls of a line fit
abbrev pub CallsFit : Source → Line → Type 0
CallsFit p (Let a) = Unit {0}
CallsFit p (Compute a op b) = Unit {0}
CallsFit p (Print when a) = Unit {0}
CallsFit p (Raise when a) = Unit {0}
CallsFit p (Return when a) = Unit {0}
CallsFit p (Await f args) = Callable p f (length args)
CallsFit p (AwaitWork kind a) = Unit {0}
CallsFit p (Try f args g) = Callable p f (length args) × Callable p g 1

-- a function has at most 15 lines, whose calls fit
pub record FunIsSound (p : Source) (fun : Fun) : Type 0 where
  pub short : length fun.lines ≤ 15
  pub calls : AllByRecursion (CallsFit p) fun.lines

-- each function is sound, and main has no parameters
pub record IsSound (p : Source) : Type 0 where
  pub each : AllByRecursion (FunIsSound p) p.funs
  pub main : Callable p p.main 0

-- ---- traces
abbrev pub printed_in : Entry → Option ℤ
printed_in (entry.Print z) = Some z
printed_in e = None

abbrev pub work_in : Entry → Option Work
work_in (entry.Submit w kind z) = Some (record { kind = kind; num = z })
work_in e = None

abbrev pub prints_of : List Entry → List ℤ
prints_of trace = filter_map printed_in trace

abbrev pub works_of : List Entry → List Work
works_of trace = filter_map work_in trace

abbrev pub IsPrefix : {X : Type 0} → List X → List X → Type 0
IsPrefix {X} xs ys = (rest : List X) × (ys ≡ xs ++ rest)

-- the prints and works of the trace are those of the walk
pub record Told (trace : List Entry) (prints : List ℤ) (works : List Work) : Type 0 where
  pub prints_are : prints_of trace ≡ prints
  pub works_are : works_of trace ≡ works

-- ---- what is said of a run that has ended, with at most so many jobs
pub record EndsIdle (p : Source) (jobs : ℕ) (trace : List Entry) : Type 0 where
  pub before : List Entry
  pub last : trace ≡ before ++ entry.End ending.Idle ∷ []
  pub told : Told trace (eval p (64 * jobs)).prints (eval p (64 * jobs)).works
  pub walk : (eval p (64 * jobs)).walk ≡ Over

pub record EndsUnhandled (p : Source) (jobs : ℕ) (trace : List Entry) : Type 0 where
  pub before : List Entry
  pub error : ℤ
  pub last : trace ≡ before ++ entry.Unhandled error ∷ entry.End ending.Unhandled ∷ []
  pub told : Told trace (eval p (64 * jobs)).prints (eval p (64 * jobs)).works
  pub walk : (eval p (64 * jobs)).walk ≡ Raised error

-- the walk is past main
abbrev pub IsOver : Walk → Type 0
IsOver (At line lines locals callers) = ⊥
IsOver Over = Unit {0}
IsOver (Raised e) = Unit {0}

pub record EndsAtJobs (p : Source) (jobs : ℕ) (trace : List Entry) : Type 0 where
  pub before : List Entry
  pub last : trace ≡ before ++ entry.End ending.Jobs ∷ []
  pub prints : IsPrefix (prints_of trace) (eval p (64 * jobs)).prints
  pub works : IsPrefix (works_of trace) (eval p (64 * jobs)).works
  pub not_sooner : (m : ℕ) → 8 * m + 8 ≤ jobs → IsOver (eval p m).walk → ⊥

abbrev pub EndsAs : Source → ℕ → List Entry → Type 0
EndsAs p jobs trace = EndsIdle p jobs trace ⊎ (EndsUnhandled p jobs trace ⊎ EndsAtJobs p jobs trace)

-- ---- a pool that does its works
-- where the machine asks for a work, the pool's outcome for that number is the work's value
abbrev pub AsksFor : (ℕ → Outcome) → Machine → Type 0
AsksFor outcome m =
    (id : ℕ) (work : Work) → ran_to m.place ≡ Wants (ask.Submit id work None) → outcome id ≡ value_of work

-- works with the pool's outcomes, where nobody asks from outside
pub record BringsAll (outcome : ℕ → Outcome) (arrived : Arrived) : Type 0 where
  pub works : AllByRecursion (λ (pair : ℕ × Outcome). pair.1 ≡ outcome pair.0) arrived.works
  pub requests : arrived.requests ≡ []
  pub left : arrived.left ≡ 0

-- the reply to a drain that brings these works
abbrev pub brings : List (ℕ × Outcome) → Reply
brings works = Drained (record { works = works; requests = []; left = 0 })

-- a drain brings works with the pool's outcomes, and no request
abbrev pub Brings : (ℕ → Outcome) → Reply → Type 0
Brings outcome (Drained arrived) = BringsAll outcome arrived
Brings outcome (Granted b) = Unit {0}
Brings outcome Done = Unit {0}

-- the machine, given these replies one by one, meets a pool with these outcomes
abbrev pub AreTrue : (ℕ → Outcome) → NumProgram → Config → Machine → List Reply → Type 0
AreTrue outcome program config m [] = Unit {0}
AreTrue outcome program config m (reply ∷ replies) =
    AsksFor outcome m × Brings outcome reply
    × AreTrue outcome program config (stepped program config m reply) replies

-- ---- the theorem
-- every run of the script that a legal history meets is that of the source
abbrev pub IsCorrect : Source → NumProgram → Type 0
IsCorrect p program =
    (config : Config) (history : List Event) → 1 ≤ config.threads → config.askers ≡ 0
    → Legal config.threads config.askers history
    → (met : Meets program config history Yes)
    → EndsAs p config.jobs (run_to program config history met.0).trace

-- ---- limits
-- the lines of the text of functions: their first lines, their own and their ends
abbrev pub text_lines : List Fun → ℕ
text_lines [] = 0
text_lines (fun ∷ funs) = length fun.lines + 2 + text_lines funs

-- how many locals these lines bind
abbrev pub bound_by : List Line → ℕ
bound_by [] = 0
bound_by (Let a ∷ lines) = suc (bound_by lines)
bound_by (Compute a op b ∷ lines) = suc (bound_by lines)
bound_by (Print when a ∷ lines) = bound_by lines
bound_by (Raise when a ∷ lines) = bound_by lines
bound_by (Return when a ∷ lines) = bound_by lines
bound_by (Await f args ∷ lines) = suc (bound_by lines)
bound_by (AwaitWork kind a ∷ lines) = suc (bound_by lines)
bound_by (Try f args g ∷ lines) = suc (bound_by lines)

-- a function has at most 15 lines and 7 locals
pub record FunIsWithin (fun : Fun) : Type 0 where
  pub lines : length fun.lines ≤ 15
  pub locals : fun.params + bound_by fun.lines ≤ 7

-- a procedure has at most 8 parameters and 64 statements
pub record ProcIsWithin (proc : NumProc) : Type 0 where
  pub params : length proc.params ≤ 8
  pub statements : length proc.body ≤ 64

-- ---- sources whose locals are bound before they are used
abbrev pub IsKnownAtom : ℕ → Atom → Type 0
IsKnownAtom n (Given z) = Unit {0}
IsKnownAtom n (Known k) = k < n

abbrev pub IsKnownWhen : ℕ → Option Atom → Type 0
IsKnownWhen n None = Unit {0}
IsKnownWhen n (Some b) = IsKnownAtom n b

-- these lines use the n locals before them and those that they bind
abbrev pub LinesAreScoped : ℕ → List Line → Type 0
LinesAreScoped n [] = Unit {0}
LinesAreScoped n (Let a ∷ lines) = IsKnownAtom n a × LinesAreScoped (suc n) lines
LinesAreScoped n (Compute a op b ∷ lines) = IsKnownAtom n a × IsKnownAtom n b × LinesAreScoped (suc n) lines
LinesAreScoped n (Print when a ∷ lines) = IsKnownWhen n when × IsKnownAtom n a × LinesAreScoped n lines
LinesAreScoped n (Raise when a ∷ lines) = IsKnownWhen n when × IsKnownAtom n a × LinesAreScoped n lines
LinesAreScoped n (Return when a ∷ lines) = IsKnownWhen n when × IsKnownAtom n a × LinesAreScoped n lines
LinesAreScoped n (Await f args ∷ lines) = AllByRecursion (IsKnownAtom n) args × LinesAreScoped (suc n) lines
LinesAreScoped n (AwaitWork kind a ∷ lines) = IsKnownAtom n a × LinesAreScoped (suc n) lines
LinesAreScoped n (Try f args g ∷ lines) = AllByRecursion (IsKnownAtom n) args × LinesAreScoped (suc n) lines

abbrev pub FunIsScoped : Fun → Type 0
FunIsScoped fun = LinesAreScoped fun.params fun.lines
