-- The plain evaluator of the let dialect: it walks the lines one by one. It knows no jobs, deferreds or monitors. Own.
use Rattle.std.specs.Prelude.{ℕ, ℤ, pos, zero, suc, List, [], ◌∷◌, ◌++◌, map, Bool, true, not, Option, Some, None, slice_index_or, if◌then◌else◌}
use Rattle.ak_labor.specs.declared.work.Work.{Work}
use Rattle.ak_labor.specs.declared.work.Outcome.{Outcome}
use Rattle.ak_labor.specs.declared.work.Outcome.TheVariants.{Good, Bad}
use Rattle.ak_labor.specs.Value.{value_of}
use Rattle.ak_machine.specs.Number.{Computed, Gives, Overflows, DividesByZero, computed, is_zero}
use Rattle.ak_machine.specs.Effect.{overflow, zero_divisor}
use Rattle.ak_let.specs.declared.source.Atom.{Atom}
use Rattle.ak_let.specs.declared.source.Atom.TheVariants.{Given, Known}
use Rattle.ak_let.specs.declared.source.Line.{Line}
use Rattle.ak_let.specs.declared.source.Line.TheVariants.{Let, Compute, Print, Raise, Return, Await, AwaitWork, Try}
use Rattle.ak_let.specs.declared.source.Source.{Source}

-- a function that waits for an answer: its lines behind the call, its locals, and who takes an error, where it tries
pub record Caller : Type 0 where
  pub lines : List Line
  pub locals : List ℤ
  pub catch : Option ℕ

-- where the walk is: before a line, with the lines behind it, the locals and the callers, the innermost first; or past main
pub data Walk : Type 0 where
  At : Line → List Line → List ℤ → List Caller → Walk
  Over : Walk
  Raised : ℤ → Walk

-- the number of an atom
abbrev pub value : List ℤ → Atom → ℤ
value locals (Given z) = z
value locals (Known k) = slice_index_or locals k (pos 0)

-- whether a line acts
abbrev pub acts : List ℤ → Option Atom → Bool
acts locals None = true
acts locals (Some b) = not (is_zero (value locals b))

-- before the first of these lines; where there is none, elsewhere
abbrev pub on : List Line → List ℤ → List Caller → Walk → Walk
on [] locals callers elsewhere = elsewhere
on (line ∷ lines) locals callers elsewhere = At line lines locals callers

-- a function answers: its caller has a new local and walks on, and one without a further line answers 0
abbrev pub answered : ℤ → List Caller → Walk
answered v [] = Over
answered v (c ∷ callers) = on c.lines (v ∷ c.locals) callers (answered (pos 0) callers)

-- a function walks on with these lines, and answers 0 where there is none
abbrev pub walk_on : List Line → List ℤ → List Caller → Walk
walk_on lines locals callers = on lines locals callers (answered (pos 0) callers)

-- the lines of a function
abbrev pub fun_lines : Source → ℕ → List Line
fun_lines p f = (slice_index_or p.funs f (record { params = 0; lines = [] })).lines

-- a function is called
abbrev pub called : Source → ℕ → List ℤ → List Caller → Walk
called p f args callers = walk_on (fun_lines p f) args callers

-- a caller that tries calls its handler with the error; another is left
abbrev pub caught : Option ℕ → Source → ℤ → Caller → List Caller → Walk → Walk
caught None p e c callers further = further
caught (Some g) p e c callers further = called p g (e ∷ []) (record c { catch = None } ∷ callers)

-- a function raises
abbrev pub thrown : Source → ℤ → List Caller → Walk
thrown p e [] = Raised e
thrown p e (c ∷ callers) = caught c.catch p e c callers (thrown p e callers)

-- a work answers, or its error is raised
abbrev pub outcome_taken : Source → Outcome → List Caller → Walk
outcome_taken p (Good v) callers = answered v callers
outcome_taken p (Bad e) callers = thrown p e callers

-- an operation gives a new local, or raises
abbrev pub computed_to : Source → Computed → List Line → List ℤ → List Caller → Walk
computed_to p (Gives z) lines locals callers = walk_on lines (z ∷ locals) callers
computed_to p Overflows lines locals callers = thrown p overflow callers
computed_to p DividesByZero lines locals callers = thrown p zero_divisor callers

-- where a line leads
abbrev pub next : Source → Line → List Line → List ℤ → List Caller → Walk
next p (Let a) lines locals callers = walk_on lines (value locals a ∷ locals) callers
next p (Compute a op b) lines locals callers =
    computed_to p (computed op (value locals a) (value locals b)) lines locals callers
next p (Print when a) lines locals callers = walk_on lines locals callers
next p (Raise when a) lines locals callers =
    if acts locals when then thrown p (value locals a) callers else walk_on lines locals callers
next p (Return when a) lines locals callers =
    if acts locals when then answered (value locals a) callers else walk_on lines locals callers
next p (Await f args) lines locals callers =
    called p f (map (value locals) args) (record { lines = lines; locals = locals; catch = None } ∷ callers)
next p (AwaitWork kind a) lines locals callers =
    outcome_taken p (value_of (record { kind = kind; num = value locals a }))
    (record { lines = lines; locals = locals; catch = None } ∷ callers)
next p (Try f args g) lines locals callers =
    called p f (map (value locals) args) (record { lines = lines; locals = locals; catch = Some g } ∷ callers)

-- what a line prints
abbrev pub printed : List ℤ → Line → List ℤ
printed locals (Print when a) = if acts locals when then value locals a ∷ [] else []
printed locals line = []

-- the work that a line takes
abbrev pub taken : List ℤ → Line → List Work
taken locals (AwaitWork kind a) = record { kind = kind; num = value locals a } ∷ []
taken locals line = []

-- where the walk is, the numbers printed and the works taken
pub record Walked : Type 0 where
  pub walk : Walk
  pub prints : List ℤ
  pub works : List Work

-- one line is walked; past main nothing is
abbrev pub stepped_from : Source → Walk → Walked → Walked
stepped_from p (At line lines locals callers) w =
    record {
      walk = next p line lines locals callers;
      prints = w.prints ++ printed locals line;
      works = w.works ++ taken locals line;
    }
stepped_from p Over w = w
stepped_from p (Raised e) w = w

abbrev pub stepped : Source → Walked → Walked
stepped p w = stepped_from p w.walk w

-- before the first line of main
abbrev pub begun : Source → Walked
begun p = record { walk = called p p.main [] []; prints = []; works = [] }

-- the evaluator: n lines are walked, where there are so many
abbrev pub eval : Source → ℕ → Walked
eval p zero = begun p
eval p (suc n) = stepped p (eval p n)
