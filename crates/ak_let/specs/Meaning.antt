-- What the lines of a function come to: a number that it answers, or an error that it raises, with what is printed and which
-- works are taken on the way. Own.
use Rattle.std.specs.Prelude.{ℕ, ℤ, pos, ◌≡◌, List, [], ◌∷◌, ◌++◌, map, true, false, Option}
use Rattle.ak_labor.specs.declared.work.Work.{Work}
use Rattle.ak_labor.specs.declared.work.WorkKind.{WorkKind}
use Rattle.ak_labor.specs.declared.work.Outcome.{Outcome}
use Rattle.ak_labor.specs.declared.work.Outcome.TheVariants.{Good, Bad}
use Rattle.ak_labor.specs.Value.{value_of}
use Rattle.ak_script.specs.declared.statement.Operator.{Operator}
use Rattle.ak_machine.specs.Number.{Gives, Overflows, DividesByZero, computed}
use Rattle.ak_machine.specs.Effect.{overflow, zero_divisor}
use Rattle.ak_let.specs.declared.source.Atom.{Atom}
use Rattle.ak_let.specs.declared.source.Line.{Line}
use Rattle.ak_let.specs.declared.source.Line.TheVariants.{Let, Compute, Print, Raise, Return, Await, AwaitWork, Try}
use Rattle.ak_let.specs.declared.source.Source.{Source}
use Rattle.ak_let.specs.Eval.{Walk, Over, Raised, value, acts, printed, fun_lines}

pub data Does (p : Source) : List Line → List ℤ → List ℤ → List Work → Outcome → Type 0 where
  Ends : (locals : List ℤ) → Does p [] locals [] [] (Good (pos 0))
  Lets : (a : Atom) (lines : List Line) (locals ps : List ℤ) (ws : List Work) (o : Outcome)
      → Does p lines (value locals a ∷ locals) ps ws o → Does p (Let a ∷ lines) locals ps ws o
  Computes : (a : Atom) (op : Operator) (b : Atom) (z : ℤ) (lines : List Line) (locals ps : List ℤ)
      (ws : List Work) (o : Outcome)
      → computed op (value locals a) (value locals b) ≡ Gives z → Does p lines (z ∷ locals) ps ws o
      → Does p (Compute a op b ∷ lines) locals ps ws o
  Exceeds : (a : Atom) (op : Operator) (b : Atom) (lines : List Line) (locals : List ℤ)
      → computed op (value locals a) (value locals b) ≡ Overflows
      → Does p (Compute a op b ∷ lines) locals [] [] (Bad overflow)
  Divides : (a : Atom) (op : Operator) (b : Atom) (lines : List Line) (locals : List ℤ)
      → computed op (value locals a) (value locals b) ≡ DividesByZero
      → Does p (Compute a op b ∷ lines) locals [] [] (Bad zero_divisor)
  Prints : (when : Option Atom) (a : Atom) (lines : List Line) (locals ps : List ℤ) (ws : List Work)
      (o : Outcome)
      → Does p lines locals ps ws o
      → Does p (Print when a ∷ lines) locals (printed locals (Print when a) ++ ps) ws o
  Raises : (when : Option Atom) (a : Atom) (lines : List Line) (locals : List ℤ) → acts locals when ≡ true
      → Does p (Raise when a ∷ lines) locals [] [] (Bad (value locals a))
  Raises_not : (when : Option Atom) (a : Atom) (lines : List Line) (locals ps : List ℤ) (ws : List Work)
      (o : Outcome)
      → acts locals when ≡ false → Does p lines locals ps ws o → Does p (Raise when a ∷ lines) locals ps ws o
  Returns : (when : Option Atom) (a : Atom) (lines : List Line) (locals : List ℤ) → acts locals when ≡ true
      → Does p (Return when a ∷ lines) locals [] [] (Good (value locals a))
  Returns_not : (when : Option Atom) (a : Atom) (lines : List Line) (locals ps : List ℤ) (ws : List Work)
      (o : Outcome)
      → acts locals when ≡ false → Does p lines locals ps ws o → Does p (Return when a ∷ lines) locals ps ws o
  Awaits : (f : ℕ) (args : List Atom) (v : ℤ) (lines : List Line) (locals ps qs : List ℤ) (ws xs : List Work)
      (o : Outcome)
      → Does p (fun_lines p f) (map (value locals) args) ps ws (Good v) → Does p lines (v ∷ locals) qs xs o
      → Does p (Await f args ∷ lines) locals (ps ++ qs) (ws ++ xs) o
  Awaits_error : (f : ℕ) (args : List Atom) (e : ℤ) (lines : List Line) (locals ps : List ℤ) (ws : List Work)
      → Does p (fun_lines p f) (map (value locals) args) ps ws (Bad e)
      → Does p (Await f args ∷ lines) locals ps ws (Bad e)
  Works : (kind : WorkKind) (a : Atom) (v : ℤ) (lines : List Line) (locals ps : List ℤ) (ws : List Work)
      (o : Outcome)
      → value_of (record { kind = kind; num = value locals a }) ≡ Good v → Does p lines (v ∷ locals) ps ws o
      → Does p (AwaitWork kind a ∷ lines) locals ps (record { kind = kind; num = value locals a } ∷ ws) o
  Works_error : (kind : WorkKind) (a : Atom) (e : ℤ) (lines : List Line) (locals : List ℤ)
      → value_of (record { kind = kind; num = value locals a }) ≡ Bad e
      → Does p (AwaitWork kind a ∷ lines) locals [] (record { kind = kind; num = value locals a } ∷ [])
      (Bad e)
  Tries : (f : ℕ) (args : List Atom) (g : ℕ) (v : ℤ) (lines : List Line) (locals ps qs : List ℤ)
      (ws xs : List Work) (o : Outcome)
      → Does p (fun_lines p f) (map (value locals) args) ps ws (Good v) → Does p lines (v ∷ locals) qs xs o
      → Does p (Try f args g ∷ lines) locals (ps ++ qs) (ws ++ xs) o
  Catches : (f : ℕ) (args : List Atom) (g : ℕ) (e v : ℤ) (lines : List Line) (locals ps qs rs : List ℤ)
      (ws xs ys : List Work) (o : Outcome)
      → Does p (fun_lines p f) (map (value locals) args) ps ws (Bad e)
      → Does p (fun_lines p g) (e ∷ []) qs xs (Good v) → Does p lines (v ∷ locals) rs ys o
      → Does p (Try f args g ∷ lines) locals (ps ++ (qs ++ rs)) (ws ++ (xs ++ ys)) o
  Catches_error : (f : ℕ) (args : List Atom) (g : ℕ) (e k : ℤ) (lines : List Line) (locals ps qs : List ℤ)
      (ws xs : List Work)
      → Does p (fun_lines p f) (map (value locals) args) ps ws (Bad e)
      → Does p (fun_lines p g) (e ∷ []) qs xs (Bad k)
      → Does p (Try f args g ∷ lines) locals (ps ++ qs) (ws ++ xs) (Bad k)

-- how a walk of main ends that comes to this
abbrev pub ending_of : Outcome → Walk
ending_of (Good v) = Over
ending_of (Bad e) = Raised e
