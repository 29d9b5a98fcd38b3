-- Validity of a script: names are looked up in the lines before.
use Rattle.std.specs.Prelude.{◌≡◌, ◌≢◌, ℕ, ◌≤◌, Option, Some, None, List, [], ◌∷◌, ◌++◌, map, length, take, drop, codes, MatchOption}
use Rattle.std.specs.List.{AllByRecursion, Any, AllZip, find}
use Rattle.std.specs.Str.{bytes_eq}
use Rattle.ak_script.specs.Kinds.{Serves}
use Rattle.ak_script.specs.declared.script.Kind.TheVariants as of_kind
use Rattle.ak_script.specs.declared.script.Param.{Param}
use Rattle.ak_script.specs.declared.script.Prefix.{Prefix}
use Rattle.ak_script.specs.declared.script.Prefix.TheVariants.{If, Unless}
use Rattle.ak_script.specs.declared.script.Statement.{Statement}
use Rattle.ak_script.specs.declared.script.Proc.{Proc}
use Rattle.ak_script.specs.declared.statement.Atom.{Atom}
use Rattle.ak_script.specs.declared.statement.Atom.TheVariants.{Literal, Local}
use Rattle.ak_script.specs.Statements.{binds}
use Rattle.ak_syntax.specs.Grammar.{locals}
use Rattle.ak_valid.specs.Uses.{Use, Callee, uses, callees, number, local}

-- no name stands twice
abbrev pub AreDistinct : List (List ℕ) → Type 0
AreDistinct [] = Unit {0}
AreDistinct (name ∷ names) = AllByRecursion (λ other. name ≢ other) names × AreDistinct names

-- the first procedure of the name
abbrev pub proc_named : List Proc → List ℕ → Option Proc
proc_named procs name = find (λ proc. bytes_eq name proc.name) procs

-- the first local of the name
abbrev pub local_named : List Param → List ℕ → Option Param
local_named known name = find (λ param. bytes_eq name param.name) known

-- a local of the name is known, and its kind serves
abbrev pub IsKnown : List Param → Use → Type 0
IsKnown known used = MatchOption (local_named known used.name) ⊥ (λ param. Any (Serves param.kind) used.wanted)

-- an argument is a number or a known local, as the parameter wants it
abbrev pub IsPassed : List Param → Atom → Param → Type 0
IsPassed known (Literal n) param = param.kind ≡ of_kind.Num
IsPassed known (Local name) param = IsKnown known (local name param.kind)

-- the parameters take the numbers in front and then the arguments, and no more
pub record Takes (known : List Param) (params : List Param) (callee : Callee) : Type 0 where
  pub front : AllByRecursion (λ param. param.kind ≡ of_kind.Num) (take callee.front params)
  pub enough : callee.front ≤ length params
  pub args : AllZip (IsPassed known) callee.args (drop callee.front params)

-- a procedure of the name is there, and takes what the call passes
abbrev pub IsCallable : List Proc → List Param → Callee → Type 0
IsCallable procs known callee = MatchOption (proc_named procs callee.name) ⊥ (λ proc. Takes known proc.params callee)

-- the locals that a prefix uses
abbrev pub prefix_uses : Option Prefix → List Use
prefix_uses None = []
prefix_uses (Some (If a)) = number a
prefix_uses (Some (Unless a)) = number a

-- a statement behind the lines that bind the known locals
pub record StatementIsValid (procs : List Proc) (known : List Param) (statement : Statement) : Type 0 where
  pub prefix : AllByRecursion (IsKnown known) (prefix_uses statement.prefix)
  pub uses : AllByRecursion (IsKnown known) (uses statement.stmt)
  pub calls : AllByRecursion (IsCallable procs known) (callees statement.stmt)

-- each line uses what the lines before it bind
abbrev pub LinesAreValid : List Proc → List Param → List Statement → Type 0
LinesAreValid procs known [] = Unit {0}
LinesAreValid procs known (statement ∷ rest) = StatementIsValid procs known statement × LinesAreValid procs (known ++ binds statement.stmt) rest

-- a procedure among those of the script
pub record ProcIsValid (procs : List Proc) (proc : Proc) : Type 0 where
  pub locals : AreDistinct (map (λ param. param.name) (locals proc))
  pub lines : LinesAreValid procs proc.params proc.body

-- `main` is there and has no parameters
abbrev pub HasMain : List Proc → Type 0
HasMain script = MatchOption (proc_named script (codes "main")) ⊥ (λ proc. proc.params ≡ [])

-- a script without a fault
pub record Valid (script : List Proc) : Type 0 where
  pub main : HasMain script
  pub procs : AreDistinct (map (λ proc. proc.name) script)
  pub each : AllByRecursion (ProcIsValid script) script
