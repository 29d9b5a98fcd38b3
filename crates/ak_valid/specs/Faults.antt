-- The faults of a script: its lines in their order, each with the kinds of its faults. A fault stands where a name is
-- looked up in the lines before and isn't there, is there already, or is of another kind than its place wants.
use Rattle.std.specs.Prelude.{◌≡◌, ℕ, ◌+◌, ◌==◌, Bool, true, false, Option, Some, None, List, [], ◌∷◌, ◌++◌, length, take, drop, codes, if◌then◌else◌}
use Rattle.std.specs.List.{flat_map, list_any}
use Rattle.std.specs.Option.{option_map_or}
use Rattle.std.specs.Str.{bytes_eq}
use Rattle.ak_script.specs.declared.script.Kind.{Kind}
use Rattle.ak_script.specs.declared.script.Kind.TheVariants as of_kind
use Rattle.ak_script.specs.declared.script.Param.{Param}
use Rattle.ak_script.specs.declared.script.Statement.{Statement}
use Rattle.ak_script.specs.declared.script.Proc.{Proc}
use Rattle.ak_script.specs.declared.statement.Atom.{Atom}
use Rattle.ak_script.specs.declared.statement.Atom.TheVariants.{Literal, Local}
use Rattle.ak_script.specs.Statements.{binds}
use Rattle.ak_valid.specs.declared.refusal.FaultKind.{FaultKind}
use Rattle.ak_valid.specs.Kinds.{lesser_by, least_by}
use Rattle.ak_valid.specs.declared.refusal.FaultKind.TheVariants.{NoMain, TwiceNamed, UnknownName, WrongKind, WrongCount}
use Rattle.ak_valid.specs.Numbered.{param_names}
use Rattle.ak_valid.specs.Uses.{Use, Callee, local, uses, callees}
use Rattle.ak_valid.specs.Valid.{local_named, proc_named, prefix_uses}

-- ---- names
-- names that stand before, or twice among these
abbrev pub twice_named : List (List ℕ) → List (List ℕ) → List FaultKind
twice_named before [] = []
twice_named before (name ∷ names) = (if list_any (bytes_eq name) before then TwiceNamed ∷ [] else []) ++ twice_named (before ++ name ∷ []) names

-- ---- kinds
-- whether a local of the one kind may stand where the other is wanted: an ivar may be used as a deferred
abbrev pub may_serve : Kind → Kind → Bool
may_serve of_kind.Num of_kind.Num = true
may_serve of_kind.Ivar of_kind.Ivar = true
may_serve of_kind.Ivar of_kind.Def = true
may_serve of_kind.Def of_kind.Def = true
may_serve of_kind.Mon of_kind.Mon = true
may_serve of_kind.Pipe of_kind.Pipe = true
may_serve of_kind.Thr of_kind.Thr = true
may_serve of_kind.Event of_kind.Event = true
may_serve of_kind.Helper of_kind.Helper = true
may_serve kind wanted = false

-- something of the one kind where one of the others is wanted
abbrev pub kind_faults : Kind → List Kind → List FaultKind
kind_faults kind wanted = if list_any (may_serve kind) wanted then [] else WrongKind ∷ []

-- a local that is used, behind the lines that bind the known ones
abbrev pub use_faults : List Param → Use → List FaultKind
use_faults known used = option_map_or (λ param. kind_faults param.kind used.wanted) (local_named known used.name) (UnknownName ∷ [])

-- ---- calls
-- an argument that is no known local
abbrev pub unknown_faults : List Param → Atom → List FaultKind
unknown_faults known (Literal n) = []
unknown_faults known (Local name) = option_map_or (λ param. []) (local_named known name) (UnknownName ∷ [])

-- an argument in the place of a parameter: a number stands for a number
abbrev pub passed_faults : List Param → Atom → Param → List FaultKind
passed_faults known (Literal n) param = kind_faults of_kind.Num (param.kind ∷ [])
passed_faults known (Local name) param = use_faults known (local name param.kind)

-- arguments and parameters, as far as both lists reach
abbrev pub args_faults : List Param → List Atom → List Param → List FaultKind
args_faults known [] params = []
args_faults known (a ∷ args) [] = []
args_faults known (a ∷ args) (param ∷ params) = passed_faults known a param ++ args_faults known args params

-- a number in the place of a parameter
abbrev pub front_faults : Param → List FaultKind
front_faults param = kind_faults of_kind.Num (param.kind ∷ [])

-- the numbers in front and the arguments differ in their count from the parameters
abbrev pub count_faults : List Param → Callee → List FaultKind
count_faults params callee = if (callee.front + length callee.args) == length params then [] else WrongCount ∷ []

-- the numbers in front and then the arguments, for these parameters
abbrev pub takes_faults : List Param → List Param → Callee → List FaultKind
takes_faults known params callee =
    flat_map front_faults (take callee.front params) ++ args_faults known callee.args (drop callee.front params)
    ++ count_faults params callee

-- a procedure that is called
abbrev pub callee_faults : List Proc → List Param → Callee → List FaultKind
callee_faults procs known callee =
    flat_map (unknown_faults known) callee.args ++ option_map_or (λ proc. takes_faults known proc.params callee)
    (proc_named procs callee.name) (UnknownName ∷ [])

-- ---- lines
-- a statement behind the lines that bind the known locals
abbrev pub statement_faults : List Proc → List Param → Statement → List FaultKind
statement_faults procs known statement =
    twice_named (param_names known) (param_names (binds statement.stmt))
    ++ flat_map (use_faults known) (prefix_uses statement.prefix)
    ++ flat_map (use_faults known) (uses statement.stmt)
    ++ flat_map (callee_faults procs known) (callees statement.stmt)

-- parameters of a procedure that is named `main`
abbrev pub main_faults : Proc → List FaultKind
main_faults proc = if bytes_eq (codes "main") proc.name then (if length proc.params == 0 then [] else WrongCount ∷ []) else []

-- the first line of a procedure behind those of these names
abbrev pub head_faults : List (List ℕ) → Proc → List FaultKind
head_faults before proc = twice_named before (proc.name ∷ []) ++ twice_named [] (param_names proc.params) ++ main_faults proc

-- a line by its number, with the kinds of its faults
pub record Line : Type 0 where
  pub number : ℕ
  pub faults : List FaultKind

-- the lines of a body, each behind those that bind the known locals
abbrev pub body_lines : List Proc → List Param → List Statement → List Line
body_lines procs known [] = []
body_lines procs known (statement ∷ rest) = record { number = statement.line; faults = statement_faults procs known statement }
    ∷ body_lines procs (known ++ binds statement.stmt) rest

-- the lines of a procedure but for `end`, which has no fault
abbrev pub proc_lines : List Proc → List (List ℕ) → Proc → List Line
proc_lines procs before proc = record { number = proc.line; faults = head_faults before proc } ∷ body_lines procs proc.params proc.body

-- the lines of procedures, each behind those of the names before
abbrev pub procs_lines : List Proc → List (List ℕ) → List Proc → List Line
procs_lines procs before [] = []
procs_lines procs before (proc ∷ rest) = proc_lines procs before proc ++ procs_lines procs (before ++ proc.name ∷ []) rest

-- line 0, before all lines: a `main` is there
abbrev pub line_zero : List Proc → Line
line_zero script = record { number = 0; faults = option_map_or (λ proc. []) (proc_named script (codes "main")) (NoMain ∷ []) }

-- the lines of a script
abbrev pub script_lines : List Proc → List Line
script_lines script = line_zero script ∷ procs_lines script [] script

-- ---- the first line with a fault
-- kinds by their numbers
abbrev pub kind_number : FaultKind → ℕ
kind_number NoMain = 5
kind_number TwiceNamed = 6
kind_number UnknownName = 7
kind_number WrongKind = 8
kind_number WrongCount = 9

-- the lesser of two kinds that may be there
abbrev pub lesser : Option FaultKind → Option FaultKind → Option FaultKind
lesser a b = lesser_by kind_number a b

-- the least of some kinds
abbrev pub least : List FaultKind → Option FaultKind
least kinds = least_by kind_number kinds

-- the first line with a fault, and the number of its least kind
abbrev pub first_fault : List Line → Option (ℕ × ℕ)
first_fault [] = None
first_fault (line ∷ lines) = option_map_or (λ kind. Some (line.number, kind_number kind)) (least line.faults) (first_fault lines)

-- the fault of a script
abbrev pub ValidFault : List Proc → ℕ → ℕ → Type 0
ValidFault script line kind = first_fault (script_lines script) ≡ Some (line, kind)
