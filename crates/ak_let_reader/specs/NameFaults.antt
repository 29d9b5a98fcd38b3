-- The faults of names: the lines of functions in their order, each with the kinds of its faults. Own.
use Rattle.std.specs.Prelude.{ℕ, ◌==◌, Option, Some, None, List, [], ◌∷◌, ◌++◌, length, codes, if◌then◌else◌}
use Rattle.std.specs.List.{flat_map, find, list_any}
use Rattle.std.specs.Option.{option_map_or}
use Rattle.std.specs.Str.{bytes_eq}
use Rattle.ak_script.specs.declared.statement.Atom.{Atom}
use Rattle.ak_script.specs.declared.statement.Atom.TheVariants.{Literal, Local}
use Rattle.ak_valid.specs.Kinds.{least_by}
use Rattle.ak_let_syntax.specs.declared.named.NamedStmt.{NamedStmt}
use Rattle.ak_let_syntax.specs.declared.named.NamedStmt.TheVariants.{Let, Compute, Print, Raise, Return, Await, AwaitWork, Try}
use Rattle.ak_let_syntax.specs.declared.named.NamedLine.{NamedLine}
use Rattle.ak_let_syntax.specs.declared.named.NamedFun.{NamedFun}
use Rattle.ak_let_syntax.specs.declared.refusal.LetFault.{LetFault}
use Rattle.ak_let_syntax.specs.declared.refusal.LetFault.TheVariants.{NoMain, TwiceNamed, UnknownName, WrongCount}
use Rattle.ak_let_syntax.specs.Faults.{kind_number}
use Rattle.ak_let_syntax.specs.Grammar.{binds}

-- the first function of the name
abbrev pub fun_named : List NamedFun → List ℕ → Option NamedFun
fun_named funs name = find (λ fun. bytes_eq name fun.name) funs

-- ---- what a line wants
abbrev pub when_uses : Option Atom → List Atom
when_uses None = []
when_uses (Some a) = a ∷ []

-- the atoms of a line
abbrev pub uses : NamedStmt → List Atom
uses (Let x a) = a ∷ []
uses (Compute x a op b) = a ∷ b ∷ []
uses (Print when a) = when_uses when ++ a ∷ []
uses (Raise when a) = when_uses when ++ a ∷ []
uses (Return when a) = when_uses when ++ a ∷ []
uses (Await x f args) = args
uses (AwaitWork x kind a) = a ∷ []
uses (Try x f args g) = args

-- a function that is called with so many numbers
pub record Call : Type 0 where
  pub name : List ℕ
  pub count : ℕ

-- the calls of a line: what takes an error is called with that alone
abbrev pub calls : NamedStmt → List Call
calls (Await x f args) = record { name = f; count = length args } ∷ []
calls (Try x f args g) = record { name = f; count = length args } ∷ record { name = g; count = 1 } ∷ []
calls _ = []

-- ---- faults
-- names that stand before, or twice among these
abbrev pub twice_faults : List (List ℕ) → List (List ℕ) → List LetFault
twice_faults known [] = []
twice_faults known (name ∷ names) =
    (if list_any (bytes_eq name) known then TwiceNamed ∷ [] else []) ++ twice_faults (name ∷ known) names

-- a local that isn't known
abbrev pub use_faults : List (List ℕ) → Atom → List LetFault
use_faults known (Literal n) = []
use_faults known (Local name) = if list_any (bytes_eq name) known then [] else UnknownName ∷ []

-- a function that is nowhere, or has another count of parameters
abbrev pub call_faults : List NamedFun → Call → List LetFault
call_faults funs call =
    option_map_or (λ fun. if length fun.params == call.count then [] else WrongCount ∷ [])
    (fun_named funs call.name) (UnknownName ∷ [])

-- a line behind those that bind the known locals
abbrev pub stmt_faults : List NamedFun → List (List ℕ) → NamedStmt → List LetFault
stmt_faults funs known stmt =
    twice_faults known (binds stmt) ++ flat_map (use_faults known) (uses stmt)
    ++ flat_map (call_faults funs) (calls stmt)

-- `main` has no parameters
abbrev pub main_faults : NamedFun → List LetFault
main_faults fun =
    if bytes_eq (codes "main") fun.name then (if length fun.params == 0 then [] else WrongCount ∷ []) else []

-- the first line of a function behind those of these names
abbrev pub head_faults : List (List ℕ) → NamedFun → List LetFault
head_faults before fun = twice_faults before (fun.name ∷ []) ++ twice_faults [] fun.params ++ main_faults fun

-- ---- lines
-- a line by its number, with the kinds of its faults
pub record Judged : Type 0 where
  pub number : ℕ
  pub faults : List LetFault

-- the lines of a function, each behind those that bind the known locals, the newest first
abbrev pub body_judged : List NamedFun → List (List ℕ) → List NamedLine → List Judged
body_judged funs known [] = []
body_judged funs known (line ∷ lines) =
    record { number = line.number; faults = stmt_faults funs known line.stmt }
    ∷ body_judged funs (binds line.stmt ++ known) lines

-- the lines of a function behind those of the names before; `end` has no fault
abbrev pub fun_judged : List NamedFun → List (List ℕ) → NamedFun → List Judged
fun_judged funs before fun =
    record { number = fun.number; faults = head_faults before fun } ∷ body_judged funs fun.params fun.lines

-- the lines of functions, each behind those of the names before
abbrev pub funs_judged : List NamedFun → List (List ℕ) → List NamedFun → List Judged
funs_judged funs before [] = []
funs_judged funs before (fun ∷ rest) = fun_judged funs before fun ++ funs_judged funs (fun.name ∷ before) rest

-- line 0, before all lines: a `main` is there
abbrev pub line_zero : List NamedFun → Judged
line_zero funs =
    record { number = 0; faults = option_map_or (λ fun. []) (fun_named funs (codes "main")) (NoMain ∷ []) }

abbrev pub judged : List NamedFun → List Judged
judged funs = line_zero funs ∷ funs_judged funs [] funs

-- ---- the first line with a fault
-- the least of some kinds
abbrev pub least : List LetFault → Option LetFault
least kinds = least_by kind_number kinds

-- the first line with a fault, and its least kind
abbrev pub first_fault : List Judged → Option (ℕ × LetFault)
first_fault [] = None
first_fault (line ∷ lines) =
    option_map_or (λ kind. Some (line.number, kind)) (least line.faults) (first_fault lines)

-- the fault of the names of functions
abbrev pub name_fault : List NamedFun → Option (ℕ × LetFault)
name_fault funs = first_fault (judged funs)
