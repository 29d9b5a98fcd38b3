-- Functions by name, with numbers in place of names: a function by its place, a local by how many newer ones there are. Own.
use Rattle.std.specs.Prelude.{ℕ, Option, Some, None, List, [], ◌∷◌, ◌++◌, map, length, codes}
use Rattle.ak_script.specs.declared.statement.Atom.{Atom}
use Rattle.ak_script.specs.declared.statement.Atom.TheVariants.{Literal, Local}
use Rattle.ak_valid.specs.Numbered.{at, work_kind}
use Rattle.ak_let.specs.declared.source.Atom.{Atom as NumAtom}
use Rattle.ak_let.specs.declared.source.Atom.TheVariants.{Given, Known}
use Rattle.ak_let.specs.declared.source.Line.{Line}
use Rattle.ak_let.specs.declared.source.Line.TheVariants as line
use Rattle.ak_let.specs.declared.source.Fun.{Fun}
use Rattle.ak_let.specs.declared.source.Source.{Source}
use Rattle.ak_let_syntax.specs.declared.named.NamedStmt.{NamedStmt}
use Rattle.ak_let_syntax.specs.declared.named.NamedStmt.TheVariants.{Let, Compute, Print, Raise, Return, Await, AwaitWork, Try}
use Rattle.ak_let_syntax.specs.declared.named.NamedLine.{NamedLine}
use Rattle.ak_let_syntax.specs.declared.named.NamedFun.{NamedFun}
use Rattle.ak_let_syntax.specs.Grammar.{binds}

-- an atom, where these locals are known, the newest first
abbrev pub numbered_atom : List (List ℕ) → Atom → NumAtom
numbered_atom known (Literal n) = Given n
numbered_atom known (Local name) = Known (at known name)

abbrev pub numbered_when : List (List ℕ) → Option Atom → Option NumAtom
numbered_when known None = None
numbered_when known (Some a) = Some (numbered_atom known a)

-- a line, where functions have these names
abbrev pub numbered_stmt : List (List ℕ) → List (List ℕ) → NamedStmt → Line
numbered_stmt names known (Let x a) = line.Let (numbered_atom known a)
numbered_stmt names known (Compute x a op b) = line.Compute (numbered_atom known a) op (numbered_atom known b)
numbered_stmt names known (Print when a) = line.Print (numbered_when known when) (numbered_atom known a)
numbered_stmt names known (Raise when a) = line.Raise (numbered_when known when) (numbered_atom known a)
numbered_stmt names known (Return when a) = line.Return (numbered_when known when) (numbered_atom known a)
numbered_stmt names known (Await x f args) = line.Await (at names f) (map (numbered_atom known) args)
numbered_stmt names known (AwaitWork x kind a) = line.AwaitWork (work_kind kind) (numbered_atom known a)
numbered_stmt names known (Try x f args g) =
    line.Try (at names f) (map (numbered_atom known) args) (at names g)

-- lines, each behind those that bind the known locals
abbrev pub numbered_lines : List (List ℕ) → List (List ℕ) → List NamedLine → List Line
numbered_lines names known [] = []
numbered_lines names known (line ∷ lines) =
    numbered_stmt names known line.stmt ∷ numbered_lines names (binds line.stmt ++ known) lines

-- a function begins with its parameters in their order
abbrev pub numbered_fun : List (List ℕ) → NamedFun → Fun
numbered_fun names fun =
    record { params = length fun.params; lines = numbered_lines names fun.params fun.lines }

-- the names of functions
abbrev pub fun_names : List NamedFun → List (List ℕ)
fun_names funs = map (λ fun. fun.name) funs

abbrev pub numbered : List NamedFun → Source
numbered funs =
    record { funs = map (numbered_fun (fun_names funs)) funs; main = at (fun_names funs) (codes "main") }
