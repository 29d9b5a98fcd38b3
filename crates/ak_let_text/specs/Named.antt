-- The script of a numbered program: `main` for the procedure 0, `pk` for the procedure k, and `vk` for the local k. Own.
use Rattle.std.specs.Prelude.{ℕ, zero, suc, List, ◌∷◌, map, Option, Some, None, decimal, codes}
use Rattle.ak_labor.specs.declared.work.WorkKind.{WorkKind}
use Rattle.ak_labor.specs.declared.work.WorkKind.TheVariants as work
use Rattle.ak_script.specs.declared.script.Param.{Param}
use Rattle.ak_script.specs.declared.script.Prefix.{Prefix}
use Rattle.ak_script.specs.declared.script.Prefix.TheVariants.{If, Unless}
use Rattle.ak_script.specs.declared.script.Statement.{Statement}
use Rattle.ak_script.specs.declared.script.Proc.{Proc}
use Rattle.ak_script.specs.declared.statement.Atom.{Atom}
use Rattle.ak_script.specs.declared.statement.Atom.TheVariants.{Literal, Local}
use Rattle.ak_script.specs.declared.statement.WorkWord.{WorkWord}
use Rattle.ak_script.specs.declared.statement.WorkWord.TheVariants.{Square, Mix, Fail}
use Rattle.ak_script.specs.declared.statement.Stmt.{Stmt}
use Rattle.ak_script.specs.declared.statement.Stmt.TheVariants as by_name
use Rattle.ak_program.specs.declared.program.NumPrefix.{NumPrefix}
use Rattle.ak_program.specs.declared.program.NumPrefix.TheVariants as num_prefix
use Rattle.ak_program.specs.declared.program.NumParam.{NumParam}
use Rattle.ak_program.specs.declared.program.NumStatement.{NumStatement}
use Rattle.ak_program.specs.declared.program.NumProc.{NumProc}
use Rattle.ak_program.specs.declared.statement.NumAtom.{NumAtom}
use Rattle.ak_program.specs.declared.statement.NumAtom.TheVariants as num_atom
use Rattle.ak_program.specs.declared.statement.NumStmt.{NumStmt}
use Rattle.ak_program.specs.declared.statement.NumStmt.TheVariants as by_place

-- as a byte 112 is `p`, and 118 is `v`
abbrev pub proc_name : ℕ → List ℕ
proc_name zero = codes "main"
proc_name (suc k) = 112 ∷ decimal (suc k)

abbrev pub local_name : ℕ → List ℕ
local_name k = 118 ∷ decimal k

abbrev pub named_atom : NumAtom → Atom
named_atom (num_atom.Literal n) = Literal n
named_atom (num_atom.Local k) = Local (local_name k)

abbrev pub work_word : WorkKind → WorkWord
work_word work.Square = Square
work_word work.Mix = Mix
work_word work.Fail = Fail

-- the statements that a compiler of the let dialect writes; another is written as `stop`
abbrev pub named_stmt : NumStmt → Stmt
named_stmt (by_place.Set x a op b) = by_name.Set (local_name x) (named_atom a) op (named_atom b)
named_stmt (by_place.Print a) = by_name.Print (named_atom a)
named_stmt (by_place.Ivar i) = by_name.Ivar (local_name i)
named_stmt (by_place.Offer i a) = by_name.Offer (local_name i) (named_atom a)
named_stmt (by_place.Upon d proc args) = by_name.Upon (local_name d) (proc_name proc) (map named_atom args)
named_stmt (by_place.Sched proc args) = by_name.Sched (proc_name proc) (map named_atom args)
named_stmt (by_place.Monitor m) = by_name.Monitor (local_name m)
named_stmt (by_place.Within m proc args) =
    by_name.Within (local_name m) (proc_name proc) (map named_atom args)
named_stmt (by_place.Detach m) = by_name.Detach (local_name m)
named_stmt (by_place.OnError m proc args) =
    by_name.OnError (local_name m) (proc_name proc) (map named_atom args)
named_stmt (by_place.Raise a) = by_name.Raise (named_atom a)
named_stmt (by_place.Work r kind a) = by_name.Work (local_name r) (work_word kind) (named_atom a)
named_stmt (by_place.Ret a) = by_name.Ret (named_atom a)
named_stmt s = by_name.Stop

abbrev pub named_prefix : Option NumPrefix → Option Prefix
named_prefix None = None
named_prefix (Some (num_prefix.If a)) = Some (If (named_atom a))
named_prefix (Some (num_prefix.Unless a)) = Some (Unless (named_atom a))

abbrev pub named_statement : NumStatement → Statement
named_statement s = record { line = s.line; prefix = named_prefix s.prefix; stmt = named_stmt s.stmt }

abbrev pub named_param : NumParam → Param
named_param p = record { name = local_name p.name; kind = p.kind }

abbrev pub named_proc : NumProc → Proc
named_proc p =
    record {
      name = proc_name p.name;
      line = p.line;
      params = map named_param p.params;
      body = map named_statement p.body;
    }

-- the script
abbrev pub named : List NumProc → List Proc
named procs = map named_proc procs
