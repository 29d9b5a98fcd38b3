-- A script with its procedures and locals by their places.
use Rattle.std.specs.Prelude.{ℕ, Bool, true, false, ◌&&◌, Option, Some, None, List, [], ◌∷◌, map, codes}
use Rattle.std.specs.List.{position, position_or_len}
use Rattle.std.specs.Str.{bytes_eq}
use Rattle.ak_labor.specs.declared.work.WorkKind.{WorkKind}
use Rattle.ak_labor.specs.declared.work.WorkKind.TheVariants as work
use Rattle.ak_script.specs.declared.script.Kind.{Kind}
use Rattle.ak_script.specs.declared.script.Kind.TheVariants as of_kind
use Rattle.ak_script.specs.declared.script.Param.{Param}
use Rattle.ak_script.specs.declared.script.Prefix.{Prefix}
use Rattle.ak_script.specs.declared.script.Prefix.TheVariants.{If, Unless}
use Rattle.ak_script.specs.declared.script.Statement.{Statement}
use Rattle.ak_script.specs.declared.script.Proc.{Proc}
use Rattle.ak_script.specs.declared.statement.Atom.{Atom}
use Rattle.ak_script.specs.declared.statement.Atom.TheVariants.{Literal, Local}
use Rattle.ak_script.specs.declared.statement.Choice.{Choice}
use Rattle.ak_script.specs.declared.statement.WorkWord.{WorkWord}
use Rattle.ak_script.specs.declared.statement.WorkWord.TheVariants.{Square, Mix, Fail}
use Rattle.ak_script.specs.declared.statement.Stmt.{Stmt}
use Rattle.ak_script.specs.declared.statement.Stmt.TheVariants as by_name
use Rattle.ak_syntax.specs.Grammar.{locals}
use Rattle.ak_program.specs.declared.program.NumPrefix.{NumPrefix}
use Rattle.ak_program.specs.declared.program.NumPrefix.TheVariants as num_prefix
use Rattle.ak_program.specs.declared.program.NumParam.{NumParam}
use Rattle.ak_program.specs.declared.program.NumStatement.{NumStatement}
use Rattle.ak_program.specs.declared.program.NumProc.{NumProc}
use Rattle.ak_program.specs.declared.statement.NumAtom.{NumAtom}
use Rattle.ak_program.specs.declared.statement.NumAtom.TheVariants as num_atom
use Rattle.ak_program.specs.declared.statement.NumChoice.{NumChoice}
use Rattle.ak_program.specs.declared.statement.NumStmt.{NumStmt}
use Rattle.ak_program.specs.declared.statement.NumStmt.TheVariants as by_place

-- the place of a name, the first where it stands
abbrev pub at : List (List ℕ) → List ℕ → ℕ
at names name = position_or_len (bytes_eq name) names

-- what a word of a work asks for
abbrev pub work_kind : WorkWord → WorkKind
work_kind Square = work.Square
work_kind Mix = work.Mix
work_kind Fail = work.Fail

-- an atom
abbrev pub numbered_atom : List (List ℕ) → Atom → NumAtom
numbered_atom locals (Literal n) = num_atom.Literal n
numbered_atom locals (Local name) = num_atom.Local (at locals name)

-- a deferred of a `choose`, and its procedure
abbrev pub numbered_choice : List (List ℕ) → List (List ℕ) → Choice → NumChoice
numbered_choice procs locals choice = record { d = at locals choice.d; proc = at procs choice.proc }

-- a statement
abbrev pub numbered_stmt : List (List ℕ) → List (List ℕ) → Stmt → NumStmt
numbered_stmt procs locals (by_name.Set x a op b) = by_place.Set (at locals x) (numbered_atom locals a) op (numbered_atom locals b)
numbered_stmt procs locals (by_name.Print a) = by_place.Print (numbered_atom locals a)
numbered_stmt procs locals (by_name.Ivar i) = by_place.Ivar (at locals i)
numbered_stmt procs locals (by_name.Fill i a) = by_place.Fill (at locals i) (numbered_atom locals a)
numbered_stmt procs locals (by_name.Offer i a) = by_place.Offer (at locals i) (numbered_atom locals a)
numbered_stmt procs locals (by_name.Upon d proc args) = by_place.Upon (at locals d) (at procs proc) (map (numbered_atom locals) args)
numbered_stmt procs locals (by_name.Bind r d proc args) = by_place.Bind (at locals r) (at locals d) (at procs proc) (map (numbered_atom locals) args)
numbered_stmt procs locals (by_name.All r deferreds proc args) =
    by_place.All (at locals r) (map (at locals) deferreds) (at procs proc) (map (numbered_atom locals) args)
numbered_stmt procs locals (by_name.Any r deferreds) = by_place.Any (at locals r) (map (at locals) deferreds)
numbered_stmt procs locals (by_name.Choose r choices args) =
    by_place.Choose (at locals r) (map (numbered_choice procs locals) choices) (map (numbered_atom locals) args)
numbered_stmt procs locals (by_name.Sched proc args) = by_place.Sched (at procs proc) (map (numbered_atom locals) args)
numbered_stmt procs locals (by_name.Low proc args) = by_place.Low (at procs proc) (map (numbered_atom locals) args)
numbered_stmt procs locals (by_name.Yield r) = by_place.Yield (at locals r)
numbered_stmt procs locals (by_name.Never r) = by_place.Never (at locals r)
numbered_stmt procs locals (by_name.After r n) = by_place.After (at locals r) (numbered_atom locals n)
numbered_stmt procs locals (by_name.Event e r n) = by_place.Event (at locals e) (at locals r) (numbered_atom locals n)
numbered_stmt procs locals (by_name.Abort e) = by_place.Abort (at locals e)
numbered_stmt procs locals (by_name.Tick n) = by_place.Tick (numbered_atom locals n)
numbered_stmt procs locals (by_name.Monitor m) = by_place.Monitor (at locals m)
numbered_stmt procs locals (by_name.Within m proc args) = by_place.Within (at locals m) (at procs proc) (map (numbered_atom locals) args)
numbered_stmt procs locals (by_name.Detach m) = by_place.Detach (at locals m)
numbered_stmt procs locals (by_name.OnError m proc args) = by_place.OnError (at locals m) (at procs proc) (map (numbered_atom locals) args)
numbered_stmt procs locals (by_name.NextError r m) = by_place.NextError (at locals r) (at locals m)
numbered_stmt procs locals (by_name.Raise a) = by_place.Raise (numbered_atom locals a)
numbered_stmt procs locals (by_name.Send m a) = by_place.Send (at locals m) (numbered_atom locals a)
numbered_stmt procs locals (by_name.Try r proc args catch catch_args mode) =
    by_place.Try (at locals r) (at procs proc) (map (numbered_atom locals) args) (at procs catch)
    (map (numbered_atom locals) catch_args) mode
numbered_stmt procs locals (by_name.Throttle t k stop) = by_place.Throttle (at locals t) k stop
numbered_stmt procs locals (by_name.Enqueue r t proc args) = by_place.Enqueue (at locals r) (at locals t) (at procs proc) (map (numbered_atom locals) args)
numbered_stmt procs locals (by_name.ThrottleDone r t) = by_place.ThrottleDone (at locals r) (at locals t)
numbered_stmt procs locals (by_name.Pipe p b) = by_place.Pipe (at locals p) b
numbered_stmt procs locals (by_name.Write r p a) = by_place.Write (at locals r) (at locals p) (numbered_atom locals a)
numbered_stmt procs locals (by_name.Put p a) = by_place.Put (at locals p) (numbered_atom locals a)
numbered_stmt procs locals (by_name.Read r p proc args eof eof_args) =
    by_place.Read (at locals r) (at locals p) (at procs proc) (map (numbered_atom locals) args) (at procs eof)
    (map (numbered_atom locals) eof_args)
numbered_stmt procs locals (by_name.Close p) = by_place.Close (at locals p)
numbered_stmt procs locals (by_name.CloseRead p) = by_place.CloseRead (at locals p)
numbered_stmt procs locals (by_name.Flushed r p) = by_place.Flushed (at locals r) (at locals p)
numbered_stmt procs locals (by_name.Work r kind a) = by_place.Work (at locals r) (work_kind kind) (numbered_atom locals a)
numbered_stmt procs locals (by_name.Helper h x) = by_place.Helper (at locals h) (at locals x)
numbered_stmt procs locals (by_name.HelperWork r h kind a) = by_place.HelperWork (at locals r) (at locals h) (work_kind kind) (numbered_atom locals a)
numbered_stmt procs locals (by_name.HelperDone h) = by_place.HelperDone (at locals h)
numbered_stmt procs locals by_name.Stop = by_place.Stop
numbered_stmt procs locals (by_name.Ret a) = by_place.Ret (numbered_atom locals a)

-- a prefix
abbrev pub numbered_prefix : List (List ℕ) → Option Prefix → Option NumPrefix
numbered_prefix locals None = None
numbered_prefix locals (Some (If a)) = Some (num_prefix.If (numbered_atom locals a))
numbered_prefix locals (Some (Unless a)) = Some (num_prefix.Unless (numbered_atom locals a))

-- a statement with its line and its prefix
abbrev pub numbered_statement : List (List ℕ) → List (List ℕ) → Statement → NumStatement
numbered_statement procs names statement = record {
  line = statement.line;
  prefix = numbered_prefix names statement.prefix;
  stmt =
      numbered_stmt procs names statement.stmt;
}

-- a parameter
abbrev pub numbered_param : List (List ℕ) → Param → NumParam
numbered_param names param = record { name = at names param.name; kind = param.kind }

-- the names of locals
abbrev pub param_names : List Param → List (List ℕ)
param_names params = map (λ param. param.name) params

-- a procedure, whose locals are its parameters and what its statements bind
abbrev pub numbered_proc : List (List ℕ) → Proc → NumProc
numbered_proc procs proc = let names : List (List ℕ) = param_names (locals proc) in
    record {
      name = at procs proc.name;
      line = proc.line;
      params = map (numbered_param names) proc.params;
      body =
          map (numbered_statement procs names) proc.body;
    }

-- the names of the procedures
abbrev pub proc_names : List Proc → List (List ℕ)
proc_names script = map (λ proc. proc.name) script

-- the procedures
abbrev pub numbered : List Proc → List NumProc
numbered script = map (numbered_proc (proc_names script)) script

-- the place of `main`
abbrev pub main_of : List Proc → ℕ
main_of script = at (proc_names script) (codes "main")

-- whether the kind is that of numbers
abbrev pub is_num : Kind → Bool
is_num of_kind.Num = true
is_num kind = false

-- whether there is one parameter, which is a number
abbrev pub is_one_number : List Param → Bool
is_one_number (param ∷ []) = is_num param.kind
is_one_number params = false

-- whether the procedure serves requests from outside: it is named `ask`, and has one parameter, which is a number
abbrev pub is_ask : Proc → Bool
is_ask proc = bytes_eq (codes "ask") proc.name && is_one_number proc.params

-- the place of the first that does
abbrev pub ask_of : List Proc → Option ℕ
ask_of script = position is_ask script
