-- How a procedure is written line by line: what is left of a function comes to the same after each line. Own.
use Rattle.std.specs.Prelude.{◌≡◌, ℕ, suc, pos, ◌+◌, ◌<◌, ◌≤◌, ◌^◌, ◌⊎◌, Option, None, List, [], ◌∷◌, ◌++◌, map, length, slice_index_or}
use Rattle.ak_script.specs.declared.statement.Operator.{Operator}
use Rattle.ak_program.specs.declared.program.NumPrefix.{NumPrefix}
use Rattle.ak_program.specs.declared.program.NumProc.{NumProc}
use Rattle.ak_program.specs.declared.statement.NumAtom.{NumAtom}
use Rattle.ak_program.specs.declared.statement.NumAtom.TheVariants.{Literal, Local}
use Rattle.ak_program.specs.declared.statement.NumStmt.{NumStmt}
use Rattle.ak_program.specs.declared.statement.NumStmt.TheVariants as stmt
use Rattle.ak_let.specs.declared.source.Atom.{Atom}
use Rattle.ak_let.specs.declared.source.Line.{Line}
use Rattle.ak_let.specs.Compile.{Piece, atom, when_holds, guarded, locals_from, params_from, written, further, line_behind}
use Rattle.ak_let_compile.specs.declared.draft.Draft.{Draft}
use Rattle.ak_let_compile.specs.declared.entries.Entries.{Entries}

-- where a function begins, behind the last where there is none
abbrev pub entry_at : Entries → ℕ → ℕ
entry_at entries f = slice_index_or entries.places.items f entries.behind

-- at the begin of a piece with n locals
abbrev pub begun : ℕ → ℕ → ℕ → Draft
begun name first n =
    record {
      name = name;
      first = first;
      params = params_from 0 n;
      body = [];
      locals = locals_from 0 n;
      answer = n;
      size = n + 1;
      line = first + 1;
    }

-- with one statement more
abbrev pub with_statement : Draft → Option NumPrefix → NumStmt → Draft
with_statement d prefix stmt =
    record d { body = d.body ++ guarded d.line prefix stmt ∷ []; line = d.line + 1 }

-- the procedure as far as it is written
abbrev pub proc_of : Draft → NumProc
proc_of d = record { name = d.name; line = d.first; params = d.params; body = d.body }

abbrev pub piece_of : Draft → Piece
piece_of d = record { atoms = d.locals; answer = d.answer; size = d.size; line = d.line }

-- what a draft becomes by the lines that are left: its procedure, and the pieces behind its awaits
abbrev pub completed : (ℕ → ℕ) → Draft → List Line → List NumProc
completed entry d lines =
    let proc : NumProc = proc_of (record d { body = d.body ++ written entry (suc d.name) (piece_of d) lines })
    in proc ∷ further entry (suc d.name) (line_behind proc) (length d.locals) lines

-- the next line stands behind the statements
abbrev pub IsLined : Draft → Type 0
IsLined d = d.line ≡ d.first + 1 + length d.body

-- there are numbers for what a line writes
pub record HasRoom (d : Draft) : Type 0 where
  pub line : d.line + 8 < 2 ^ 32
  pub name : d.name + 1 < 2 ^ 64
  pub size : d.size + 2 < 2 ^ 64
  pub locals : length d.locals + 3 < 2 ^ 64

-- ---- what each line leaves
abbrev pub computed_in : Draft → Atom → Operator → Atom → Draft
computed_in d a op b =
    record (with_statement d None (stmt.Set d.size (atom d.locals a) op (atom d.locals b))) {
      locals = Local d.size ∷ d.locals;
      size = d.size + 1;
    }

abbrev pub answered_in : Draft → Option Atom → Atom → Draft
answered_in d when a =
    let prefix : Option NumPrefix = when_holds d.locals when
    in
    with_statement (with_statement d prefix (stmt.Offer d.answer (atom d.locals a))) prefix
    (stmt.Ret (Literal (pos 0)))

abbrev pub args_in : Draft → List Atom → List NumAtom
args_in d args = map (atom d.locals) args ++ Local d.size ∷ []

abbrev pub called_in : Draft → ℕ → List Atom → Draft
called_in d entry args =
    with_statement (with_statement d None (stmt.Ivar d.size)) None (stmt.Sched entry (args_in d args))

abbrev pub guarded_in : Draft → ℕ → Draft
guarded_in d handler =
    let m : ℕ = d.size + 1
    in with_statement
    (with_statement (with_statement (with_statement d None (stmt.Ivar d.size)) None (stmt.Monitor m)) None
    (stmt.Detach m))
    None
    (stmt.OnError m handler (Local d.size ∷ []))

abbrev pub attempted_in : Draft → ℕ → List Atom → ℕ → Draft
attempted_in d entry args handler =
    with_statement (guarded_in d handler) None (stmt.Within (d.size + 1) entry (args_in d args))

-- the procedure ends with what goes on behind an await of the local at `d.size`
abbrev pub ended_in : Draft → NumProc
ended_in d = proc_of (with_statement d None (stmt.Upon d.size (suc d.name) (d.locals ++ Local d.answer ∷ [])))

abbrev pub resumed_in : Draft → Draft
resumed_in d = begun (suc d.name) (line_behind (ended_in d)) (suc (length d.locals))

-- a line is written, and the procedures that it ends are put last
pub record Steps (entry : ℕ → ℕ) (d : Draft) (walked : Line) (before after : List NumProc) (next : Draft) : Type 0 where
  pub same : (rest : List Line)
      → after ++ completed entry next rest ≡ before ++ completed entry d (walked ∷ rest)
  pub lined : IsLined next
  pub line : next.line ≤ d.line + 8
  pub name : next.name ≤ d.name + 1
  pub size : (next.size ≤ d.size + 1) ⊎ (next.size ≤ length d.locals + 2)
  pub locals : length next.locals ≤ length d.locals + 1
