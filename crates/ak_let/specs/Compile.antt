-- The script of a source. Each function is cut behind its awaits; each piece is a procedure. Its values are the locals so far,
-- the newest first, and then the ivar of its function's answer. What it returns is dropped. Own.
use Rattle.std.specs.Prelude.{ℕ, pos, zero, suc, ◌+◌, List, [], ◌∷◌, ◌++◌, map, length, Option, Some, None, slice_index_or}
use Rattle.ak_script.specs.declared.script.Kind.TheVariants as of_kind
use Rattle.ak_program.specs.declared.statement.NumAtom.{NumAtom}
use Rattle.ak_program.specs.declared.statement.NumAtom.TheVariants.{Literal, Local}
use Rattle.ak_program.specs.declared.statement.NumStmt.{NumStmt}
use Rattle.ak_program.specs.declared.statement.NumStmt.TheVariants as stmt
use Rattle.ak_program.specs.declared.program.NumPrefix.{NumPrefix}
use Rattle.ak_program.specs.declared.program.NumPrefix.TheVariants.{If}
use Rattle.ak_program.specs.declared.program.NumParam.{NumParam}
use Rattle.ak_program.specs.declared.program.NumStatement.{NumStatement}
use Rattle.ak_program.specs.declared.program.NumProc.{NumProc}
use Rattle.ak_program.specs.Programs.{NumProgram}
use Rattle.ak_let.specs.declared.source.Atom.{Atom}
use Rattle.ak_let.specs.declared.source.Atom.TheVariants.{Given, Known}
use Rattle.ak_let.specs.declared.source.Line.{Line}
use Rattle.ak_let.specs.declared.source.Line.TheVariants.{Let, Compute, Print, Raise, Return, Await, AwaitWork, Try}
use Rattle.ak_let.specs.declared.source.Fun.{Fun}
use Rattle.ak_let.specs.declared.source.Source.{Source}

-- how a piece is written: the atoms of the source's locals, the newest first; the place of the answer's ivar; how many locals
-- the procedure has so far; and the number of the line of the script
pub record Piece : Type 0 where
  pub atoms : List NumAtom
  pub answer : ℕ
  pub size : ℕ
  pub line : ℕ

abbrev pub atom : List NumAtom → Atom → NumAtom
atom atoms (Given z) = Literal z
atom atoms (Known k) = slice_index_or atoms k (Literal (pos 0))

abbrev pub when_holds : List NumAtom → Option Atom → Option NumPrefix
when_holds atoms None = None
when_holds atoms (Some b) = Some (If (atom atoms b))

-- one statement, on the next line of the script
abbrev pub plain : ℕ → NumStmt → NumStatement
plain at stmt = record { line = at; prefix = None; stmt = stmt }

abbrev pub guarded : ℕ → Option NumPrefix → NumStmt → NumStatement
guarded at prefix stmt = record { line = at; prefix = prefix; stmt = stmt }

-- what follows an await is called with the answer, the locals and this function's own ivar
abbrev pub resumed : Piece → ℕ → List NumStatement
resumed x place = plain x.line (stmt.Upon x.size place (x.atoms ++ Local x.answer ∷ [])) ∷ []

abbrev pub answer_to : Piece → ℕ → Piece
answer_to x lines = record x { line = x.line + lines }

-- the statements of the lines up to the next await; what follows that is the procedure at `place`, and entry f is where f begins
abbrev pub written : (ℕ → ℕ) → ℕ → Piece → List Line → List NumStatement
written entry place x [] = plain x.line (stmt.Offer x.answer (Literal (pos 0))) ∷ []
written entry place x (Let a ∷ lines) =
    written entry place (record x { atoms = atom x.atoms a ∷ x.atoms }) lines
written entry place x (Compute a op b ∷ lines) =
    plain x.line (stmt.Set x.size (atom x.atoms a) op (atom x.atoms b))
    ∷ written entry place
    (record { atoms = Local x.size ∷ x.atoms; answer = x.answer; size = x.size + 1; line = x.line + 1 }) lines
written entry place x (Print when a ∷ lines) =
    guarded x.line (when_holds x.atoms when) (stmt.Print (atom x.atoms a))
    ∷ written entry place (record x { line = x.line + 1 }) lines
written entry place x (Raise when a ∷ lines) =
    guarded x.line (when_holds x.atoms when) (stmt.Raise (atom x.atoms a))
    ∷ written entry place (record x { line = x.line + 1 }) lines
written entry place x (Return when a ∷ lines) =
    guarded x.line (when_holds x.atoms when) (stmt.Offer x.answer (atom x.atoms a))
    ∷ guarded (x.line + 1) (when_holds x.atoms when) (stmt.Ret (Literal (pos 0)))
    ∷ written entry place (record x { line = x.line + 2 }) lines
written entry place x (Await f args ∷ lines) =
    plain x.line (stmt.Ivar x.size)
    ∷ plain (x.line + 1) (stmt.Sched (entry f) (map (atom x.atoms) args ++ Local x.size ∷ []))
    ∷ resumed (record x { line = x.line + 2 }) place
written entry place x (AwaitWork kind a ∷ lines) =
    plain x.line (stmt.Work x.size kind (atom x.atoms a))
    ∷ resumed (record x { line = x.line + 1 }) place
written entry place x (Try f args g ∷ lines) =
    plain x.line (stmt.Ivar x.size)
    ∷ plain (x.line + 1) (stmt.Monitor (x.size + 1))
    ∷ plain (x.line + 2) (stmt.Detach (x.size + 1))
    ∷ plain (x.line + 3) (stmt.OnError (x.size + 1) (entry g) (Local x.size ∷ []))
    ∷ plain (x.line + 4) (stmt.Within (x.size + 1) (entry f) (map (atom x.atoms) args ++ Local x.size ∷ []))
    ∷ resumed (record x { line = x.line + 5 }) place

-- n locals from a place on
abbrev pub locals_from : ℕ → ℕ → List NumAtom
locals_from k zero = []
locals_from k (suc n) = Local k ∷ locals_from (suc k) n

-- at the begin of a piece with n locals
abbrev pub begin : ℕ → ℕ → Piece
begin n line = record { atoms = locals_from 0 n; answer = n; size = n + 1; line = line }

-- parameters: numbers, and then the ivar of the answer
abbrev pub params_from : ℕ → ℕ → List NumParam
params_from k zero = record { name = k; kind = of_kind.Ivar } ∷ []
params_from k (suc n) = record { name = k; kind = of_kind.Num } ∷ params_from (suc k) n

-- the procedure of a piece with n locals, at its place
abbrev pub piece : (ℕ → ℕ) → ℕ → ℕ → ℕ → List Line → NumProc
piece entry place line n lines =
    record {
      name = place;
      line = line;
      params = params_from 0 n;
      body = written entry (suc place) (begin n (line + 1)) lines;
    }

-- the line behind a procedure's end
abbrev pub line_behind : NumProc → ℕ
line_behind proc = proc.line + length proc.body + 2

-- the pieces that follow the awaits of these lines, from a place on
abbrev pub further : (ℕ → ℕ) → ℕ → ℕ → ℕ → List Line → List NumProc
further entry place line n [] = []
further entry place line n (Let a ∷ lines) = further entry place line (suc n) lines
further entry place line n (Compute a op b ∷ lines) = further entry place line (suc n) lines
further entry place line n (Print when a ∷ lines) = further entry place line n lines
further entry place line n (Raise when a ∷ lines) = further entry place line n lines
further entry place line n (Return when a ∷ lines) = further entry place line n lines
further entry place line n (Await f args ∷ lines) =
    let proc : NumProc = piece entry place line (suc n) lines
    in proc ∷ further entry (suc place) (line_behind proc) (suc n) lines
further entry place line n (AwaitWork kind a ∷ lines) =
    let proc : NumProc = piece entry place line (suc n) lines
    in proc ∷ further entry (suc place) (line_behind proc) (suc n) lines
further entry place line n (Try f args g ∷ lines) =
    let proc : NumProc = piece entry place line (suc n) lines
    in proc ∷ further entry (suc place) (line_behind proc) (suc n) lines

-- a function
abbrev pub fun_procs : (ℕ → ℕ) → ℕ → ℕ → Fun → List NumProc
fun_procs entry place line f =
    let proc : NumProc = piece entry place line f.params f.lines
    in proc ∷ further entry (suc place) (line_behind proc) f.params f.lines

-- how many pieces lines have behind their awaits
abbrev pub awaits : List Line → ℕ
awaits [] = 0
awaits (Let a ∷ lines) = awaits lines
awaits (Compute a op b ∷ lines) = awaits lines
awaits (Print when a ∷ lines) = awaits lines
awaits (Raise when a ∷ lines) = awaits lines
awaits (Return when a ∷ lines) = awaits lines
awaits (Await f args ∷ lines) = suc (awaits lines)
awaits (AwaitWork kind a ∷ lines) = suc (awaits lines)
awaits (Try f args g ∷ lines) = suc (awaits lines)

-- where each function begins, the first of them at a place
abbrev pub entry_from : ℕ → List Fun → ℕ → ℕ
entry_from place [] f = place
entry_from place (fun ∷ funs) zero = place
entry_from place (fun ∷ funs) (suc f) = entry_from (place + suc (awaits fun.lines)) funs f

-- the line behind these procedures
abbrev pub line_after : ℕ → List NumProc → ℕ
line_after line [] = line
line_after line (proc ∷ procs) = line_after (line_behind proc) procs

abbrev pub funs_procs : (ℕ → ℕ) → ℕ → ℕ → List Fun → List NumProc
funs_procs entry place line [] = []
funs_procs entry place line (fun ∷ funs) =
    let procs : List NumProc = fun_procs entry place line fun
    in procs ++ funs_procs entry (place + suc (awaits fun.lines)) (line_after line procs) funs

-- it draws the ivar of main's answer, and calls main
abbrev pub starter : (ℕ → ℕ) → ℕ → NumProc
starter entry main =
    record {
      name = 0;
      line = 1;
      params = [];
      body = plain 2 (stmt.Ivar 0) ∷ plain 3 (stmt.Sched (entry main) (Local 0 ∷ [])) ∷ [];
    }

-- the procedures of a source; `main` is the procedure 0
abbrev pub compiled : Source → List NumProc
compiled p =
    let entry : ℕ → ℕ = entry_from 1 p.funs
    in starter entry p.main ∷ funs_procs entry 1 5 p.funs

-- the program of a source; it serves no requests from outside
abbrev pub program_of : Source → NumProgram
program_of p = record { procs = compiled p; main = 0; ask = None }
