-- The script of a compiled source is numbered to its program.
use Rattle.std.proofs.Common.{ℕ, zero, suc, ◌+◌, ◌*◌, ◌≤◌, ◌^◌, ◌≡◌, List, [], ◌∷◌, ◌++◌, map, false, cond, not, ◌&&◌, Some, None, length, refl, ap, ◌∙◌, arith}
use Rattle.std.specs.Prelude.{codes}
use Rattle.std.specs.List.{AllByRecursion, position_or_len}
use Rattle.std.specs.Str.{bytes_eq}
use Rattle.std.proofs.lemmas.Bool.{le-ltb}
use Rattle.ak_program.specs.declared.program.NumProc.{NumProc}
use Rattle.ak_program.specs.declared.program.NumStatement.{NumStatement}
use Rattle.ak_program.specs.declared.statement.NumStmt.{NumStmt}
use Rattle.ak_program.specs.declared.statement.NumStmt.TheVariants as stmt
use Rattle.ak_program.specs.declared.statement.NumAtom.TheVariants.{Local}
use Rattle.ak_program.specs.Programs.{num_binds, ProgramIsSound}
use Rattle.ak_valid.specs.Numbered.{is_ask, is_one_number, ask_of}
use Rattle.ak_let.specs.declared.source.Line.{Line}
use Rattle.ak_let.specs.declared.source.Line.TheVariants.{Let, Compute, Print, Raise, Return, Await, AwaitWork, Try}
use Rattle.ak_let.specs.declared.source.Fun.{Fun}
use Rattle.ak_let.specs.declared.source.Source.{Source}
use Rattle.ak_let.specs.Compile.{Piece, atom, begin, written, piece, line_behind, further, fun_procs, awaits, entry_from, line_after, funs_procs, compiled, program_of}
use Rattle.ak_let.specs.Correct.{FunIsWithin, ProcIsWithin, text_lines}
use Rattle.ak_let.proofs.Bounds.{funs_few, procs_within}
use Rattle.ak_let.proofs.Validity.{compiled_is_valid}
use Rattle.ak_let_text.specs.Compiles.{Compiles, IsNumberedTo}
use Rattle.ak_let_text.specs.Named.{proc_name, named_param, named}
use Rattle.ak_let_text.proofs.Back.{IsWritable, AreWritable, IsNameable, bind_count, numbers_back, main_back}

written_writable : (entry : ℕ → ℕ) (lines : List Line) (place : ℕ) (x : Piece) → AreWritable (written entry place x lines)
written_writable entry [] place x = (tt, tt)
written_writable entry (Let a ∷ lines) place x = written_writable entry lines place (record x { atoms = atom x.atoms a ∷ x.atoms })
written_writable entry (Compute a op b ∷ lines) place x =
    (tt, written_writable entry lines place (record { atoms = Local x.size ∷ x.atoms; answer = x.answer; size = x.size + 1; line = x.line + 1 }))
written_writable entry (Print when a ∷ lines) place x = (tt, written_writable entry lines place (record x { line = x.line + 1 }))
written_writable entry (Raise when a ∷ lines) place x = (tt, written_writable entry lines place (record x { line = x.line + 1 }))
written_writable entry (Return when a ∷ lines) place x = (tt, (tt, written_writable entry lines place (record x { line = x.line + 2 })))
written_writable entry (Await f args ∷ lines) place x = (tt, (tt, (tt, tt)))
written_writable entry (AwaitWork kind a ∷ lines) place x = (tt, (tt, tt))
written_writable entry (Try f args g ∷ lines) place x = (tt, (tt, (tt, (tt, (tt, (tt, tt))))))

abbrev pub IsPlain : NumProc → Type 0
IsPlain proc = AreWritable proc.body

piece_plain : (entry : ℕ → ℕ) (place line n : ℕ) (lines : List Line) → IsPlain (piece entry place line n lines)
piece_plain entry place line n lines = written_writable entry lines (suc place) (begin n (line + 1))

further_plain : (entry : ℕ → ℕ) (lines : List Line) (place line n : ℕ) → AllByRecursion IsPlain (further entry place line n lines)
further_plain entry [] place line n = tt
further_plain entry (Let a ∷ lines) place line n = further_plain entry lines place line (suc n)
further_plain entry (Compute a op b ∷ lines) place line n = further_plain entry lines place line (suc n)
further_plain entry (Print when a ∷ lines) place line n = further_plain entry lines place line n
further_plain entry (Raise when a ∷ lines) place line n = further_plain entry lines place line n
further_plain entry (Return when a ∷ lines) place line n = further_plain entry lines place line n
further_plain entry (Await f args ∷ lines) place line n =
    (piece_plain entry place line (suc n) lines, further_plain entry lines (suc place) (line_behind (piece entry place line (suc n) lines)) (suc n))
further_plain entry (AwaitWork kind a ∷ lines) place line n =
    (piece_plain entry place line (suc n) lines, further_plain entry lines (suc place) (line_behind (piece entry place line (suc n) lines)) (suc n))
further_plain entry (Try f args g ∷ lines) place line n =
    (piece_plain entry place line (suc n) lines, further_plain entry lines (suc place) (line_behind (piece entry place line (suc n) lines)) (suc n))

all_both : (xs ys : List NumProc) → AllByRecursion IsPlain xs → AllByRecursion IsPlain ys → AllByRecursion IsPlain (xs ++ ys)
all_both [] ys a b = b
all_both (x ∷ xs) ys a b = (a.0, all_both xs ys a.1 b)

pub funs_plain : (entry : ℕ → ℕ) (funs : List Fun) (place line : ℕ) → AllByRecursion IsPlain (funs_procs entry place line funs)
funs_plain entry [] place line = tt
funs_plain entry (fun ∷ funs) place line =
    all_both (fun_procs entry place line fun) (funs_procs entry (place + suc (awaits fun.lines)) (line_after line (fun_procs entry place line fun)) funs) (
      piece_plain entry place line fun.params fun.lines,
      further_plain entry fun.lines (suc place) (line_behind (piece entry place line fun.params fun.lines)) fun.params,
    )
    (funs_plain entry funs (place + suc (awaits fun.lines)) (line_after line (fun_procs entry place line fun)))

one_bind : (s : NumStmt) → IsWritable s → length (num_binds s) ≤ 1
one_bind (stmt.Set x a op b) w = omega arith
one_bind (stmt.Print a) w = omega arith
one_bind (stmt.Ivar i) w = omega arith
one_bind (stmt.Offer i a) w = omega arith
one_bind (stmt.Upon d proc args) w = omega arith
one_bind (stmt.Sched proc args) w = omega arith
one_bind (stmt.Monitor k) w = omega arith
one_bind (stmt.Within k proc args) w = omega arith
one_bind (stmt.Detach k) w = omega arith
one_bind (stmt.OnError k proc args) w = omega arith
one_bind (stmt.Raise a) w = omega arith
one_bind (stmt.Work r kind a) w = omega arith
one_bind (stmt.Ret a) w = omega arith
one_bind _ w = absurd w

pub few_binds : (lines : List NumStatement) → AreWritable lines → bind_count lines ≤ length lines
few_binds [] w = omega arith
few_binds (s ∷ lines) w = omega (arith, one_bind s.stmt w.0, few_binds lines w.1)

pub all_nameable : (all procs : List NumProc) → AllByRecursion IsPlain procs → AllByRecursion ProcIsWithin procs → AllByRecursion (IsNameable all) procs
all_nameable all [] a b = tt
all_nameable all (proc ∷ procs) a b =
    (record { locals_few = omega (arith, few_binds proc.body a.0, b.0.params, b.0.statements); writable = a.0 }, all_nameable all procs a.1 b.1)

few_lines : (funs : List Fun) → AllByRecursion FunIsWithin funs → text_lines funs ≤ 17 * length funs
few_lines [] w = omega arith
few_lines (fun ∷ funs) w = omega (arith, w.0.lines, few_lines funs w.1)

-- a source that compiles has few procedures: at most one for each of its lines, and one more
pub procs_few : (p : Source) → Compiles p → length (compiled p) ≤ 4096
procs_few p h = omega (arith, funs_few (entry_from 1 p.funs) 1 5 p.funs, few_lines p.funs h.within, h.few)

pub is_plain : (p : Source) → AllByRecursion IsPlain (compiled p)
is_plain p = ((tt, (tt, tt)), funs_plain (entry_from 1 p.funs) p.funs 1 5)

pub is_sound : (p : Source) → Compiles p → ProgramIsSound (compiled p) 0 None
is_sound p h = compiled_is_valid p h.sound h.scoped h.within

pub are_nameable : (p : Source) → Compiles p → AllByRecursion (IsNameable (compiled p)) (compiled p)
are_nameable p h = all_nameable (compiled p) (compiled p) (is_plain p) (procs_within p h.within)

-- no procedure is named `ask`
no_ask : (name : ℕ) → bytes_eq (codes "ask") (proc_name name) ≡ false
no_ask zero = refl
no_ask (suc k) = refl

none_asks : (procs : List NumProc) → position_or_len is_ask (named procs) ≡ length (named procs)
none_asks [] = refl
none_asks (proc ∷ procs) =
    ap (λ t. cond (not (t && is_one_number (map named_param proc.params))) (1 + position_or_len is_ask (named procs)) 0) (no_ask proc.name)
    ∙ ap (λ n. 1 + n) (none_asks procs)
    ∙ one_plus (length (named procs))
  where
    one_plus : (n : ℕ) → 1 + n ≡ suc n
    one_plus n = omega arith

asks_nobody : (procs : List NumProc) → ask_of (named procs) ≡ None
asks_nobody procs =
    ap (λ b. cond b (Some (position_or_len is_ask (named procs))) None)
    (le-ltb (position_or_len is_ask (named procs)) (length (named procs)) (omega (arith, none_asks procs)))

pub compiled_is_numbered : (p : Source) → Compiles p → IsNumberedTo (named (compiled p)) (program_of p)
compiled_is_numbered p h =
    let small : length (compiled p) ≤ 2 ^ 32 = omega (arith, procs_few p h)
    in let valid = is_sound p h
    in record {
      procs = numbers_back (compiled p) small (are_nameable p h) valid;
      main = main_back (compiled p) small valid;
      ask = asks_nobody (compiled p);
    }
