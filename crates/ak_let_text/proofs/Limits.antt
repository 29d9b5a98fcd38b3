-- The script of a compiled source keeps the limits of scripts, but for its length in bytes.
use Rattle.std.proofs.Common.{ℕ, zero, suc, ◌+◌, ◌<◌, ◌≤◌, ◌≡◌, List, [], ◌∷◌, ◌++◌, map, length, Some, None, slice_index_or, refl, ap, sym, ◌∙◌, arith, length-append}
use Rattle.std.specs.List.{AllByRecursion, range_with_len}
use Rattle.ak_program.specs.declared.statement.NumAtom.{NumAtom}
use Rattle.ak_program.specs.declared.statement.NumAtom.TheVariants.{Local}
use Rattle.ak_program.specs.declared.program.NumStatement.{NumStatement}
use Rattle.ak_program.specs.declared.program.NumProc.{NumProc}
use Rattle.ak_program.specs.Programs.{ProcIsSound}
use Rattle.ak_syntax.specs.declared.version.Version.TheVariants as version
use Rattle.ak_syntax.specs.Grammar.{locals, StatementIsWithin, ProcIsWithin}
use Rattle.ak_let.specs.declared.source.Atom.{Atom}
use Rattle.ak_let.specs.declared.source.Line.{Line}
use Rattle.ak_let.specs.declared.source.Line.TheVariants.{Let, Compute, Print, Raise, Return, Await, AwaitWork, Try}
use Rattle.ak_let.specs.declared.source.Fun.{Fun}
use Rattle.ak_let.specs.declared.source.Source.{Source}
use Rattle.ak_let.specs.Compile.{Piece, atom, begin, locals_from, written, piece, line_behind, further, fun_procs, awaits, entry_from, line_after, funs_procs, compiled}
use Rattle.ak_let.specs.Correct.{Callable, CallsFit, FunIsSound, IsSound, FunIsScoped, FunIsWithin, bound_by, text_lines}
use Rattle.ak_let.specs.Correct as correct
use Rattle.ak_let.proofs.Bounds.{procs_within}
use Rattle.ak_let_text.specs.Compiles.{Compiles}
use Rattle.ak_let_text.specs.Named.{local_name, named_atom, named_param, named_statement, named_proc, named}
use Rattle.ak_let_text.proofs.Back.{AreWritable, bind_count, local_count, map_length, locals_are}
use Rattle.ak_let_text.proofs.Compiled.{IsPlain, is_plain, is_sound}

-- a call passes at most 7 numbers
abbrev pub IsNarrow : Line → Type 0
IsNarrow (Await f args) = length args ≤ 7
IsNarrow (Try f args g) = length args ≤ 7
IsNarrow line = Unit {0}

params_few : (funs : List Fun) (f : ℕ) → AllByRecursion FunIsWithin funs → f < length funs
    → (slice_index_or funs f (record { params = 0; lines = [] })).params ≤ 7
params_few [] f a l = omega arith
params_few (x ∷ xs) zero a l = omega (arith, a.0.locals)
params_few (x ∷ xs) (suc f) a l = params_few xs f a.1 (omega (arith, l))

call_narrow : (p : Source) (f n : ℕ) → AllByRecursion FunIsWithin p.funs → Callable p f n → n ≤ 7
call_narrow p f n a c = omega (arith, params_few p.funs f a c.there, c.takes)

pub lines_narrow : (p : Source) → AllByRecursion FunIsWithin p.funs → (lines : List Line) → AllByRecursion (CallsFit p) lines → AllByRecursion IsNarrow lines
lines_narrow p a [] c = tt
lines_narrow p a (Let x ∷ lines) c = (tt, lines_narrow p a lines c.1)
lines_narrow p a (Compute x op y ∷ lines) c = (tt, lines_narrow p a lines c.1)
lines_narrow p a (Print when x ∷ lines) c = (tt, lines_narrow p a lines c.1)
lines_narrow p a (Raise when x ∷ lines) c = (tt, lines_narrow p a lines c.1)
lines_narrow p a (Return when x ∷ lines) c = (tt, lines_narrow p a lines c.1)
lines_narrow p a (Await f args ∷ lines) c = (call_narrow p f (length args) a c.0, lines_narrow p a lines c.1)
lines_narrow p a (AwaitWork kind x ∷ lines) c = (tt, lines_narrow p a lines c.1)
lines_narrow p a (Try f args g ∷ lines) c = (call_narrow p f (length args) a c.0.0, lines_narrow p a lines c.1)

abbrev AreWithin : List NumStatement → Type 0
AreWithin lines = AllByRecursion (StatementIsWithin version.One) (map named_statement lines)

pub pushed_length : (xs : List NumAtom) (x : NumAtom) → length (map named_atom (xs ++ x ∷ [])) ≡ suc (length xs)
pushed_length xs x = omega (arith, map_length named_atom (xs ++ x ∷ []), length-append xs (x ∷ []))

pub args_length : (atoms : List NumAtom) (args : List Atom) (k : ℕ) → length (map named_atom (map (atom atoms) args ++ Local k ∷ [])) ≡ suc (length args)
args_length atoms args k = omega (arith, pushed_length (map (atom atoms) args) (Local k), map_length (atom atoms) args)

written_within : (entry : ℕ → ℕ) (lines : List Line) (place : ℕ) (x : Piece) → length x.atoms + bound_by lines ≤ 7 → AllByRecursion IsNarrow lines
    → AreWithin (written entry place x lines)
written_within entry [] place x l a = ((tt, tt, refl), tt)
written_within entry (Let y ∷ lines) place x l a = written_within entry lines place (record x { atoms = atom x.atoms y ∷ x.atoms }) (omega (arith, l)) a.1
written_within entry (Compute y op z ∷ lines) place x l a = (
  (tt, tt, refl),
  written_within entry lines place (record { atoms = Local x.size ∷ x.atoms; answer = x.answer; size = x.size + 1; line = x.line + 1 })
      (omega (arith, l)) a.1,
)
written_within entry (Print None y ∷ lines) place x l a = ((tt, tt, refl), written_within entry lines place (record x { line = x.line + 1 }) l a.1)
written_within entry (Print (Some b) y ∷ lines) place x l a = ((refl, tt, refl), written_within entry lines place (record x { line = x.line + 1 }) l a.1)
written_within entry (Raise None y ∷ lines) place x l a = ((tt, tt, refl), written_within entry lines place (record x { line = x.line + 1 }) l a.1)
written_within entry (Raise (Some b) y ∷ lines) place x l a = ((refl, tt, refl), written_within entry lines place (record x { line = x.line + 1 }) l a.1)
written_within entry (Return None y ∷ lines) place x l a =
    ((tt, tt, refl), ((tt, tt, refl), written_within entry lines place (record x { line = x.line + 2 }) l a.1))
written_within entry (Return (Some b) y ∷ lines) place x l a =
    ((refl, tt, refl), ((refl, tt, refl), written_within entry lines place (record x { line = x.line + 2 }) l a.1))
written_within entry (Await f args ∷ lines) place x l a = (
  (tt, tt, refl),
  ((tt, omega (arith, args_length x.atoms args x.size, a.0), refl), ((tt, omega (arith, pushed_length x.atoms (Local x.answer), l), refl), tt)),
)
written_within entry (AwaitWork kind y ∷ lines) place x l a = ((tt, tt, refl), ((tt, omega (arith, pushed_length x.atoms (Local x.answer), l), refl), tt))
written_within entry (Try f args g ∷ lines) place x l a = (
  (tt, tt, refl),
  (
    (tt, tt, refl),
    (
      (tt, tt, refl),
      (
        (tt, omega arith, refl),
        (
          (tt, omega (arith, args_length x.atoms args x.size, a.0), refl),
          ((tt, omega (arith, pushed_length x.atoms (Local x.answer), l), refl), tt),
        ),
      ),
    ),
  ),
)

binds_few : (entry : ℕ → ℕ) (lines : List Line) (place : ℕ) (x : Piece) → bind_count (written entry place x lines) ≤ bound_by lines + 1
binds_few entry [] place x = omega arith
binds_few entry (Let y ∷ lines) place x = omega (arith, binds_few entry lines place (record x { atoms = atom x.atoms y ∷ x.atoms }))
binds_few entry (Compute y op z ∷ lines) place x =
    omega (arith, binds_few entry lines place (record { atoms = Local x.size ∷ x.atoms; answer = x.answer; size = x.size + 1; line = x.line + 1 }))
binds_few entry (Print when y ∷ lines) place x = omega (arith, binds_few entry lines place (record x { line = x.line + 1 }))
binds_few entry (Raise when y ∷ lines) place x = omega (arith, binds_few entry lines place (record x { line = x.line + 1 }))
binds_few entry (Return when y ∷ lines) place x = omega (arith, binds_few entry lines place (record x { line = x.line + 2 }))
binds_few entry (Await f args ∷ lines) place x = omega arith
binds_few entry (AwaitWork kind y ∷ lines) place x = omega arith
binds_few entry (Try f args g ∷ lines) place x = omega arith

-- what is left to know of one procedure
record IsSlim (proc : NumProc) : Type 0 where
  few : local_count proc ≤ 64
  each : AreWithin proc.body

pub locals_many : (k n : ℕ) → length (locals_from k n) ≡ n
locals_many k zero = refl
locals_many k (suc n) = ap suc (locals_many (suc k) n)

piece_slim : (entry : ℕ → ℕ) (place line n : ℕ) (lines : List Line) → length (piece entry place line n lines).params ≤ 8 → n + bound_by lines ≤ 7
    → AllByRecursion IsNarrow lines → IsSlim (piece entry place line n lines)
piece_slim entry place line n lines q l a =
    record {
      few = omega (arith, binds_few entry lines (suc place) (begin n (line + 1)), l, q);
      each = written_within entry lines (suc place) (begin n (line + 1)) (omega (arith, l, locals_many 0 n)) a;
    }

further_slim : (entry : ℕ → ℕ) (lines : List Line) (place line n : ℕ) → AllByRecursion correct.ProcIsWithin (further entry place line n lines)
    → n + bound_by lines ≤ 7 → AllByRecursion IsNarrow lines → AllByRecursion IsSlim (further entry place line n lines)
further_slim entry [] place line n w l a = tt
further_slim entry (Let x ∷ lines) place line n w l a = further_slim entry lines place line (suc n) w (omega (arith, l)) a.1
further_slim entry (Compute x op y ∷ lines) place line n w l a = further_slim entry lines place line (suc n) w (omega (arith, l)) a.1
further_slim entry (Print when x ∷ lines) place line n w l a = further_slim entry lines place line n w l a.1
further_slim entry (Raise when x ∷ lines) place line n w l a = further_slim entry lines place line n w l a.1
further_slim entry (Return when x ∷ lines) place line n w l a = further_slim entry lines place line n w l a.1
further_slim entry (Await f args ∷ lines) place line n w l a = (
  piece_slim entry place line (suc n) lines w.0.params (omega (arith, l)) a.1,
  further_slim entry lines (suc place) (line_behind (piece entry place line (suc n) lines)) (suc n) w.1 (omega (arith, l)) a.1,
)
further_slim entry (AwaitWork kind x ∷ lines) place line n w l a = (
  piece_slim entry place line (suc n) lines w.0.params (omega (arith, l)) a.1,
  further_slim entry lines (suc place) (line_behind (piece entry place line (suc n) lines)) (suc n) w.1 (omega (arith, l)) a.1,
)
further_slim entry (Try f args g ∷ lines) place line n w l a = (
  piece_slim entry place line (suc n) lines w.0.params (omega (arith, l)) a.1,
  further_slim entry lines (suc place) (line_behind (piece entry place line (suc n) lines)) (suc n) w.1 (omega (arith, l)) a.1,
)

all_both : (P : NumProc → Type 0) (xs ys : List NumProc) → AllByRecursion P xs → AllByRecursion P ys → AllByRecursion P (xs ++ ys)
all_both P [] ys a b = b
all_both P (x ∷ xs) ys a b = (a.0, all_both P xs ys a.1 b)

all_split : (P : NumProc → Type 0) (xs ys : List NumProc) → AllByRecursion P (xs ++ ys) → AllByRecursion P xs × AllByRecursion P ys
all_split P [] ys h = (tt, h)
all_split P (x ∷ xs) ys h = let r = all_split P xs ys h.1 in ((h.0, r.0), r.1)

funs_slim : (p : Source) → AllByRecursion FunIsWithin p.funs → (entry : ℕ → ℕ) (funs : List Fun) (place line : ℕ)
    → AllByRecursion correct.ProcIsWithin (funs_procs entry place line funs) → AllByRecursion FunIsWithin funs → AllByRecursion (FunIsSound p) funs
    → AllByRecursion IsSlim (funs_procs entry place line funs)
funs_slim p all entry [] place line w l a = tt
funs_slim p all entry (fun ∷ funs) place line w l a =
    let rest : List NumProc = funs_procs entry (place + suc (awaits fun.lines)) (line_after line (fun_procs entry place line fun)) funs
    in let r = all_split correct.ProcIsWithin (fun_procs entry place line fun) rest w
    in let narrow : AllByRecursion IsNarrow fun.lines = lines_narrow p all fun.lines a.0.calls
    in all_both IsSlim (fun_procs entry place line fun) rest (
      piece_slim entry place line fun.params fun.lines r.0.0.params l.0.locals narrow,
      further_slim entry fun.lines (suc place) (line_behind (piece entry place line fun.params fun.lines)) fun.params r.0.1 l.0.locals narrow,
    )
    (funs_slim p all entry funs (place + suc (awaits fun.lines)) (line_after line (fun_procs entry place line fun)) r.1 l.1 a.1)

range_length : (a n : ℕ) → length (range_with_len a n) ≡ n
range_length a zero = refl
range_length a (suc n) = ap suc (range_length (a + 1) n)

locals_length : (procs : List NumProc) (proc : NumProc) → AreWritable proc.body → ProcIsSound procs proc
    → length (locals (named_proc proc)) ≡ local_count proc
locals_length procs proc w h =
    sym (map_length _ (locals (named_proc proc)))
    ∙ ap length (locals_are procs proc w h)
    ∙ map_length local_name (range_with_len 0 (local_count proc))
    ∙ range_length 0 (local_count proc)

all_within : (all procs : List NumProc) → AllByRecursion IsPlain procs → AllByRecursion (ProcIsSound all) procs → AllByRecursion correct.ProcIsWithin procs
    → AllByRecursion IsSlim procs → AllByRecursion (ProcIsWithin version.One) (named procs)
all_within all [] w h b s = tt
all_within all (proc ∷ procs) w h b s = (
  record {
    params = omega (arith, map_length named_param proc.params, b.0.params);
    statements = omega (arith, map_length named_statement proc.body, b.0.statements);
    locals = omega (arith, locals_length all proc w.0 h.0, s.0.few);
    each = s.0.each;
  },
  all_within all procs w.1 h.1 b.1 s.1,
)

-- each procedure of the script keeps the limits
pub script_within : (p : Source) → Compiles p → AllByRecursion (ProcIsWithin version.One) (named (compiled p))
script_within p h =
    let bounds = procs_within p h.within
    in all_within (compiled p) (compiled p) (is_plain p) (is_sound p h).each bounds (
      record { few = omega arith; each = ((tt, tt, refl), ((tt, omega arith, refl), tt)) },
      funs_slim p h.within (entry_from 1 p.funs) p.funs 1 5 bounds.1 h.within h.sound.each,
    )
