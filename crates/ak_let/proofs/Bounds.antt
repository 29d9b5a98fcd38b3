-- The limits of the compiled program.
use Rattle.std.proofs.Common.{ℕ, zero, suc, ◌+◌, ◌*◌, ◌≤◌, ◌≡◌, List, [], ◌∷◌, ◌++◌, length, refl, ap, arith, length-append}
use Rattle.std.specs.List.{AllByRecursion}
use Rattle.ak_program.specs.declared.program.NumProc.{NumProc}
use Rattle.ak_program.specs.declared.statement.NumAtom.TheVariants.{Local}
use Rattle.ak_let.specs.declared.source.Line.{Line}
use Rattle.ak_let.specs.declared.source.Line.TheVariants.{Let, Compute, Print, Raise, Return, Await, AwaitWork, Try}
use Rattle.ak_let.specs.declared.source.Fun.{Fun}
use Rattle.ak_let.specs.declared.source.Source.{Source}
use Rattle.ak_let.specs.Compile.{Piece, atom, begin, written, params_from, piece, line_behind, further, fun_procs, awaits, entry_from, line_after, funs_procs, compiled}
use Rattle.ak_let.specs.Correct.{text_lines, bound_by, FunIsWithin, ProcIsWithin}
use Rattle.ak_let.proofs.Placed.{length_fun}

awaits_few : (lines : List Line) → awaits lines ≤ length lines
awaits_few [] = omega arith
awaits_few (Let a ∷ lines) = omega (arith, awaits_few lines)
awaits_few (Compute a op b ∷ lines) = omega (arith, awaits_few lines)
awaits_few (Print when a ∷ lines) = omega (arith, awaits_few lines)
awaits_few (Raise when a ∷ lines) = omega (arith, awaits_few lines)
awaits_few (Return when a ∷ lines) = omega (arith, awaits_few lines)
awaits_few (Await f args ∷ lines) = omega (arith, awaits_few lines)
awaits_few (AwaitWork kind a ∷ lines) = omega (arith, awaits_few lines)
awaits_few (Try f args g ∷ lines) = omega (arith, awaits_few lines)

pub funs_few : (entry : ℕ → ℕ) (place line : ℕ) (funs : List Fun) → length (funs_procs entry place line funs) ≤ text_lines funs
funs_few entry place line [] = omega arith
funs_few entry place line (fun ∷ funs) =
    omega (
      arith,
      length-append (fun_procs entry place line fun)
          (funs_procs entry (place + suc (awaits fun.lines)) (line_after line (fun_procs entry place line fun)) funs),
      length_fun entry place line fun,
      awaits_few fun.lines,
      funs_few entry (place + suc (awaits fun.lines)) (line_after line (fun_procs entry place line fun)) funs,
    )

-- fewer procedures than lines
pub few_procs : (p : Source) → length (compiled p) ≤ 2 * text_lines p.funs + 8
few_procs p = omega (arith, funs_few (entry_from 1 p.funs) 1 5 p.funs)

-- ---- one procedure
body_short : (entry : ℕ → ℕ) (place : ℕ) (x : Piece) (lines : List Line) → length (written entry place x lines) ≤ 2 * length lines + 4
body_short entry place x [] = omega arith
body_short entry place x (Let a ∷ lines) = omega (arith, body_short entry place (record x { atoms = atom x.atoms a ∷ x.atoms }) lines)
body_short entry place x (Compute a op b ∷ lines) =
    omega (arith, body_short entry place (record { atoms = Local x.size ∷ x.atoms; answer = x.answer; size = x.size + 1; line = x.line + 1 }) lines)
body_short entry place x (Print when a ∷ lines) = omega (arith, body_short entry place (record x { line = x.line + 1 }) lines)
body_short entry place x (Raise when a ∷ lines) = omega (arith, body_short entry place (record x { line = x.line + 1 }) lines)
body_short entry place x (Return when a ∷ lines) = omega (arith, body_short entry place (record x { line = x.line + 2 }) lines)
body_short entry place x (Await f args ∷ lines) = omega arith
body_short entry place x (AwaitWork kind a ∷ lines) = omega arith
body_short entry place x (Try f args g ∷ lines) = omega arith

params_many : (k n : ℕ) → length (params_from k n) ≡ suc n
params_many k zero = refl
params_many k (suc n) = ap suc (params_many (suc k) n)

piece_within : (entry : ℕ → ℕ) (place line n : ℕ) (lines : List Line) → length lines ≤ 15 → n ≤ 7 → ProcIsWithin (piece entry place line n lines)
piece_within entry place line n lines a b =
    record {
      params = omega (arith, params_many 0 n, b);
      statements = omega (arith, body_short entry (suc place) (begin n (line + 1)) lines, a);
    }

further_within : (entry : ℕ → ℕ) (lines : List Line) (place line n : ℕ) → length lines ≤ 15 → n + bound_by lines ≤ 7
    → AllByRecursion ProcIsWithin (further entry place line n lines)
further_within entry [] place line n a b = tt
further_within entry (Let x ∷ lines) place line n a b = further_within entry lines place line (suc n) (omega (arith, a)) (omega (arith, b))
further_within entry (Compute x op y ∷ lines) place line n a b = further_within entry lines place line (suc n) (omega (arith, a)) (omega (arith, b))
further_within entry (Print when x ∷ lines) place line n a b = further_within entry lines place line n (omega (arith, a)) b
further_within entry (Raise when x ∷ lines) place line n a b = further_within entry lines place line n (omega (arith, a)) b
further_within entry (Return when x ∷ lines) place line n a b = further_within entry lines place line n (omega (arith, a)) b
further_within entry (Await f args ∷ lines) place line n a b = (
  piece_within entry place line (suc n) lines (omega (arith, a)) (omega (arith, b)),
  further_within entry lines (suc place) (line_behind (piece entry place line (suc n) lines)) (suc n) (omega (arith, a)) (omega (arith, b)),
)
further_within entry (AwaitWork kind x ∷ lines) place line n a b = (
  piece_within entry place line (suc n) lines (omega (arith, a)) (omega (arith, b)),
  further_within entry lines (suc place) (line_behind (piece entry place line (suc n) lines)) (suc n) (omega (arith, a)) (omega (arith, b)),
)
further_within entry (Try f args g ∷ lines) place line n a b = (
  piece_within entry place line (suc n) lines (omega (arith, a)) (omega (arith, b)),
  further_within entry lines (suc place) (line_behind (piece entry place line (suc n) lines)) (suc n) (omega (arith, a)) (omega (arith, b)),
)

all_append : (xs ys : List NumProc) → AllByRecursion ProcIsWithin xs → AllByRecursion ProcIsWithin ys → AllByRecursion ProcIsWithin (xs ++ ys)
all_append [] ys a b = b
all_append (x ∷ xs) ys a b = (a.0, all_append xs ys a.1 b)

funs_within : (entry : ℕ → ℕ) (place line : ℕ) (funs : List Fun) → AllByRecursion FunIsWithin funs
    → AllByRecursion ProcIsWithin (funs_procs entry place line funs)
funs_within entry place line [] a = tt
funs_within entry place line (fun ∷ funs) a =
    all_append (fun_procs entry place line fun) (funs_procs entry (place + suc (awaits fun.lines)) (line_after line (fun_procs entry place line fun)) funs) (
      piece_within entry place line fun.params fun.lines a.0.lines (omega (arith, a.0.locals)),
      further_within entry fun.lines (suc place) (line_behind (piece entry place line fun.params fun.lines)) fun.params a.0.lines a.0.locals,
    )
    (funs_within entry (place + suc (awaits fun.lines)) (line_after line (fun_procs entry place line fun)) funs a.1)

-- each procedure keeps the limits
pub procs_within : (p : Source) → AllByRecursion FunIsWithin p.funs → AllByRecursion ProcIsWithin (compiled p)
procs_within p a = (record { params = omega arith; statements = omega arith }, funs_within (entry_from 1 p.funs) 1 5 p.funs a)
