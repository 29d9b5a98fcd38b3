-- The lines of a compiled source are counted as its text has them.
use Rattle.std.proofs.Common.{ℕ, suc, ◌+◌, ◌≡◌, List, [], ◌∷◌, ◌++◌, map, length, refl, subst, arith}
use Rattle.ak_program.specs.declared.program.NumProc.{NumProc}
use Rattle.ak_program.specs.declared.program.NumStatement.{NumStatement}
use Rattle.ak_program.specs.declared.statement.NumAtom.TheVariants.{Local}
use Rattle.ak_syntax.specs.declared.line_form.Form.{Form}
use Rattle.ak_syntax.specs.declared.line_form.Form.TheVariants.{Body, End}
use Rattle.ak_syntax.specs.Grammar.{forms}
use Rattle.ak_let.specs.declared.source.Line.{Line}
use Rattle.ak_let.specs.declared.source.Line.TheVariants.{Let, Compute, Print, Raise, Return, Await, AwaitWork, Try}
use Rattle.ak_let.specs.declared.source.Fun.{Fun}
use Rattle.ak_let.specs.declared.source.Source.{Source}
use Rattle.ak_let.specs.Compile.{Piece, atom, begin, written, piece, line_behind, further, fun_procs, awaits, entry_from, line_after, funs_procs, compiled}
use Rattle.ak_let_text.specs.Named.{named_statement, named}
use Rattle.ak_let_text.proofs.Forms.{AreLined}

-- these statements stand on the lines from a number on
abbrev AreNumbered : ℕ → List NumStatement → Type 0
AreNumbered number [] = Unit {0}
AreNumbered number (s ∷ lines) = (s.line ≡ number) × AreNumbered (number + 1) lines

abbrev ProcsLined : ℕ → List NumProc → Type 0
ProcsLined number [] = Unit {0}
ProcsLined number (proc ∷ procs) = (proc.line ≡ number) × AreNumbered (number + 1) proc.body × ProcsLined (line_behind proc) procs

two : (n : ℕ) → n + 2 ≡ n + 1 + 1
two n = omega arith

written_lined : (entry : ℕ → ℕ) (lines : List Line) (place : ℕ) (x : Piece) → AreNumbered x.line (written entry place x lines)
written_lined entry [] place x = (refl, tt)
written_lined entry (Let a ∷ lines) place x = written_lined entry lines place (record x { atoms = atom x.atoms a ∷ x.atoms })
written_lined entry (Compute a op b ∷ lines) place x =
    (refl, written_lined entry lines place (record { atoms = Local x.size ∷ x.atoms; answer = x.answer; size = x.size + 1; line = x.line + 1 }))
written_lined entry (Print when a ∷ lines) place x = (refl, written_lined entry lines place (record x { line = x.line + 1 }))
written_lined entry (Raise when a ∷ lines) place x = (refl, written_lined entry lines place (record x { line = x.line + 1 }))
written_lined entry (Return when a ∷ lines) place x = (
  refl,
  (
    refl,
    subst (λ n. AreNumbered n (written entry place (record x { line = x.line + 2 }) lines)) (two x.line)
        (written_lined entry lines place (record x { line = x.line + 2 })),
  ),
)
written_lined entry (Await f args ∷ lines) place x = (refl, (refl, (two x.line, tt)))
written_lined entry (AwaitWork kind a ∷ lines) place x = (refl, (refl, tt))
written_lined entry (Try f args g ∷ lines) place x = (refl, (refl, (omega arith, (omega arith, (omega arith, (omega arith, tt))))))

piece_lined : (entry : ℕ → ℕ) (place line n : ℕ) (lines : List Line) → AreNumbered (line + 1) (piece entry place line n lines).body
piece_lined entry place line n lines = written_lined entry lines (suc place) (begin n (line + 1))

further_lined : (entry : ℕ → ℕ) (lines : List Line) (place line n : ℕ) → ProcsLined line (further entry place line n lines)
further_lined entry [] place line n = tt
further_lined entry (Let a ∷ lines) place line n = further_lined entry lines place line (suc n)
further_lined entry (Compute a op b ∷ lines) place line n = further_lined entry lines place line (suc n)
further_lined entry (Print when a ∷ lines) place line n = further_lined entry lines place line n
further_lined entry (Raise when a ∷ lines) place line n = further_lined entry lines place line n
further_lined entry (Return when a ∷ lines) place line n = further_lined entry lines place line n
further_lined entry (Await f args ∷ lines) place line n =
    (refl, piece_lined entry place line (suc n) lines, further_lined entry lines (suc place) (line_behind (piece entry place line (suc n) lines)) (suc n))
further_lined entry (AwaitWork kind a ∷ lines) place line n =
    (refl, piece_lined entry place line (suc n) lines, further_lined entry lines (suc place) (line_behind (piece entry place line (suc n) lines)) (suc n))
further_lined entry (Try f args g ∷ lines) place line n =
    (refl, piece_lined entry place line (suc n) lines, further_lined entry lines (suc place) (line_behind (piece entry place line (suc n) lines)) (suc n))

lined_append : (xs ys : List NumProc) (line : ℕ) → ProcsLined line xs → ProcsLined (line_after line xs) ys → ProcsLined line (xs ++ ys)
lined_append [] ys line a b = b
lined_append (x ∷ xs) ys line a b = (a.0, a.1, lined_append xs ys (line_behind x) a.2 b)

funs_lined : (entry : ℕ → ℕ) (funs : List Fun) (place line : ℕ) → ProcsLined line (funs_procs entry place line funs)
funs_lined entry [] place line = tt
funs_lined entry (fun ∷ funs) place line =
    lined_append (fun_procs entry place line fun) (funs_procs entry (place + suc (awaits fun.lines)) (line_after line (fun_procs entry place line fun)) funs)
    line (
      refl,
      piece_lined entry place line fun.params fun.lines,
      further_lined entry fun.lines (suc place) (line_behind (piece entry place line fun.params fun.lines)) fun.params,
    )
    (funs_lined entry funs (place + suc (awaits fun.lines)) (line_after line (fun_procs entry place line fun)))

-- the lines of a body, its end, and what follows
body_lined : (lines : List NumStatement) (number : ℕ) (rest : List Form) → AreNumbered number lines → AreLined (number + length lines + 1) rest
    → AreLined number (map Body (map named_statement lines) ++ End ∷ rest)
body_lined [] number rest a b = (tt, subst (λ n. AreLined n rest) (plus_zero number) b)
  where
    plus_zero : (n : ℕ) → n + 0 + 1 ≡ n + 1
    plus_zero n = omega arith
body_lined (s ∷ lines) number rest a b = (a.0, body_lined lines (number + 1) rest a.1 (subst (λ n. AreLined n rest) (one_in number (length lines)) b))
  where
    one_in : (n k : ℕ) → n + suc k + 1 ≡ n + 1 + k + 1
    one_in n k = omega arith

forms_lined : (procs : List NumProc) (number : ℕ) → ProcsLined number procs → AreLined number (forms (named procs))
forms_lined [] number h = tt
forms_lined (proc ∷ procs) number h = (
  h.0,
  body_lined proc.body (number + 1) (forms (named procs)) h.1
      (subst (λ n. AreLined n (forms (named procs))) (behind proc.line number (length proc.body) h.0) (forms_lined procs (line_behind proc) h.2)),
)
  where
    behind : (a b k : ℕ) → a ≡ b → a + k + 2 ≡ b + 1 + k + 1
    behind a b k e = omega (arith, e)

pub compiled_lined : (p : Source) → AreLined 1 (forms (named (compiled p)))
compiled_lined p = forms_lined (compiled p) 1 (refl, (refl, (refl, tt)), funs_lined (entry_from 1 p.funs) p.funs 1 5)
