-- A source is written function by function.
use Rattle.std.proofs.Common.{ℕ, zero, suc, ◌+◌, ◌*◌, ◌≤◌, ◌≡◌, List, [], ◌∷◌, ◌++◌, length, drop, add-one, append_assoc, refl, ap, ap₂, sym, subst, ◌∙◌, arith}
use Rattle.std.proofs.Math.Path.{fun_ext}
use Rattle.std.proofs.lemmas.List.{append-nil}
use Rattle.std.specs.List.{AllByRecursion}
use Rattle.ak_program.specs.declared.program.NumProc.{NumProc}
use Rattle.ak_let.specs.declared.source.Line.{Line}
use Rattle.ak_let.specs.declared.source.Fun.{Fun}
use Rattle.ak_let.specs.declared.source.Source.{Source}
use Rattle.ak_let.specs.Compile.{awaits, compiled, entry_from, fun_procs, funs_procs, line_after, starter}
use Rattle.ak_let.specs.Correct.{FunIsWithin}
use Rattle.ak_let_compile.specs.declared.entries.Entries.{Entries}
use Rattle.ak_let_compile.specs.Drafts.{entry_at}
use Rattle.ak_let_compile.proofs.Places.{awaits_cons, awaits_one, drop_past}

-- so many functions are written, and what is left comes to the whole
pub record IsCompiled (source : Source) (line : ℕ) (procs : List NumProc) (i : ℕ) : Type 0 where
  pub same : procs ++ funs_procs (entry_from 1 source.funs) (entry_from 1 source.funs i) line (drop i source.funs) ≡ compiled source
  pub near : line ≤ 5 + 200 * i

pub same_entries : (entries : Entries) (funs : List Fun) → ((f : ℕ) → entry_at entries f ≡ entry_from 1 funs f)
    → entry_at entries ≡ entry_from 1 funs
same_entries entries funs h = fun_ext h

-- ---- where functions begin
entry_first : (place : ℕ) (funs : List Fun) → entry_from place funs zero ≡ place
entry_first place [] = refl
entry_first place (fun ∷ funs) = refl

entry_next : (place : ℕ) (funs : List Fun) (f : ℕ) (fun : Fun) (rest : List Fun) → drop f funs ≡ fun ∷ rest
    → entry_from place funs (suc f) ≡ entry_from place funs f + suc (awaits fun.lines)
entry_next place [] zero fun rest e = cc
entry_next place [] (suc f) fun rest e = cc
entry_next place (first ∷ funs) zero fun rest e =
    let same : first ≡ fun = cc
    in entry_first (place + suc (awaits first.lines)) funs ∙ ap (λ (x : Fun). place + suc (awaits x.lines)) same
entry_next place (first ∷ funs) (suc f) fun rest e = entry_next (place + suc (awaits first.lines)) funs f fun rest e

awaits_few : (lines : List Line) → awaits lines ≤ length lines
awaits_few [] = omega arith
awaits_few (line ∷ lines) = omega (arith, awaits_cons line lines, awaits_one line, awaits_few lines)

pub entry_near : (place : ℕ) (funs : List Fun) (f : ℕ) → AllByRecursion FunIsWithin funs → entry_from place funs f ≤ place + 16 * f
entry_near place [] f w = omega arith
entry_near place (fun ∷ funs) zero w = omega arith
entry_near place (fun ∷ funs) (suc f) w =
    omega (arith, entry_near (place + suc (awaits fun.lines)) funs f w.1, awaits_few fun.lines, w.0.lines)

-- ---- function by function
pub none_compiled : (source : Source) (entries : Entries) (procs : List NumProc)
    → ((f : ℕ) → entry_at entries f ≡ entry_from 1 source.funs f)
    → procs ≡ starter (entry_at entries) source.main ∷ [] → IsCompiled source 5 procs 0
none_compiled source entries procs h e =
    let entry : ℕ → ℕ = entry_from 1 source.funs
    in record {
      same = ap (λ ps. ps ++ funs_procs entry (entry 0) 5 source.funs)
          (e ∙ ap (λ en. starter en source.main ∷ []) (same_entries entries source.funs h))
          ∙ ap (λ p. starter entry source.main ∷ funs_procs entry p 5 source.funs) (entry_first 1 source.funs);
      near = omega arith;
    }

one_more : (source : Source) (line : ℕ) (procs : List NumProc) (i : ℕ) (fun : Fun) → drop i source.funs ≡ fun ∷ drop (i + 1) source.funs
    → IsCompiled source line procs i
    → let entry : ℕ → ℕ = entry_from 1 source.funs
    in let written : List NumProc = fun_procs entry (entry i) line fun
    in line_after line written ≤ line + 200 → IsCompiled source (line_after line written) (procs ++ written) (i + 1)
one_more source line procs i fun e h l =
    let entry : ℕ → ℕ = entry_from 1 source.funs
    in let written : List NumProc = fun_procs entry (entry i) line fun
    in let rest : List Fun = drop (i + 1) source.funs
    in let behind : ℕ = line_after line written
    in let place : entry (i + 1) ≡ entry i + suc (awaits fun.lines) = ap entry (add-one i) ∙ entry_next 1 source.funs i fun rest e
    in record {
      same = append_assoc procs written (funs_procs entry (entry (i + 1)) behind rest)
          ∙ ap (λ p. procs ++ (written ++ funs_procs entry p behind rest)) place
          ∙ ap (λ r. procs ++ funs_procs entry (entry i) line r) (sym e)
          ∙ h.same;
      near = omega (arith, h.near, l);
    }

pub one_compiled : (source : Source) (entries : Entries) (line behind place : ℕ) (procs next : List NumProc) (i : ℕ) (fun : Fun)
    → ((f : ℕ) → entry_at entries f ≡ entry_from 1 source.funs f) → place ≡ entry_at entries i
    → drop i source.funs ≡ fun ∷ drop (i + 1) source.funs
    → next ≡ procs ++ fun_procs (entry_at entries) place line fun → behind ≡ line_after line (fun_procs (entry_at entries) place line fun)
    → behind ≤ line + 200 → IsCompiled source line procs i → IsCompiled source behind next (i + 1)
one_compiled source entries line behind place procs next i fun h at e n b l compiled_so =
    let entry : ℕ → ℕ = entry_from 1 source.funs
    in let same : fun_procs (entry_at entries) place line fun ≡ fun_procs entry (entry i) line fun =
    ap₂ (λ en p. fun_procs en p line fun) (same_entries entries source.funs h) (at ∙ h i)
    in let behind_is : behind ≡ line_after line (fun_procs entry (entry i) line fun) = b ∙ ap (line_after line) same
    in subst (λ x. IsCompiled source x next (i + 1)) (sym behind_is)
    (subst (λ ps. IsCompiled source (line_after line (fun_procs entry (entry i) line fun)) ps (i + 1)) (sym (n ∙ ap (λ ps. procs ++ ps) same))
    (one_more source line procs i fun e compiled_so (omega (arith, behind_is, l))))

-- behind the last function all is written
pub all_compiled : (source : Source) (line : ℕ) (procs : List NumProc) (i : ℕ) → length source.funs ≤ i → IsCompiled source line procs i
    → procs ≡ compiled source
all_compiled source line procs i l h =
    let entry : ℕ → ℕ = entry_from 1 source.funs
    in sym (append-nil procs) ∙ ap (λ r. procs ++ funs_procs entry (entry i) line r) (sym (drop_past source.funs i l)) ∙ h.same
