-- A function is written line by line.
use Rattle.std.proofs.Common.{ℕ, suc, pos, ◌+◌, ◌*◌, ◌<◌, ◌≤◌, ◌^◌, ◌≡◌, ◌⊎◌, inl, inr, List, [], ◌∷◌, ◌++◌, length, drop, None, refl, length-append, ap, sym, subst, ◌∙◌, arith}
use Rattle.ak_program.specs.declared.program.NumProc.{NumProc}
use Rattle.ak_program.specs.declared.statement.NumAtom.TheVariants.{Literal}
use Rattle.ak_program.specs.declared.statement.NumStmt.TheVariants as stmt
use Rattle.ak_let.specs.declared.source.Line.{Line}
use Rattle.ak_let.specs.declared.source.Fun.{Fun}
use Rattle.ak_let.specs.Compile.{fun_procs, further, line_after, line_behind, piece, plain, written}
use Rattle.ak_let.specs.Correct.{FunIsWithin}
use Rattle.ak_let_compile.specs.declared.draft.Draft.{Draft}
use Rattle.ak_let_compile.specs.Drafts.{HasRoom, IsLined, Steps, begun, completed, piece_of, proc_of, with_statement}
use Rattle.ak_let_compile.proofs.Places.{drop_past}
use Rattle.ak_let_compile.proofs.Written.{locals_many}

-- so many lines of a function are written, and what is left comes to the whole
pub record IsWalked (entry : ℕ → ℕ) (place line : ℕ) (fun : Fun) (before after : List NumProc) (d : Draft) (i : ℕ) : Type 0 where
  pub same : after ++ completed entry d (drop i fun.lines) ≡ before ++ fun_procs entry place line fun
  pub lined : IsLined d
  pub at_line : d.line ≤ line + 1 + 8 * i
  pub name : d.name ≤ place + i
  pub size : d.size ≤ fun.params + i + 2
  pub locals : length d.locals ≤ fun.params + i

pub none_walked : (entry : ℕ → ℕ) (place line : ℕ) (fun : Fun) (before : List NumProc) (d : Draft) → d ≡ begun place line fun.params
    → IsWalked entry place line fun before before d 0
none_walked entry place line fun before d e =
    subst (λ (x : Draft). IsWalked entry place line fun before before x 0) (sym e)
    (record {
      same = ap
          (λ n. before
          ++ proc_of (record (begun place line fun.params) { body = written entry (suc place) (piece_of (begun place line fun.params)) fun.lines })
          ∷ further entry (suc place)
          (line_behind
          (proc_of (record (begun place line fun.params) { body = written entry (suc place) (piece_of (begun place line fun.params)) fun.lines })))
          n fun.lines)
          (locals_many 0 fun.params);
      lined = omega arith;
      at_line = omega arith;
      name = omega arith;
      size = omega arith;
      locals = omega (arith, locals_many 0 fun.params);
    })

-- there is room for each line of a function within its limits
pub has_room : (entry : ℕ → ℕ) (place line : ℕ) (fun : Fun) (before after : List NumProc) (d : Draft) (i : ℕ) → FunIsWithin fun → place < 2 ^ 30
    → line < 2 ^ 30 → i < length fun.lines → IsWalked entry place line fun before after d i → HasRoom d
has_room entry place line fun before after d i w p q l h =
    record {
      line = omega (arith, w.lines, q, l, h.at_line);
      name = omega (arith, w.lines, p, l, h.name);
      size = omega (arith, w.lines, w.locals, l, h.size);
      locals = omega (arith, w.lines, w.locals, l, h.locals);
    }

pub one_walked : (entry : ℕ → ℕ) (place line : ℕ) (fun : Fun) (before middle after : List NumProc) (d next : Draft) (i : ℕ) (walked : Line)
    → drop i fun.lines ≡ walked ∷ drop (i + 1) fun.lines → IsWalked entry place line fun before middle d i → Steps entry d walked middle after next
    → IsWalked entry place line fun before after next (i + 1)
one_walked entry place line fun before middle after d next i walked e h s =
    record {
      same = s.same (drop (i + 1) fun.lines) ∙ ap (λ r. middle ++ completed entry d r) (sym e) ∙ h.same;
      lined = s.lined;
      at_line = omega (arith, s.line, h.at_line);
      name = omega (arith, s.name, h.name);
      size = by s.size;
      locals = omega (arith, s.locals, h.locals);
    }
  where
    by : (next.size ≤ d.size + 1) ⊎ (next.size ≤ length d.locals + 2) → next.size ≤ fun.params + (i + 1) + 2
    by (inl l) = omega (arith, l, h.size)
    by (inr l) = omega (arith, l, h.locals)

-- at the end of the function its last procedure answers 0
pub all_walked : (entry : ℕ → ℕ) (place line : ℕ) (fun : Fun) (before after : List NumProc) (d : Draft) (i : ℕ) → length fun.lines ≤ i
    → IsWalked entry place line fun before after d i
    → after ++ proc_of (with_statement d None (stmt.Offer d.answer (Literal (pos 0)))) ∷ [] ≡ before ++ fun_procs entry place line fun
all_walked entry place line fun before after d i l h =
    ap (λ r. after ++ completed entry d r) (sym (drop_past fun.lines i l)) ∙ h.same

-- the line behind procedures is that behind the last
pub line_after_last : (x y : ℕ) (before : List NumProc) (proc : NumProc) (procs : List NumProc)
    → line_after x (before ++ proc ∷ procs) ≡ line_after y (proc ∷ procs)
line_after_last x y [] proc procs = refl
line_after_last x y (first ∷ before) proc procs = line_after_last (line_behind first) y before proc procs

-- the line behind a function that is written
pub behind_all : (entry : ℕ → ℕ) (place line : ℕ) (fun : Fun) (before after : List NumProc) (d : Draft) (i : ℕ) → length fun.lines ≤ i
    → IsWalked entry place line fun before after d i → d.line + 2 ≡ line_after line (fun_procs entry place line fun)
behind_all entry place line fun before after d i l h =
    let last : NumProc = proc_of (with_statement d None (stmt.Offer d.answer (Literal (pos 0))))
    in let procs : List NumProc = fun_procs entry place line fun
    in let first : NumProc = piece entry place line fun.params fun.lines
    in let behind : d.line + 2 ≡ line_behind last =
    omega (arith, h.lined, length-append d.body (plain d.line (stmt.Offer d.answer (Literal (pos 0))) ∷ []))
    in behind ∙ sym (line_after_last line line after last [])
    ∙ ap (line_after line) (all_walked entry place line fun before after d i l h)
    ∙ line_after_last line line before first (further entry (suc place) (line_behind first) fun.params fun.lines)
