-- A whole piece, by its lines.
use Rattle.std.proofs.Common.{ℕ, ℤ, suc, pos, ◌+◌, ◌≤◌, ◌≡◌, List, [], ◌∷◌, ◌++◌, length, Bool, true, false, cond, Option, refl, ap, ap₂, sym, ◌∙◌, subst, arith}
use Rattle.ak_labor.specs.declared.work.Work.{Work}
use Rattle.ak_frames.specs.declared.value.Value.{Value}
use Rattle.ak_frames.specs.declared.value.Value.TheVariants.{Num}
use Rattle.ak_frames.specs.declared.frame.Ret.TheVariants.{Drop}
use Rattle.ak_trace.specs.declared.entry.Entry.TheVariants as entry
use Rattle.ak_program.specs.declared.statement.NumAtom.TheVariants.{Literal, Local}
use Rattle.ak_program.specs.declared.statement.NumStmt.{NumStmt}
use Rattle.ak_program.specs.declared.statement.NumStmt.TheVariants as stmt
use Rattle.ak_program.specs.declared.program.NumStatement.{NumStatement}
use Rattle.ak_script.specs.declared.statement.Operator.{Operator}
use Rattle.ak_machine.specs.State.{State}
use Rattle.ak_machine.specs.Number.{Computed, Gives, Overflows, DividesByZero, computed}
use Rattle.ak_machine.specs.Deferred.{noting, fill}
use Rattle.ak_machine.specs.Errors.{going_on}
use Rattle.ak_machine.specs.Effect.{Goes, Raises, Returns, bound, overflow, zero_divisor}
use Rattle.ak_machine.specs.Statement.{set_effect, effect_of}
use Rattle.ak_machine.specs.Job.{Over, run_lines}
use Rattle.ak_let.specs.declared.source.Atom.{Atom}
use Rattle.ak_let.specs.declared.source.Line.{Line}
use Rattle.ak_let.specs.declared.source.Line.TheVariants.{Let, Compute, Print, Raise, Return, Await, AwaitWork, Try}
use Rattle.ak_let.specs.Eval.{Caller, value, acts, walk_on, answered, thrown, computed_to}
use Rattle.ak_let.specs.Compile.{Piece, atom, when_holds, plain, guarded, written}
use Rattle.ak_let.proofs.Locals.{Reads, number_reads, holds_as, reads_let, reads_set, reads_line}
use Rattle.ak_let.proofs.Related.{Target, IsTarget, Follows, ctx_at, Linked, Within, RunsTo, weight}
use Rattle.ak_let.proofs.Chain.{told_print, answers, throws}
use Rattle.ak_let.proofs.Pieces.{proceeds, run_line, run_now, run_step, same_within, before, answer_name, await_runs, work_runs, try_runs}

-- a statement behind a prefix
guarded_line : {vals : List Value} {x : Piece} {r : ℕ} {locals : List ℤ} → Reads vals x r locals
    → (m at : ℕ) (when : Option Atom) (st : NumStmt) (lines : List NumStatement) (s : State)
    → run_lines (ctx_at m) Drop (guarded at (when_holds x.atoms when) st ∷ lines) s vals
    ≡ proceeds (ctx_at m) Drop lines s (cond (acts locals when) (effect_of (ctx_at m) st s vals) (Goes s vals))
guarded_line {vals} {x} {r} {locals} h m at when st lines s =
    run_line (ctx_at m) Drop (guarded at (when_holds x.atoms when) st) lines s vals
    ∙ ap (λ b. proceeds (ctx_at m) Drop lines s (cond b (effect_of (ctx_at m) st s vals) (Goes s vals))) (holds_as h when)

-- what is known when a job comes to these lines
abbrev Comes : Target → List Line → List ℤ → List Caller → ℕ → ℕ → Piece → ℕ → List Value → State → List ℤ → List Work → Type 0
Comes t lines locals callers r m x place vals s ps ws =
    Within s ps ws × Linked t s.cells s.monitors r m callers × Reads vals x r locals × Follows t place (length locals) lines × (length lines ≤ 64)

abbrev Does : Target → List Line → List ℤ → List Caller → ℕ → ℕ → Piece → ℕ → List Value → State → List ℤ → List Work → Type 0
Does t lines locals callers r m x place vals s ps ws =
    RunsTo t (run_lines (ctx_at m) Drop (written t.entry place x lines) s vals) (before lines locals callers ps ws) (weight callers) (length lines)

-- the claim for the lines behind one
abbrev Further : Target → List Line → Type 0
Further t lines =
    (locals : List ℤ) (callers : List Caller) (r m : ℕ) (x : Piece) (place : ℕ) (vals : List Value) (s : State) (ps : List ℤ) (ws : List Work)
    → Comes t lines locals callers r m x place vals s ps ws → Does t lines locals callers r m x place vals s ps ws

let_runs : (t : Target) (a : Atom) (lines : List Line) → Further t lines → Further t (Let a ∷ lines)
let_runs t a lines ih locals callers r m x place vals s ps ws c =
    run_step t (run_lines (ctx_at m) Drop (written t.entry place x (Let a ∷ lines)) s vals) (before (Let a ∷ lines) locals callers ps ws) (weight callers)
    (length lines) tt
    (ih (value locals a ∷ locals) callers r m (record x { atoms = atom x.atoms a ∷ x.atoms }) place vals s (ps ++ []) (ws ++ [])
    (same_within s ps ws c.0, c.1, reads_let c.2 a, c.3, omega (arith, c.4)))

compute_runs : (t : Target) → IsTarget t → (a : Atom) (op : Operator) (b : Atom) (lines : List Line) → Further t lines → Further t (Compute a op b ∷ lines)
compute_runs t is a op b lines ih locals callers r m x place vals s ps ws c =
    let x' : Piece = record { atoms = Local x.size ∷ x.atoms; answer = x.answer; size = x.size + 1; line = x.line + 1 }
    in let rest : List NumStatement = written t.entry place x' lines
    in
    let e : run_lines (ctx_at m) Drop (written t.entry place x (Compute a op b ∷ lines)) s vals
    ≡ proceeds (ctx_at m) Drop rest s (set_effect (computed op (value locals a) (value locals b)) s vals) =
    run_line (ctx_at m) Drop (plain x.line (stmt.Set x.size (atom x.atoms a) op (atom x.atoms b))) rest s vals
    ∙ ap₂ (λ y z. proceeds (ctx_at m) Drop rest s (set_effect (computed op y z) s vals)) (number_reads c.2 a) (number_reads c.2 b)
    in subst (λ q. RunsTo t q (before (Compute a op b ∷ lines) locals callers ps ws) (weight callers) (suc (length lines))) (sym e)
    (run_step t (proceeds (ctx_at m) Drop rest s (set_effect (computed op (value locals a) (value locals b)) s vals))
    (before (Compute a op b ∷ lines) locals callers ps ws) (weight callers) (length lines) tt
    (by (computed op (value locals a) (value locals b))))
  where
    by : (g : Computed)
        → RunsTo t
        (proceeds (ctx_at m) Drop
        (written t.entry place (record { atoms = Local x.size ∷ x.atoms; answer = x.answer; size = x.size + 1; line = x.line + 1 }) lines) s
        (set_effect g s vals))
        (record { walk = computed_to t.source g lines locals callers; prints = ps ++ []; works = ws ++ [] }) (weight callers) (length lines)
    by (Gives z) =
        ih (z ∷ locals) callers r m (record { atoms = Local x.size ∷ x.atoms; answer = x.answer; size = x.size + 1; line = x.line + 1 }) place
        (bound vals (Num z)) s (ps ++ []) (ws ++ [])
        (same_within s ps ws c.0, c.1, reads_set c.2 z (x.line + 1), c.3, omega (arith, c.4))
    by Overflows =
        run_now t _ _ (weight callers) (length lines) (weight callers) (omega arith)
        (throws t is s (ps ++ []) (ws ++ []) callers r m overflow (weight callers) (same_within s ps ws c.0) c.1 (omega arith))
    by DividesByZero =
        run_now t _ _ (weight callers) (length lines) (weight callers) (omega arith)
        (throws t is s (ps ++ []) (ws ++ []) callers r m zero_divisor (weight callers) (same_within s ps ws c.0) c.1 (omega arith))

print_runs : (t : Target) (when : Option Atom) (a : Atom) (lines : List Line) → Further t lines → Further t (Print when a ∷ lines)
print_runs t when a lines ih locals callers r m x place vals s ps ws c =
    let rest : List NumStatement = written t.entry place (record x { line = x.line + 1 }) lines
    in
    let e : run_lines (ctx_at m) Drop (written t.entry place x (Print when a ∷ lines)) s vals
    ≡ proceeds (ctx_at m) Drop rest s (cond (acts locals when) (Goes (noting (entry.Print (value locals a)) s) vals) (Goes s vals)) =
    guarded_line c.2 m x.line when (stmt.Print (atom x.atoms a)) rest s
    ∙ ap (λ z. proceeds (ctx_at m) Drop rest s (cond (acts locals when) (Goes (noting (entry.Print z) s) vals) (Goes s vals))) (number_reads c.2 a)
    in subst (λ q. RunsTo t q (before (Print when a ∷ lines) locals callers ps ws) (weight callers) (suc (length lines))) (sym e)
    (run_step t (proceeds (ctx_at m) Drop rest s (cond (acts locals when) (Goes (noting (entry.Print (value locals a)) s) vals) (Goes s vals)))
    (before (Print when a ∷ lines) locals callers ps ws) (weight callers) (length lines) tt
    (by (acts locals when)))
  where
    by : (b : Bool)
        → RunsTo t
        (proceeds (ctx_at m) Drop (written t.entry place (record x { line = x.line + 1 }) lines) s
        (cond b (Goes (noting (entry.Print (value locals a)) s) vals) (Goes s vals)))
        (record { walk = walk_on lines locals callers; prints = ps ++ cond b (value locals a ∷ []) []; works = ws ++ [] }) (weight callers) (length lines)
    by true =
        ih locals callers r m (record x { line = x.line + 1 }) place vals (noting (entry.Print (value locals a)) s) (ps ++ value locals a ∷ []) (ws ++ []) (
          record {
            calm = record {
              low = c.0.calm.low;
              clock = c.0.calm.clock;
              helpers = c.0.calm.helpers;
              requests = c.0.calm.requests;
              left = c.0.calm.left;
              fresh = c.0.calm.fresh;
            };
            queued = c.0.queued;
            none_out = c.0.none_out;
            told = told_print s.trace (value locals a) ps ws c.0.told;
          },
          c.1,
          reads_line c.2 (x.line + 1),
          c.3,
          omega (arith, c.4),
        )
    by false =
        ih locals callers r m (record x { line = x.line + 1 }) place vals s (ps ++ []) (ws ++ [])
        (same_within s ps ws c.0, c.1, reads_line c.2 (x.line + 1), c.3, omega (arith, c.4))

raise_runs : (t : Target) → IsTarget t → (when : Option Atom) (a : Atom) (lines : List Line) → Further t lines → Further t (Raise when a ∷ lines)
raise_runs t is when a lines ih locals callers r m x place vals s ps ws c =
    let rest : List NumStatement = written t.entry place (record x { line = x.line + 1 }) lines
    in
    let e : run_lines (ctx_at m) Drop (written t.entry place x (Raise when a ∷ lines)) s vals
    ≡ proceeds (ctx_at m) Drop rest s (cond (acts locals when) (Raises (value locals a)) (Goes s vals)) =
    guarded_line c.2 m x.line when (stmt.Raise (atom x.atoms a)) rest s
    ∙ ap (λ z. proceeds (ctx_at m) Drop rest s (cond (acts locals when) (Raises z) (Goes s vals))) (number_reads c.2 a)
    in subst (λ q. RunsTo t q (before (Raise when a ∷ lines) locals callers ps ws) (weight callers) (suc (length lines))) (sym e)
    (run_step t (proceeds (ctx_at m) Drop rest s (cond (acts locals when) (Raises (value locals a)) (Goes s vals)))
    (before (Raise when a ∷ lines) locals callers ps ws) (weight callers) (length lines) tt
    (by (acts locals when)))
  where
    by : (b : Bool)
        → RunsTo t
        (proceeds (ctx_at m) Drop (written t.entry place (record x { line = x.line + 1 }) lines) s (cond b (Raises (value locals a)) (Goes s vals)))
        (record { walk = cond b (thrown t.source (value locals a) callers) (walk_on lines locals callers); prints = ps ++ []; works = ws ++ [] })
        (weight callers) (length lines)
    by true =
        run_now t _ _ (weight callers) (length lines) (weight callers) (omega arith)
        (throws t is s (ps ++ []) (ws ++ []) callers r m (value locals a) (weight callers) (same_within s ps ws c.0) c.1 (omega arith))
    by false =
        ih locals callers r m (record x { line = x.line + 1 }) place vals s (ps ++ []) (ws ++ [])
        (same_within s ps ws c.0, c.1, reads_line c.2 (x.line + 1), c.3, omega (arith, c.4))

return_runs : (t : Target) (when : Option Atom) (a : Atom) (lines : List Line) → Further t lines → Further t (Return when a ∷ lines)
return_runs t when a lines ih locals callers r m x place vals s ps ws c =
    let rest : List NumStatement = written t.entry place (record x { line = x.line + 2 }) lines
    in let ret : NumStatement = guarded (x.line + 1) (when_holds x.atoms when) (stmt.Ret (Literal (pos 0)))
    in
    let e : run_lines (ctx_at m) Drop (written t.entry place x (Return when a ∷ lines)) s vals
    ≡ proceeds (ctx_at m) Drop (ret ∷ rest) s (cond (acts locals when) (Goes (fill r (value locals a) s) vals) (Goes s vals)) =
    guarded_line c.2 m x.line when (stmt.Offer x.answer (atom x.atoms a)) (ret ∷ rest) s
    ∙ ap₂ (λ i z. proceeds (ctx_at m) Drop (ret ∷ rest) s (cond (acts locals when) (Goes (fill i z s) vals) (Goes s vals))) (answer_name c.2)
    (number_reads c.2 a)
    in subst (λ q. RunsTo t q (before (Return when a ∷ lines) locals callers ps ws) (weight callers) (suc (length lines))) (sym e)
    (run_step t (proceeds (ctx_at m) Drop (ret ∷ rest) s (cond (acts locals when) (Goes (fill r (value locals a) s) vals) (Goes s vals)))
    (before (Return when a ∷ lines) locals callers ps ws) (weight callers) (length lines) tt
    (by (acts locals when) refl))
  where
    by : (b : Bool) → acts locals when ≡ b
        → RunsTo t
        (proceeds (ctx_at m) Drop
        (guarded (x.line + 1) (when_holds x.atoms when) (stmt.Ret (Literal (pos 0))) ∷ written t.entry place (record x { line = x.line + 2 }) lines) s
        (cond b (Goes (fill r (value locals a) s) vals) (Goes s vals)))
        (record { walk = cond b (answered (value locals a) callers) (walk_on lines locals callers); prints = ps ++ []; works = ws ++ [] }) (weight callers)
        (length lines)
    by true f =
        let u : State = fill r (value locals a) s
        in subst (λ q. RunsTo t q (record { walk = answered (value locals a) callers; prints = ps ++ []; works = ws ++ [] }) (weight callers) (length lines))
        (sym (guarded_line c.2 m (x.line + 1) when (stmt.Ret (Literal (pos 0))) (written t.entry place (record x { line = x.line + 2 }) lines) u
        ∙ ap (λ b. proceeds (ctx_at m) Drop (written t.entry place (record x { line = x.line + 2 }) lines) u (cond b (Returns (Num (pos 0))) (Goes u vals)))
        f))
        (run_now t (Over (going_on u)) (record { walk = answered (value locals a) callers; prints = ps ++ []; works = ws ++ [] }) (weight callers)
        (length lines) (weight callers) (omega arith)
        (answers t s (ps ++ []) (ws ++ []) callers r m (value locals a) (weight callers) (same_within s ps ws c.0) c.1 (omega arith)))
    by false f =
        subst (λ q. RunsTo t q (record { walk = walk_on lines locals callers; prints = ps ++ []; works = ws ++ [] }) (weight callers) (length lines))
        (sym (guarded_line c.2 m (x.line + 1) when (stmt.Ret (Literal (pos 0))) (written t.entry place (record x { line = x.line + 2 }) lines) s
        ∙ ap (λ b. proceeds (ctx_at m) Drop (written t.entry place (record x { line = x.line + 2 }) lines) s (cond b (Returns (Num (pos 0))) (Goes s vals)))
        f))
        (ih locals callers r m (record x { line = x.line + 2 }) place vals s (ps ++ []) (ws ++ [])
        (same_within s ps ws c.0, c.1, reads_line c.2 (x.line + 2), c.3, omega (arith, c.4)))

end_runs : (t : Target) → Further t []
end_runs t locals callers r m x place vals s ps ws c =
    subst (λ q. RunsTo t q (before [] locals callers ps ws) (weight callers) 0)
    (sym (ap (λ i. Over (going_on (fill i (pos 0) s))) (answer_name c.2)))
    (run_now t (Over (going_on (fill r (pos 0) s))) (before [] locals callers ps ws) (weight callers) 0 (weight callers) (omega arith)
    (answers t s ps ws callers r m (pos 0) (weight callers) c.0 c.1 (omega arith)))

-- a job that comes to these lines does what the walk does
pub piece_runs : (t : Target) → IsTarget t → (lines : List Line) → Further t lines
piece_runs t is [] = end_runs t
piece_runs t is (Let a ∷ lines) = let_runs t a lines (piece_runs t is lines)
piece_runs t is (Compute a op b ∷ lines) = compute_runs t is a op b lines (piece_runs t is lines)
piece_runs t is (Print when a ∷ lines) = print_runs t when a lines (piece_runs t is lines)
piece_runs t is (Raise when a ∷ lines) = raise_runs t is when a lines (piece_runs t is lines)
piece_runs t is (Return when a ∷ lines) = return_runs t when a lines (piece_runs t is lines)
piece_runs t is (Await f args ∷ lines) =
    λ locals callers r m x place vals s ps ws c. await_runs t is f args lines locals callers r m x place vals s ps ws c.0 c.1 c.2 c.3 (omega (arith, c.4))
piece_runs t is (AwaitWork kind a ∷ lines) =
    λ locals callers r m x place vals s ps ws c. work_runs t is kind a lines locals callers r m x place vals s ps ws c.0 c.1 c.2 c.3 (omega (arith, c.4))
piece_runs t is (Try f args g ∷ lines) =
    λ locals callers r m x place vals s ps ws c. try_runs t is f args g lines locals callers r m x place vals s ps ws c.0 c.1 c.2 c.3 (omega (arith, c.4))
