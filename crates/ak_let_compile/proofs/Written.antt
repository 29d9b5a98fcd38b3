-- That each line is written as it means.
use Rattle.std.proofs.Common.{ℕ, zero, suc, pos, ◌+◌, ◌≤◌, ◌≡◌, inr, List, [], ◌∷◌, ◌++◌, length, map, Option, None, Result, Ok, Err, OnOk, IfOk, append_assoc, length-append, refl, ap, ap₂, sym, subst, ◌∙◌, arith}
use Rattle.std.specs.declared.alloc.AllocError.{AllocError}
use Rattle.ak_labor.specs.declared.work.WorkKind.{WorkKind}
use Rattle.ak_script.specs.declared.statement.Operator.{Operator}
use Rattle.ak_program.specs.declared.program.NumPrefix.{NumPrefix}
use Rattle.ak_program.specs.declared.program.NumProc.{NumProc}
use Rattle.ak_program.specs.declared.program.NumStatement.{NumStatement}
use Rattle.ak_program.specs.declared.statement.NumAtom.TheVariants.{Literal, Local}
use Rattle.ak_program.specs.declared.statement.NumStmt.{NumStmt}
use Rattle.ak_program.specs.declared.statement.NumStmt.TheVariants as stmt
use Rattle.ak_let.specs.declared.source.Atom.{Atom}
use Rattle.ak_let.specs.declared.source.Line.{Line}
use Rattle.ak_let.specs.declared.source.Line.TheVariants.{Let, Compute, Print, Raise, Return, Await, AwaitWork, Try}
use Rattle.ak_let.specs.Compile.{atom, when_holds, guarded, plain, locals_from, written, piece, further, line_behind}
use Rattle.ak_let_compile.specs.declared.draft.Draft.{Draft}
use Rattle.ak_let_compile.specs.Drafts.{begun, with_statement, piece_of, completed, computed_in, answered_in, called_in, attempted_in, ended_in, resumed_in, IsLined, Steps}

-- a draft's procedure with this body, and the pieces that follow it
abbrev whole : (ℕ → ℕ) → Draft → List NumStatement → ℕ → List Line → List NumProc
whole entry d body n lines =
    let proc : NumProc = record { name = d.name; line = d.first; params = d.params; body = body }
    in proc ∷ further entry (suc d.name) (line_behind proc) n lines

-- ---- lines that do not await
pub let_step : (entry : ℕ → ℕ) (d : Draft) (a : Atom) (rest : List Line)
    → completed entry (record d { locals = atom d.locals a ∷ d.locals }) rest ≡ completed entry d (Let a ∷ rest)
let_step entry d a rest = refl

pub compute_step : (entry : ℕ → ℕ) (d : Draft) (a : Atom) (op : Operator) (b : Atom) (rest : List Line)
    → completed entry (computed_in d a op b) rest ≡ completed entry d (Compute a op b ∷ rest)
compute_step entry d a op b rest =
    ap (λ body. whole entry d body (suc (length d.locals)) rest)
    (append_assoc d.body (plain d.line (stmt.Set d.size (atom d.locals a) op (atom d.locals b)) ∷ [])
    (written entry (suc d.name) (piece_of (computed_in d a op b)) rest))

put_step : (entry : ℕ → ℕ) (d : Draft) (prefix : Option NumPrefix) (s : NumStmt) (rest : List Line)
    → completed entry (with_statement d prefix s) rest
    ≡ whole entry d (d.body ++ guarded d.line prefix s ∷ written entry (suc d.name) (piece_of (with_statement d prefix s)) rest) (length d.locals) rest
put_step entry d prefix s rest =
    ap (λ body. whole entry d body (length d.locals) rest)
    (append_assoc d.body (guarded d.line prefix s ∷ []) (written entry (suc d.name) (piece_of (with_statement d prefix s)) rest))

pub print_step : (entry : ℕ → ℕ) (d : Draft) (when : Option Atom) (a : Atom) (rest : List Line)
    → completed entry (with_statement d (when_holds d.locals when) (stmt.Print (atom d.locals a))) rest ≡ completed entry d (Print when a ∷ rest)
print_step entry d when a rest = put_step entry d (when_holds d.locals when) (stmt.Print (atom d.locals a)) rest

pub raise_step : (entry : ℕ → ℕ) (d : Draft) (when : Option Atom) (a : Atom) (rest : List Line)
    → completed entry (with_statement d (when_holds d.locals when) (stmt.Raise (atom d.locals a))) rest ≡ completed entry d (Raise when a ∷ rest)
raise_step entry d when a rest = put_step entry d (when_holds d.locals when) (stmt.Raise (atom d.locals a)) rest

two : (n : ℕ) → (n + 1) + 1 ≡ n + 2
two n = omega arith

pub return_step : (entry : ℕ → ℕ) (d : Draft) (when : Option Atom) (a : Atom) (rest : List Line)
    → completed entry (answered_in d when a) rest ≡ completed entry d (Return when a ∷ rest)
return_step entry d when a rest =
    let prefix : Option NumPrefix = when_holds d.locals when
    in let offer : NumStatement = guarded d.line prefix (stmt.Offer d.answer (atom d.locals a))
    in let ret : NumStatement = guarded (d.line + 1) prefix (stmt.Ret (Literal (pos 0)))
    in ap (λ body. whole entry d body (length d.locals) rest)
    (append_assoc (d.body ++ offer ∷ []) (ret ∷ []) (written entry (suc d.name) (piece_of (answered_in d when a)) rest)
    ∙ append_assoc d.body (offer ∷ []) (ret ∷ written entry (suc d.name) (piece_of (answered_in d when a)) rest)
    ∙ ap (λ n. d.body ++ offer ∷ ret ∷ written entry (suc d.name) (record (piece_of d) { line = n }) rest) (two d.line))

-- ---- lines that await
pub locals_many : (k n : ℕ) → length (locals_from k n) ≡ n
locals_many k zero = refl
locals_many k (suc n) = ap suc (locals_many (suc k) n)

-- a procedure, the piece behind it, and those that follow
abbrev with_next : (ℕ → ℕ) → NumProc → ℕ → ℕ → List Line → List NumProc
with_next entry proc place n lines =
    proc ∷ piece entry place (line_behind proc) n lines
    ∷ further entry (suc place) (line_behind (piece entry place (line_behind proc) n lines)) n lines

resumed_step : (entry : ℕ → ℕ) (d : Draft) (before : List NumProc) (rest : List Line)
    → (before ++ ended_in d ∷ []) ++ completed entry (resumed_in d) rest ≡ before ++ with_next entry (ended_in d) (suc d.name) (suc (length d.locals)) rest
resumed_step entry d before rest =
    let next : NumProc = piece entry (suc d.name) (line_behind (ended_in d)) (suc (length d.locals)) rest
    in append_assoc before (ended_in d ∷ []) (completed entry (resumed_in d) rest)
    ∙ ap (λ n. before ++ ended_in d ∷ next ∷ further entry (suc (suc d.name)) (line_behind next) n rest) (locals_many 0 (suc (length d.locals)))

-- three statements put one by one
three : {X : Type 0} (xs : List X) (a b c : X) → ((xs ++ a ∷ []) ++ b ∷ []) ++ c ∷ [] ≡ xs ++ (a ∷ b ∷ c ∷ [])
three xs a b c = append_assoc (xs ++ a ∷ []) (b ∷ []) (c ∷ []) ∙ append_assoc xs (a ∷ []) (b ∷ c ∷ [])

pub await_step : (entry : ℕ → ℕ) (d : Draft) (f : ℕ) (args : List Atom) (before : List NumProc) (rest : List Line)
    → (before ++ ended_in (called_in d (entry f) args) ∷ []) ++ completed entry (resumed_in (called_in d (entry f) args)) rest
    ≡ before ++ completed entry d (Await f args ∷ rest)
await_step entry d f args before rest =
    let a : NumStatement = plain d.line (stmt.Ivar d.size)
    in let b : NumStatement = plain (d.line + 1) (stmt.Sched (entry f) (map (atom d.locals) args ++ Local d.size ∷ []))
    in let upon : NumStmt = stmt.Upon d.size (suc d.name) (d.locals ++ Local d.answer ∷ [])
    in resumed_step entry (called_in d (entry f) args) before rest
    ∙ ap
    (λ body. before ++ with_next entry (record { name = d.name; line = d.first; params = d.params; body = body }) (suc d.name) (suc (length d.locals)) rest)
    (three d.body a b (plain (d.line + 1 + 1) upon) ∙ ap (λ n. d.body ++ (a ∷ b ∷ plain n upon ∷ [])) (two d.line))

pub work_step : (entry : ℕ → ℕ) (d : Draft) (kind : WorkKind) (a : Atom) (before : List NumProc) (rest : List Line)
    → let e : Draft = with_statement d None (stmt.Work d.size kind (atom d.locals a))
    in (before ++ ended_in e ∷ []) ++ completed entry (resumed_in e) rest ≡ before ++ completed entry d (AwaitWork kind a ∷ rest)
work_step entry d kind a before rest =
    let e : Draft = with_statement d None (stmt.Work d.size kind (atom d.locals a))
    in let upon : NumStmt = stmt.Upon d.size (suc d.name) (d.locals ++ Local d.answer ∷ [])
    in resumed_step entry e before rest
    ∙ ap
    (λ body. before ++ with_next entry (record { name = d.name; line = d.first; params = d.params; body = body }) (suc d.name) (suc (length d.locals)) rest)
    (append_assoc d.body (plain d.line (stmt.Work d.size kind (atom d.locals a)) ∷ []) (plain (d.line + 1) upon ∷ []))

six : {X : Type 0} (xs : List X) (a b c d e f : X)
    → (((((xs ++ a ∷ []) ++ b ∷ []) ++ c ∷ []) ++ d ∷ []) ++ e ∷ []) ++ f ∷ [] ≡ xs ++ (a ∷ b ∷ c ∷ d ∷ e ∷ f ∷ [])
six xs a b c d e f =
    three (((xs ++ a ∷ []) ++ b ∷ []) ++ c ∷ []) d e f ∙ ap (λ l. l ++ (d ∷ e ∷ f ∷ [])) (three xs a b c) ∙ append_assoc xs (a ∷ b ∷ c ∷ []) (d ∷ e ∷ f ∷ [])

-- lines counted one by one
counted : (n : ℕ) → (n + 1 + 1 ≡ n + 2) × (n + 1 + 1 + 1 ≡ n + 3) × (n + 1 + 1 + 1 + 1 ≡ n + 4) × (n + 1 + 1 + 1 + 1 + 1 ≡ n + 5)
counted n = (omega arith, omega arith, omega arith, omega arith)

pub try_step : (entry : ℕ → ℕ) (d : Draft) (f : ℕ) (args : List Atom) (g : ℕ) (before : List NumProc) (rest : List Line)
    → let e : Draft = attempted_in d (entry f) args (entry g)
    in (before ++ ended_in e ∷ []) ++ completed entry (resumed_in e) rest ≡ before ++ completed entry d (Try f args g ∷ rest)
try_step entry d f args g before rest =
    let e : Draft = attempted_in d (entry f) args (entry g)
    in let n = counted d.line
    in let a : NumStatement = plain d.line (stmt.Ivar d.size)
    in let b : NumStatement = plain (d.line + 1) (stmt.Monitor (d.size + 1))
    in let detach : NumStmt = stmt.Detach (d.size + 1)
    in let handle : NumStmt = stmt.OnError (d.size + 1) (entry g) (Local d.size ∷ [])
    in let within : NumStmt = stmt.Within (d.size + 1) (entry f) (map (atom d.locals) args ++ Local d.size ∷ [])
    in let upon : NumStmt = stmt.Upon d.size (suc d.name) (d.locals ++ Local d.answer ∷ [])
    in resumed_step entry e before rest
    ∙ ap
    (λ body. before ++ with_next entry (record { name = d.name; line = d.first; params = d.params; body = body }) (suc d.name) (suc (length d.locals)) rest)
    (six d.body a b (plain (d.line + 1 + 1) detach) (plain (d.line + 1 + 1 + 1) handle) (plain (d.line + 1 + 1 + 1 + 1) within)
    (plain (d.line + 1 + 1 + 1 + 1 + 1) upon)
    ∙ ap₂ (λ i j. d.body ++ (a ∷ b ∷ plain i detach ∷ plain j handle ∷ plain (d.line + 1 + 1 + 1 + 1) within ∷ plain (d.line + 1 + 1 + 1 + 1 + 1) upon ∷ []))
    n.0 n.1
    ∙ ap₂ (λ i j. d.body ++ (a ∷ b ∷ plain (d.line + 2) detach ∷ plain (d.line + 3) handle ∷ plain i within ∷ plain j upon ∷ [])) n.2 n.3)

-- ---- what is left behind an await
behind_is : (d : Draft) → IsLined d → line_behind (ended_in d) ≡ d.line + 2
behind_is d l =
    omega (arith, l, length-append d.body (plain d.line (stmt.Upon d.size (suc d.name) (d.locals ++ Local d.answer ∷ [])) ∷ []))

pub resumed_is : (d : Draft) (name first count : ℕ) → IsLined d → name ≡ d.name + 1 → first ≡ d.line + 2 → count ≡ length d.locals + 1
    → begun name first count ≡ resumed_in d
resumed_is d name first count l a b c =
    let e1 : name ≡ suc d.name = omega (arith, a)
    in let e2 : first ≡ line_behind (ended_in d) = omega (arith, b, behind_is d l)
    in let e3 : count ≡ suc (length d.locals) = omega (arith, c)
    in ap (λ n. begun n first count) e1 ∙ ap₂ (begun (suc d.name)) e2 e3

lined_put : (d : Draft) (prefix : Option NumPrefix) (s : NumStmt) → IsLined d → IsLined (with_statement d prefix s)
lined_put d prefix s l = omega (arith, l, length-append d.body (guarded d.line prefix s ∷ []))

-- a line that awaits leaves the next piece
record Awaits (entry : ℕ → ℕ) (d e : Draft) (walked : Line) (before : List NumProc) : Type 0 where
  same : (rest : List Line) → (before ++ ended_in e ∷ []) ++ completed entry (resumed_in e) rest ≡ before ++ completed entry d (walked ∷ rest)
  lined : IsLined e
  line : e.line ≤ d.line + 5
  name : e.name ≡ d.name
  locals : length e.locals ≡ length d.locals

awaited : (entry : ℕ → ℕ) (d e : Draft) (walked : Line) (before : List NumProc) → Awaits entry d e walked before
    → Steps entry d walked before (before ++ ended_in e ∷ []) (resumed_in e)
awaited entry d e walked before a =
    record {
      same = a.same;
      lined = omega arith;
      line = omega (arith, behind_is e a.lined, a.line);
      name = omega (arith, a.name);
      size = inr (omega (arith, a.locals));
      locals = omega (arith, locals_many 0 (suc (length e.locals)), a.locals);
    }

-- where it did not want for memory
abbrev IsDone : (ℕ → ℕ) → Draft → Line → List NumProc → List NumProc → Result Draft AllocError → Type 0
IsDone entry d walked before after r = IfOk r (λ next. Steps entry d walked before after next)

done : (entry : ℕ → ℕ) (d e : Draft) (walked : Line) (before after : List NumProc) (r : Result Draft AllocError)
    → Awaits entry d e walked before → OnOk r (after ≡ before ++ ended_in e ∷ []) → IfOk r (λ next. next ≡ resumed_in e)
    → IsDone entry d walked before after r
done entry d e walked before after (Ok next) a p n =
    subst (λ (x : Draft). Steps entry d walked before after x) (sym n)
    (subst (λ (ps : List NumProc). Steps entry d walked before ps (resumed_in e)) (sym p) (awaited entry d e walked before a))
done entry d e walked before after (Err none) a p n = tt

pub await_done : (entry : ℕ → ℕ) (d e : Draft) (f : ℕ) (args : List Atom) (before after : List NumProc) (r : Result Draft AllocError) → IsLined d
    → e ≡ called_in d (entry f) args → OnOk r (after ≡ before ++ ended_in e ∷ []) → IfOk r (λ next. next ≡ resumed_in e)
    → IfOk r (λ next. Steps entry d (Await f args) before after next)
await_done entry d e f args before after r l s p n =
    let first : Draft = with_statement d None (stmt.Ivar d.size)
    in done entry d e (Await f args) before after r
    (subst (λ (x : Draft). Awaits entry d x (Await f args) before) (sym s)
    (record {
      same = await_step entry d f args before;
      lined = lined_put first None (stmt.Sched (entry f) (map (atom d.locals) args ++ Local d.size ∷ [])) (lined_put d None (stmt.Ivar d.size) l);
      line = omega arith;
      name = refl;
      locals = refl;
    }))
    p n

pub work_done : (entry : ℕ → ℕ) (d e : Draft) (kind : WorkKind) (a : Atom) (before after : List NumProc) (r : Result Draft AllocError) → IsLined d
    → e ≡ with_statement d None (stmt.Work d.size kind (atom d.locals a)) → OnOk r (after ≡ before ++ ended_in e ∷ [])
    → IfOk r (λ next. next ≡ resumed_in e) → IfOk r (λ next. Steps entry d (AwaitWork kind a) before after next)
work_done entry d e kind a before after r l s p n =
    done entry d e (AwaitWork kind a) before after r
    (subst (λ (x : Draft). Awaits entry d x (AwaitWork kind a) before) (sym s)
    (record {
      same = work_step entry d kind a before;
      lined = lined_put d None (stmt.Work d.size kind (atom d.locals a)) l;
      line = omega arith;
      name = refl;
      locals = refl;
    }))
    p n

pub try_done : (entry : ℕ → ℕ) (d e : Draft) (f : ℕ) (args : List Atom) (g : ℕ) (before after : List NumProc) (r : Result Draft AllocError)
    → IsLined d → e ≡ attempted_in d (entry f) args (entry g) → OnOk r (after ≡ before ++ ended_in e ∷ [])
    → IfOk r (λ next. next ≡ resumed_in e) → IfOk r (λ next. Steps entry d (Try f args g) before after next)
try_done entry d e f args g before after r l s p n =
    let m : ℕ = d.size + 1
    in let d1 : Draft = with_statement d None (stmt.Ivar d.size)
    in let d2 : Draft = with_statement d1 None (stmt.Monitor m)
    in let d3 : Draft = with_statement d2 None (stmt.Detach m)
    in let d4 : Draft = with_statement d3 None (stmt.OnError m (entry g) (Local d.size ∷ []))
    in let lined : IsLined (attempted_in d (entry f) args (entry g)) =
    lined_put d4 None (stmt.Within m (entry f) (map (atom d.locals) args ++ Local d.size ∷ []))
    (lined_put d3 None (stmt.OnError m (entry g) (Local d.size ∷ []))
    (lined_put d2 None (stmt.Detach m) (lined_put d1 None (stmt.Monitor m) (lined_put d None (stmt.Ivar d.size) l))))
    in done entry d e (Try f args g) before after r
    (subst (λ (x : Draft). Awaits entry d x (Try f args g) before) (sym s)
    (record { same = try_step entry d f args g before; lined = lined; line = omega arith; name = refl; locals = refl }))
    p n
