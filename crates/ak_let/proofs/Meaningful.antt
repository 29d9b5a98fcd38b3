-- What the evaluator comes to is what the lines mean.
use Rattle.std.proofs.Common.{ℕ, ℤ, zero, suc, pos, ◌≤◌, ◌≡◌, List, [], ◌∷◌, ◌++◌, map, Bool, true, false, cond, Option, Some, None, refl, ap, ap₂, sym, subst, arith, append_assoc, append-nil}
use Rattle.ak_labor.specs.declared.work.Work.{Work}
use Rattle.ak_labor.specs.declared.work.Outcome.{Outcome}
use Rattle.ak_labor.specs.declared.work.Outcome.TheVariants.{Good, Bad}
use Rattle.ak_labor.specs.declared.work.WorkKind.{WorkKind}
use Rattle.ak_labor.specs.Value.{value_of}
use Rattle.ak_script.specs.declared.statement.Operator.{Operator}
use Rattle.ak_machine.specs.Number.{Computed, Gives, Overflows, DividesByZero, computed}
use Rattle.ak_machine.specs.Effect.{overflow, zero_divisor}
use Rattle.ak_let.specs.declared.source.Atom.{Atom}
use Rattle.ak_let.specs.declared.source.Line.{Line}
use Rattle.ak_let.specs.declared.source.Line.TheVariants.{Let, Compute, Print, Raise, Return, Await, AwaitWork, Try}
use Rattle.ak_let.specs.declared.source.Source.{Source}
use Rattle.ak_let.specs.Eval.{Caller, Walk, At, Over, Raised, Walked, value, acts, printed, fun_lines, walk_on, answered, thrown, computed_to, outcome_taken, stepped, begun, eval}
use Rattle.ak_let.specs.Meaning.{Does, Ends, Lets, Computes, Exceeds, Divides, Prints, Raises, Raises_not, Returns, Returns_not, Awaits, Awaits_error, Works, Works_error, Tries, Catches, Catches_error, ending_of}
use Rattle.ak_let.specs.Correct.{IsOver}
use Rattle.ak_let.proofs.Related.{Steps}

abbrev after : Walk → List ℤ → List Work → Walked
after walk ps ws = record { walk = walk; prints = ps; works = ws }

-- these lines come to something on the way to v, and no more steps than k follow
record Behind (p : Source) (lines : List Line) (locals : List ℤ) (callers : List Caller) (ps0 : List ℤ) (ws0 : List Work) (k : ℕ) (v : Walked) : Type 0 where
  ps : List ℤ
  ws : List Work
  o : Outcome
  does : Does p lines locals ps ws o
  count : ℕ
  few : count ≤ k
  rest : Steps p count (after (outcome_taken p o callers) (ps0 ++ ps) (ws0 ++ ws)) v

abbrev Claim : Source → ℕ → Type 0
Claim p n =
    (k : ℕ) → k ≤ n → (lines : List Line) (locals : List ℤ) (callers : List Caller) (ps0 : List ℤ) (ws0 : List Work) (v : Walked)
    → Steps p k (after (walk_on lines locals callers) ps0 ws0) v → IsOver v.walk → Behind p lines locals callers ps0 ws0 k v

-- steps from what was printed and taken in two parts
joined : (p : Source) (walk : Walk) (n : ℕ) (ps0 ps qs : List ℤ) (ws0 ws xs : List Work) (v : Walked)
    → Steps p n (after walk (ps0 ++ ps ++ qs) (ws0 ++ ws ++ xs)) v → Steps p n (after walk (ps0 ++ (ps ++ qs)) (ws0 ++ (ws ++ xs))) v
joined p walk n ps0 ps qs ws0 ws xs v s =
    subst (λ (z : Walked). Steps p n z v) (ap₂ (after walk) (append_assoc ps0 ps qs) (append_assoc ws0 ws xs)) s

unsteady : (p : Source) (line : Line) (lines : List Line) (locals : List ℤ) (callers : List Caller) (ps : List ℤ) (ws : List Work) (v : Walked)
    → after (At line lines locals callers) ps ws ≡ v → IsOver v.walk → ⊥
unsteady p line lines locals callers ps ws v e o = subst (λ (z : Walked). IsOver z.walk) (sym e) o

-- the lines behind one that goes on
goes_on : (p : Source) (n k : ℕ) → Claim p n → k ≤ n
    → (line : Line) (lines : List Line) (locals locals' : List ℤ) (callers : List Caller) (ps0 qs : List ℤ) (ws0 xs : List Work) (v : Walked)
    → ((ps : List ℤ) (ws : List Work) (o : Outcome) → Does p lines locals' ps ws o → Does p (line ∷ lines) locals (qs ++ ps) (xs ++ ws) o)
    → Steps p k (after (walk_on lines locals' callers) (ps0 ++ qs) (ws0 ++ xs)) v → IsOver v.walk → Behind p (line ∷ lines) locals callers ps0 ws0 (suc k) v
goes_on p n k ih h line lines locals locals' callers ps0 qs ws0 xs v rule s o =
    let b = ih k h lines locals' callers (ps0 ++ qs) (ws0 ++ xs) v s o
    in record {
      ps = qs ++ b.ps;
      ws = xs ++ b.ws;
      o = b.o;
      does = rule b.ps b.ws b.o b.does;
      count = b.count;
      few = omega (arith, b.few);
      rest = joined p (outcome_taken p b.o callers) b.count ps0 qs b.ps ws0 xs b.ws v b.rest;
    }

-- a line that ends the function
stops : (p : Source) (k : ℕ) (line : Line) (lines : List Line) (locals : List ℤ) (callers : List Caller) (ps0 qs : List ℤ) (ws0 xs : List Work) (o : Outcome)
    (v : Walked)
    → Does p (line ∷ lines) locals qs xs o → Steps p k (after (outcome_taken p o callers) (ps0 ++ qs) (ws0 ++ xs)) v
    → Behind p (line ∷ lines) locals callers ps0 ws0 (suc k) v
stops p k line lines locals callers ps0 qs ws0 xs o v d s =
    record { ps = qs; ws = xs; o = o; does = d; count = k; few = omega arith; rest = s }

compute_means : (p : Source) (n k : ℕ) → Claim p n → k ≤ n
    → (a : Atom) (op : Operator) (b : Atom) (lines : List Line) (locals : List ℤ) (callers : List Caller) (ps0 : List ℤ) (ws0 : List Work) (v : Walked)
    (c : Computed)
    → computed op (value locals a) (value locals b) ≡ c → Steps p k (after (computed_to p c lines locals callers) (ps0 ++ []) (ws0 ++ [])) v → IsOver v.walk
    → Behind p (Compute a op b ∷ lines) locals callers ps0 ws0 (suc k) v
compute_means p n k ih h a op b lines locals callers ps0 ws0 v (Gives z) e s o =
    goes_on p n k ih h (Compute a op b) lines locals (z ∷ locals) callers ps0 [] ws0 [] v (λ ps ws o d. Computes a op b z lines locals ps ws o e d) s o
compute_means p n k ih h a op b lines locals callers ps0 ws0 v Overflows e s o =
    stops p k (Compute a op b) lines locals callers ps0 [] ws0 [] (Bad overflow) v (Exceeds a op b lines locals e) s
compute_means p n k ih h a op b lines locals callers ps0 ws0 v DividesByZero e s o =
    stops p k (Compute a op b) lines locals callers ps0 [] ws0 [] (Bad zero_divisor) v (Divides a op b lines locals e) s

raise_means : (p : Source) (n k : ℕ) → Claim p n → k ≤ n
    → (when : Option Atom) (a : Atom) (lines : List Line) (locals : List ℤ) (callers : List Caller) (ps0 : List ℤ) (ws0 : List Work) (v : Walked) (b : Bool)
    → acts locals when ≡ b → Steps p k (after (cond b (thrown p (value locals a) callers) (walk_on lines locals callers)) (ps0 ++ []) (ws0 ++ [])) v
    → IsOver v.walk → Behind p (Raise when a ∷ lines) locals callers ps0 ws0 (suc k) v
raise_means p n k ih h when a lines locals callers ps0 ws0 v true e s o =
    stops p k (Raise when a) lines locals callers ps0 [] ws0 [] (Bad (value locals a)) v (Raises when a lines locals e) s
raise_means p n k ih h when a lines locals callers ps0 ws0 v false e s o =
    goes_on p n k ih h (Raise when a) lines locals locals callers ps0 [] ws0 [] v (λ ps ws o d. Raises_not when a lines locals ps ws o e d) s o

return_means : (p : Source) (n k : ℕ) → Claim p n → k ≤ n
    → (when : Option Atom) (a : Atom) (lines : List Line) (locals : List ℤ) (callers : List Caller) (ps0 : List ℤ) (ws0 : List Work) (v : Walked) (b : Bool)
    → acts locals when ≡ b → Steps p k (after (cond b (answered (value locals a) callers) (walk_on lines locals callers)) (ps0 ++ []) (ws0 ++ [])) v
    → IsOver v.walk → Behind p (Return when a ∷ lines) locals callers ps0 ws0 (suc k) v
return_means p n k ih h when a lines locals callers ps0 ws0 v true e s o =
    stops p k (Return when a) lines locals callers ps0 [] ws0 [] (Good (value locals a)) v (Returns when a lines locals e) s
return_means p n k ih h when a lines locals callers ps0 ws0 v false e s o =
    goes_on p n k ih h (Return when a) lines locals locals callers ps0 [] ws0 [] v (λ ps ws o d. Returns_not when a lines locals ps ws o e d) s o

-- behind an answer that was awaited: the further lines
further_means : (p : Source) (n k j : ℕ) → Claim p n → k ≤ n → j ≤ k
    → (line : Line) (lines : List Line) (locals locals' : List ℤ) (callers : List Caller) (ps0 qs : List ℤ) (ws0 xs : List Work) (v : Walked)
    → ((ps : List ℤ) (ws : List Work) (o : Outcome) → Does p lines locals' ps ws o → Does p (line ∷ lines) locals (qs ++ ps) (xs ++ ws) o)
    → Steps p j (after (walk_on lines locals' callers) (ps0 ++ qs) (ws0 ++ xs)) v → IsOver v.walk → Behind p (line ∷ lines) locals callers ps0 ws0 (suc k) v
further_means p n k j ih h l line lines locals locals' callers ps0 qs ws0 xs v rule s o =
    let b = goes_on p n j ih (omega (arith, h, l)) line lines locals locals' callers ps0 qs ws0 xs v rule s o
    in record { ps = b.ps; ws = b.ws; o = b.o; does = b.does; count = b.count; few = omega (arith, b.few, l); rest = b.rest }

stops_later : (p : Source) (k j : ℕ) → j ≤ k
    → (line : Line) (lines : List Line) (locals : List ℤ) (callers : List Caller) (ps0 qs : List ℤ) (ws0 xs : List Work) (o : Outcome) (v : Walked)
    → Does p (line ∷ lines) locals qs xs o → Steps p j (after (outcome_taken p o callers) (ps0 ++ qs) (ws0 ++ xs)) v
    → Behind p (line ∷ lines) locals callers ps0 ws0 (suc k) v
stops_later p k j l line lines locals callers ps0 qs ws0 xs o v d s =
    record { ps = qs; ws = xs; o = o; does = d; count = j; few = omega (arith, l); rest = s }

await_means : (p : Source) (n k : ℕ) → Claim p n → k ≤ n
    → (f : ℕ) (args : List Atom) (lines : List Line) (locals : List ℤ) (callers : List Caller) (ps0 : List ℤ) (ws0 : List Work) (v : Walked)
    → Steps p k
    (after (walk_on (fun_lines p f) (map (value locals) args) (record { lines = lines; locals = locals; catch = None } ∷ callers)) (ps0 ++ []) (ws0 ++ [])) v
    → IsOver v.walk → Behind p (Await f args ∷ lines) locals callers ps0 ws0 (suc k) v
await_means p n k ih h f args lines locals callers ps0 ws0 v s over =
    let b = ih k h (fun_lines p f) (map (value locals) args) (record { lines = lines; locals = locals; catch = None } ∷ callers) (ps0 ++ []) (ws0 ++ []) v s
    over
    in
    by b.ps b.ws b.count b.few b.o b.does
    (joined p (outcome_taken p b.o (record { lines = lines; locals = locals; catch = None } ∷ callers)) b.count ps0 [] b.ps ws0 [] b.ws v b.rest)
  where
    by : (ps : List ℤ) (ws : List Work) (j : ℕ) → j ≤ k → (o : Outcome) → Does p (fun_lines p f) (map (value locals) args) ps ws o
        → Steps p j (after (outcome_taken p o (record { lines = lines; locals = locals; catch = None } ∷ callers)) (ps0 ++ ps) (ws0 ++ ws)) v
        → Behind p (Await f args ∷ lines) locals callers ps0 ws0 (suc k) v
    by ps ws j l (Good z) d r =
        further_means p n k j ih h l (Await f args) lines locals (z ∷ locals) callers ps0 ps ws0 ws v
        (λ qs xs o e. Awaits f args z lines locals ps qs ws xs o d e) r over
    by ps ws j l (Bad e) d r = stops_later p k j l (Await f args) lines locals callers ps0 ps ws0 ws (Bad e) v (Awaits_error f args e lines locals ps ws d) r

work_means : (p : Source) (n k : ℕ) → Claim p n → k ≤ n
    → (kind : WorkKind) (a : Atom) (lines : List Line) (locals : List ℤ) (callers : List Caller) (ps0 : List ℤ) (ws0 : List Work) (v : Walked) (o : Outcome)
    → value_of (record { kind = kind; num = value locals a }) ≡ o
    → Steps p k
    (after (outcome_taken p o (record { lines = lines; locals = locals; catch = None } ∷ callers)) (ps0 ++ [])
    (ws0 ++ record { kind = kind; num = value locals a } ∷ []))
    v
    → IsOver v.walk → Behind p (AwaitWork kind a ∷ lines) locals callers ps0 ws0 (suc k) v
work_means p n k ih h kind a lines locals callers ps0 ws0 v (Good z) e s over =
    goes_on p n k ih h (AwaitWork kind a) lines locals (z ∷ locals) callers ps0 [] ws0 (record { kind = kind; num = value locals a } ∷ []) v
    (λ ps ws o d. Works kind a z lines locals ps ws o e d) s over
work_means p n k ih h kind a lines locals callers ps0 ws0 v (Bad x) e s over =
    stops p k (AwaitWork kind a) lines locals callers ps0 [] ws0 (record { kind = kind; num = value locals a } ∷ []) (Bad x) v
    (Works_error kind a x lines locals e) s

-- the handler of a try
handler_means : (p : Source) (n k j : ℕ) → Claim p n → k ≤ n → j ≤ k
    → (f : ℕ) (args : List Atom) (g : ℕ) (e : ℤ) (lines : List Line) (locals : List ℤ) (callers : List Caller) (ps0 ps : List ℤ) (ws0 ws : List Work)
    (v : Walked)
    → Does p (fun_lines p f) (map (value locals) args) ps ws (Bad e)
    → Steps p j (after (walk_on (fun_lines p g) (e ∷ []) (record { lines = lines; locals = locals; catch = None } ∷ callers)) (ps0 ++ ps) (ws0 ++ ws)) v
    → IsOver v.walk → Behind p (Try f args g ∷ lines) locals callers ps0 ws0 (suc k) v
handler_means p n k j ih h l f args g e lines locals callers ps0 ps ws0 ws v d s over =
    let b = ih j (omega (arith, h, l)) (fun_lines p g) (e ∷ []) (record { lines = lines; locals = locals; catch = None } ∷ callers) (ps0 ++ ps) (ws0 ++ ws) v
    s over
    in
    by b.ps b.ws b.count (omega (arith, b.few, l)) b.o b.does
    (joined p (outcome_taken p b.o (record { lines = lines; locals = locals; catch = None } ∷ callers)) b.count ps0 ps b.ps ws0 ws b.ws v b.rest)
  where
    by : (qs : List ℤ) (xs : List Work) (i : ℕ) → i ≤ k → (o : Outcome) → Does p (fun_lines p g) (e ∷ []) qs xs o
        → Steps p i (after (outcome_taken p o (record { lines = lines; locals = locals; catch = None } ∷ callers)) (ps0 ++ (ps ++ qs)) (ws0 ++ (ws ++ xs))) v
        → Behind p (Try f args g ∷ lines) locals callers ps0 ws0 (suc k) v
    by qs xs i m (Good z) c r =
        further_means p n k i ih h m (Try f args g) lines locals (z ∷ locals) callers ps0 (ps ++ qs) ws0 (ws ++ xs) v
        (λ rs ys o x. subst (λ (l : List ℤ). Does p (Try f args g ∷ lines) locals l (ws ++ xs ++ ys) o) (sym (append_assoc ps qs rs))
        (subst (λ (l : List Work). Does p (Try f args g ∷ lines) locals (ps ++ (qs ++ rs)) l o) (sym (append_assoc ws xs ys))
        (Catches f args g e z lines locals ps qs rs ws xs ys o d c x))) r over
    by qs xs i m (Bad y) c r =
        stops_later p k i m (Try f args g) lines locals callers ps0 (ps ++ qs) ws0 (ws ++ xs) (Bad y) v
        (Catches_error f args g e y lines locals ps qs ws xs d c) r

try_means : (p : Source) (n k : ℕ) → Claim p n → k ≤ n
    → (f : ℕ) (args : List Atom) (g : ℕ) (lines : List Line) (locals : List ℤ) (callers : List Caller) (ps0 : List ℤ) (ws0 : List Work) (v : Walked)
    → Steps p k
    (after (walk_on (fun_lines p f) (map (value locals) args) (record { lines = lines; locals = locals; catch = Some g } ∷ callers)) (ps0 ++ []) (ws0 ++ []))
    v
    → IsOver v.walk → Behind p (Try f args g ∷ lines) locals callers ps0 ws0 (suc k) v
try_means p n k ih h f args g lines locals callers ps0 ws0 v s over =
    let b = ih k h (fun_lines p f) (map (value locals) args) (record { lines = lines; locals = locals; catch = Some g } ∷ callers) (ps0 ++ []) (ws0 ++ []) v s
    over
    in
    by b.ps b.ws b.count b.few b.o b.does
    (joined p (outcome_taken p b.o (record { lines = lines; locals = locals; catch = Some g } ∷ callers)) b.count ps0 [] b.ps ws0 [] b.ws v b.rest)
  where
    by : (ps : List ℤ) (ws : List Work) (j : ℕ) → j ≤ k → (o : Outcome) → Does p (fun_lines p f) (map (value locals) args) ps ws o
        → Steps p j (after (outcome_taken p o (record { lines = lines; locals = locals; catch = Some g } ∷ callers)) (ps0 ++ ps) (ws0 ++ ws)) v
        → Behind p (Try f args g ∷ lines) locals callers ps0 ws0 (suc k) v
    by ps ws j l (Good z) d r =
        further_means p n k j ih h l (Try f args g) lines locals (z ∷ locals) callers ps0 ps ws0 ws v
        (λ qs xs o e. Tries f args g z lines locals ps qs ws xs o d e) r over
    by ps ws j l (Bad e) d r = handler_means p n k j ih h l f args g e lines locals callers ps0 ps ws0 ws v d r over

-- a piece that has no line
none_means : (p : Source) (k : ℕ) (locals : List ℤ) (callers : List Caller) (ps0 : List ℤ) (ws0 : List Work) (v : Walked)
    → Steps p k (after (answered (pos 0) callers) ps0 ws0) v → Behind p [] locals callers ps0 ws0 k v
none_means p k locals callers ps0 ws0 v s =
    record {
      ps = [];
      ws = [];
      o = Good (pos 0);
      does = Ends locals;
      count = k;
      few = omega arith;
      rest = subst (λ (z : Walked). Steps p k z v) (ap₂ (after (answered (pos 0) callers)) (sym (append-nil ps0)) (sym (append-nil ws0))) s;
    }

-- one line, by its kind
line_means : (p : Source) (n k : ℕ) → Claim p n → k ≤ n
    → (line : Line) (lines : List Line) (locals : List ℤ) (callers : List Caller) (ps0 : List ℤ) (ws0 : List Work) (v : Walked)
    → Steps p k (stepped p (after (At line lines locals callers) ps0 ws0)) v → IsOver v.walk → Behind p (line ∷ lines) locals callers ps0 ws0 (suc k) v
line_means p n k ih h (Let a) lines locals callers ps0 ws0 v s o =
    goes_on p n k ih h (Let a) lines locals (value locals a ∷ locals) callers ps0 [] ws0 [] v (λ ps ws o d. Lets a lines locals ps ws o d) s o
line_means p n k ih h (Compute a op b) lines locals callers ps0 ws0 v s o =
    compute_means p n k ih h a op b lines locals callers ps0 ws0 v (computed op (value locals a) (value locals b)) refl s o
line_means p n k ih h (Print when a) lines locals callers ps0 ws0 v s o =
    goes_on p n k ih h (Print when a) lines locals locals callers ps0 (printed locals (Print when a)) ws0 [] v
    (λ ps ws o d. Prints when a lines locals ps ws o d) s o
line_means p n k ih h (Raise when a) lines locals callers ps0 ws0 v s o =
    raise_means p n k ih h when a lines locals callers ps0 ws0 v (acts locals when) refl s o
line_means p n k ih h (Return when a) lines locals callers ps0 ws0 v s o =
    return_means p n k ih h when a lines locals callers ps0 ws0 v (acts locals when) refl s o
line_means p n k ih h (Await f args) lines locals callers ps0 ws0 v s o = await_means p n k ih h f args lines locals callers ps0 ws0 v s o
line_means p n k ih h (AwaitWork kind a) lines locals callers ps0 ws0 v s o =
    work_means p n k ih h kind a lines locals callers ps0 ws0 v (value_of (record { kind = kind; num = value locals a })) refl s o
line_means p n k ih h (Try f args g) lines locals callers ps0 ws0 v s o = try_means p n k ih h f args g lines locals callers ps0 ws0 v s o

all_means : (p : Source) (n : ℕ) → Claim p n
all_means p n k h [] locals callers ps0 ws0 v s o = none_means p k locals callers ps0 ws0 v s
all_means p n zero h (line ∷ lines) locals callers ps0 ws0 v s o = absurd (unsteady p line lines locals callers ps0 ws0 v s o)
all_means p zero (suc k) h (line ∷ lines) locals callers ps0 ws0 v s o = absurd (omega (arith, h))
all_means p (suc n) (suc k) h (line ∷ lines) locals callers ps0 ws0 v s o =
    line_means p n k (all_means p n) (omega (arith, h)) line lines locals callers ps0 ws0 v s.1 o

-- ---- from the evaluator
-- so many real steps lead to where a walk is over
record Reached (p : Source) (w v : Walked) : Type 0 where
  count : ℕ
  steps : Steps p count w v

still : (p : Source) (walk : Walk) (ps : List ℤ) (ws : List Work) (v : Walked) → Reached p (stepped p (after walk ps ws)) v → Reached p (after walk ps ws) v
still p (At line lines locals callers) ps ws v r = record { count = suc r.count; steps = (tt, r.steps) }
still p Over ps ws v r = r
still p (Raised e) ps ws v r = r

reach : (p : Source) (n : ℕ) (v : Walked) → Reached p (eval p n) v → Reached p (begun p) v
reach p zero v r = r
reach p (suc n) v r = reach p n v (still p (eval p n).walk (eval p n).prints (eval p n).works v r)

over_outcome : (p : Source) (o : Outcome) (count : ℕ) (ps : List ℤ) (ws : List Work) (v : Walked) → Steps p count (after (outcome_taken p o []) ps ws) v
    → v ≡ after (ending_of o) ps ws
over_outcome p (Good z) zero ps ws v s = sym s
over_outcome p (Good z) (suc k) ps ws v s = absurd s.0
over_outcome p (Bad e) zero ps ws v s = sym s
over_outcome p (Bad e) (suc k) ps ws v s = absurd s.0

-- main means what the evaluator comes to
pub over_is_meant : (p : Source) (n : ℕ) → IsOver (eval p n).walk
    → (o : Outcome) × ((eval p n).walk ≡ ending_of o) × Does p (fun_lines p p.main) [] (eval p n).prints (eval p n).works o
over_is_meant p n over =
    let r = reach p n (eval p n) (record { count = 0; steps = refl })
    in let b = all_means p r.count r.count (omega arith) (fun_lines p p.main) [] [] [] [] (eval p n) r.steps over
    in let e : eval p n ≡ after (ending_of b.o) b.ps b.ws = over_outcome p b.o b.count b.ps b.ws (eval p n) b.rest
    in (b.o, ap (λ (z : Walked). z.walk) e, subst (λ (z : Walked). Does p (fun_lines p p.main) [] z.prints z.works b.o) (sym e) b.does)
