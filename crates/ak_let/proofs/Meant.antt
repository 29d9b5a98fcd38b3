-- The evaluator does what the lines mean.
use Rattle.std.proofs.Common.{ℕ, ℤ, pos, ◌+◌, ◌≡◌, List, [], ◌∷◌, ◌++◌, map, cond, Some, None, refl, ap, ap₂, sym, ◌∙◌, subst, append_assoc, append-nil}
use Rattle.ak_labor.specs.declared.work.Work.{Work}
use Rattle.ak_labor.specs.declared.work.Outcome.{Outcome}
use Rattle.ak_labor.specs.declared.work.Outcome.TheVariants.{Good, Bad}
use Rattle.ak_let.specs.declared.source.Line.{Line}
use Rattle.ak_let.specs.declared.source.Line.TheVariants.{Let, Compute, Print, Raise, Return, Await, AwaitWork, Try}
use Rattle.ak_let.specs.declared.source.Source.{Source}
use Rattle.ak_let.specs.Eval.{Caller, Walk, Walked, value, printed, taken, fun_lines, walk_on, answered, thrown, next, computed_to, outcome_taken, eval}
use Rattle.ak_let.specs.Meaning.{Does, Ends, Lets, Computes, Exceeds, Divides, Prints, Raises, Raises_not, Returns, Returns_not, Awaits, Awaits_error, Works, Works_error, Tries, Catches, Catches_error, ending_of}
use Rattle.ak_let.proofs.Related.{Steps}
use Rattle.ak_let.proofs.Counts.{steps_more, eval_is}

-- the walk at a place, after these prints and works
abbrev after : Walk → List ℤ → List Work → Walked
after walk ps ws = record { walk = walk; prints = ps; works = ws }

-- some lines lead from a walk to another, with these prints and works on the way
record Comes (p : Source) (from to : Walk) (ps : List ℤ) (ws : List Work) : Type 0 where
  by : (ps0 : List ℤ) (ws0 : List Work) → (n : ℕ) × Steps p n (after from ps0 ws0) (after to (ps0 ++ ps) (ws0 ++ ws))

none : (p : Source) (walk : Walk) → Comes p walk walk [] []
none p walk = record { by = λ ps0 ws0. (0, ap₂ (after walk) (sym (append-nil ps0)) (sym (append-nil ws0))) }

both : (p : Source) (a b c : Walk) (ps qs : List ℤ) (ws xs : List Work) → Comes p a b ps ws → Comes p b c qs xs → Comes p a c (ps ++ qs) (ws ++ xs)
both p a b c ps qs ws xs h k =
    record {
      by = λ ps0 ws0.
          let x = h.by ps0 ws0
          in let y = k.by (ps0 ++ ps) (ws0 ++ ws)
          in (
            x.0 + y.0,
            subst (λ (z : Walked). Steps p (x.0 + y.0) (after a ps0 ws0) z) (ap₂ (after c) (append_assoc ps0 ps qs) (append_assoc ws0 ws xs))
                (steps_more p x.0 y.0 (after a ps0 ws0) (after b (ps0 ++ ps) (ws0 ++ ws)) (after c (ps0 ++ ps ++ qs) (ws0 ++ ws ++ xs)) x.1 y.1),
          );
    }

-- one line
line_comes : (p : Source) (line : Line) (lines : List Line) (locals : List ℤ) (callers : List Caller) (to : Walk) → next p line lines locals callers ≡ to
    → Comes p (walk_on (line ∷ lines) locals callers) to (printed locals line) (taken locals line)
line_comes p line lines locals callers to e =
    record { by = λ ps0 ws0. (1, (tt, ap (λ z. after z (ps0 ++ printed locals line) (ws0 ++ taken locals line)) e)) }

meant : (p : Source) (lines : List Line) (locals ps : List ℤ) (ws : List Work) (o : Outcome) → Does p lines locals ps ws o → (callers : List Caller)
    → Comes p (walk_on lines locals callers) (outcome_taken p o callers) ps ws
meant p _ _ _ _ _ (Ends locals) callers = none p (answered (pos 0) callers)
meant p _ _ _ _ _ (Lets a lines locals ps ws o d) callers =
    both p _ _ _ [] ps [] ws (line_comes p (Let a) lines locals callers _ refl) (meant p lines (value locals a ∷ locals) ps ws o d callers)
meant p _ _ _ _ _ (Computes a op b z lines locals ps ws o e d) callers =
    both p _ _ _ [] ps [] ws (line_comes p (Compute a op b) lines locals callers _ (ap (λ c. computed_to p c lines locals callers) e))
    (meant p lines (z ∷ locals) ps ws o d callers)
meant p _ _ _ _ _ (Exceeds a op b lines locals e) callers =
    line_comes p (Compute a op b) lines locals callers _ (ap (λ c. computed_to p c lines locals callers) e)
meant p _ _ _ _ _ (Divides a op b lines locals e) callers =
    line_comes p (Compute a op b) lines locals callers _ (ap (λ c. computed_to p c lines locals callers) e)
meant p _ _ _ _ _ (Prints when a lines locals ps ws o d) callers =
    both p _ _ _ (printed locals (Print when a)) ps [] ws (line_comes p (Print when a) lines locals callers _ refl) (meant p lines locals ps ws o d callers)
meant p _ _ _ _ _ (Raises when a lines locals e) callers =
    line_comes p (Raise when a) lines locals callers _ (ap (λ b. cond b (thrown p (value locals a) callers) (walk_on lines locals callers)) e)
meant p _ _ _ _ _ (Raises_not when a lines locals ps ws o e d) callers =
    both p _ _ _ [] ps [] ws
    (line_comes p (Raise when a) lines locals callers _ (ap (λ b. cond b (thrown p (value locals a) callers) (walk_on lines locals callers)) e))
    (meant p lines locals ps ws o d callers)
meant p _ _ _ _ _ (Returns when a lines locals e) callers =
    line_comes p (Return when a) lines locals callers _ (ap (λ b. cond b (answered (value locals a) callers) (walk_on lines locals callers)) e)
meant p _ _ _ _ _ (Returns_not when a lines locals ps ws o e d) callers =
    both p _ _ _ [] ps [] ws
    (line_comes p (Return when a) lines locals callers _ (ap (λ b. cond b (answered (value locals a) callers) (walk_on lines locals callers)) e))
    (meant p lines locals ps ws o d callers)
meant p _ _ _ _ _ (Awaits f args v lines locals ps qs ws xs o d further) callers =
    both p _ _ _ ps qs ws xs
    (both p _ _ _ [] ps [] ws (line_comes p (Await f args) lines locals callers _ refl)
    (meant p (fun_lines p f) (map (value locals) args) ps ws (Good v) d (record { lines = lines; locals = locals; catch = None } ∷ callers)))
    (meant p lines (v ∷ locals) qs xs o further callers)
meant p _ _ _ _ _ (Awaits_error f args e lines locals ps ws d) callers =
    both p _ _ _ [] ps [] ws (line_comes p (Await f args) lines locals callers _ refl)
    (meant p (fun_lines p f) (map (value locals) args) ps ws (Bad e) d (record { lines = lines; locals = locals; catch = None } ∷ callers))
meant p _ _ _ _ _ (Works kind a v lines locals ps ws o e d) callers =
    both p _ _ _ [] ps (record { kind = kind; num = value locals a } ∷ []) ws
    (line_comes p (AwaitWork kind a) lines locals callers _
    (ap (λ o. outcome_taken p o (record { lines = lines; locals = locals; catch = None } ∷ callers)) e))
    (meant p lines (v ∷ locals) ps ws o d callers)
meant p _ _ _ _ _ (Works_error kind a e lines locals h) callers =
    line_comes p (AwaitWork kind a) lines locals callers _ (ap (λ o. outcome_taken p o (record { lines = lines; locals = locals; catch = None } ∷ callers)) h)
meant p _ _ _ _ _ (Tries f args g v lines locals ps qs ws xs o d further) callers =
    both p _ _ _ ps qs ws xs
    (both p _ _ _ [] ps [] ws (line_comes p (Try f args g) lines locals callers _ refl)
    (meant p (fun_lines p f) (map (value locals) args) ps ws (Good v) d (record { lines = lines; locals = locals; catch = Some g } ∷ callers)))
    (meant p lines (v ∷ locals) qs xs o further callers)
meant p _ _ _ _ _ (Catches f args g e v lines locals ps qs rs ws xs ys o d handler further) callers =
    both p _ _ _ ps (qs ++ rs) ws (xs ++ ys)
    (both p _ _ _ [] ps [] ws (line_comes p (Try f args g) lines locals callers _ refl)
    (meant p (fun_lines p f) (map (value locals) args) ps ws (Bad e) d (record { lines = lines; locals = locals; catch = Some g } ∷ callers)))
    (both p _ _ _ qs rs xs ys
    (meant p (fun_lines p g) (e ∷ []) qs xs (Good v) handler (record { lines = lines; locals = locals; catch = None } ∷ callers))
    (meant p lines (v ∷ locals) rs ys o further callers))
meant p _ _ _ _ _ (Catches_error f args g e k lines locals ps qs ws xs d handler) callers =
    both p _ _ _ ps qs ws xs
    (both p _ _ _ [] ps [] ws (line_comes p (Try f args g) lines locals callers _ refl)
    (meant p (fun_lines p f) (map (value locals) args) ps ws (Bad e) d (record { lines = lines; locals = locals; catch = Some g } ∷ callers)))
    (meant p (fun_lines p g) (e ∷ []) qs xs (Bad k) handler (record { lines = lines; locals = locals; catch = None } ∷ callers))

taken_at_end : (p : Source) (o : Outcome) → outcome_taken p o [] ≡ ending_of o
taken_at_end p (Good v) = refl
taken_at_end p (Bad e) = refl

-- what main means is what the evaluator comes to
pub main_meant : (p : Source) (ps : List ℤ) (ws : List Work) (o : Outcome) → Does p (fun_lines p p.main) [] ps ws o
    → (n : ℕ) × (eval p n ≡ after (ending_of o) ps ws)
main_meant p ps ws o d =
    let x = (meant p (fun_lines p p.main) [] ps ws o d []).by [] []
    in (x.0, eval_is p x.0 (after (outcome_taken p o []) ps ws) x.1 ∙ ap (λ z. after z ps ws) (taken_at_end p o))
