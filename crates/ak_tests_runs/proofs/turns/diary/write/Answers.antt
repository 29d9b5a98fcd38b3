use Rattle.std.proofs.Common.{◌≡◌, Bool, true, false, [], ◌∷◌, ◌++◌, ap, sym, ◌∙◌, append-nil}
use Rattle.std.specs.Prelude.{Result, Ok, Err, OnOk, OnErr, MatchBool, is_ok}
use Rattle.ak_tests_runs.proofs.turns.diary.write.Goals as goal

by_case : {A B : Type 0} (r : Result A B) (b : Bool) (P Q P' Q' : Type 0) → b ≡ is_ok r → OnOk r P → OnErr r Q → (P → P') → (Q → Q') → MatchBool b P' Q'
by_case (Ok x) true P Q P' Q' is ok err f g = f ok
by_case (Ok x) false P Q P' Q' is ok err f g = cc
by_case (Err x) true P Q P' Q' is ok err f g = cc
by_case (Err x) false P Q P' Q' is ok err f g = g err

pub returns-clause-mine : goal.returns-clause-mine
returns-clause-mine g c = let log = ap (λ d. d.lines) c.value_mut.ensures.value ∙ c.enter-held.ensures.value.1 in
    let before = ap (λ p. p.mine) c.enter-held.ensures.pass in
    by_case c.push.result c.is_ok-written.result _ _ _ _ c.is_ok-written.ensures.value c.push.ensures.ok c.push.ensures.err
    (λ is. ap (λ p. p.mine) (c.leave.ensures.log (c.args.line ∷ []) (is ∙ ap (λ l. l ++ c.args.line ∷ []) log)) ∙ ap (λ es. es ++ c.args.line ∷ []) before)
    (λ is. ap (λ p. p.mine) (c.leave.ensures.log [] (is ∙ (log ∙ sym (append-nil _)))) ∙ (append-nil _ ∙ before))
