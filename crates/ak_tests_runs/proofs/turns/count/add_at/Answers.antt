use Rattle.std.proofs.Common.{◌≡◌, ℕ, ◌+◌, List, [], ◌∷◌, ◌++◌, length, replicate, ap, sym, ◌∙◌, arith}
use Rattle.std.proofs.lemmas.List.{replicate-append-replicate, length-replicate, length-map}
use Rattle.ak_tests_runs.specs.declared.turns.count.Add.{Add}
use Rattle.ak_turn.specs.Entries.{events}
use Rattle.ak_turn.specs.Seen.{left}
use Rattle.ak_tests_runs.proofs.turns.count.add_at.Goals as goal

unit : Add
unit = record {}

-- the log is one unit longer
more : (n : ℕ) (l : List Add) → replicate n unit ≡ l → replicate (n + 1) unit ≡ l ++ unit ∷ []
more n l e = sym (replicate-append-replicate n 1 unit) ∙ ap (λ k. k ++ unit ∷ []) e

pub leave-requires-clause-log : goal.leave-requires-clause-log
leave-requires-clause-log g c κs =
    let found = ap (λ n. replicate n unit) (sym c.if-value-units.true) ∙ (ap (λ d. replicate d.units unit) c.value.ensures ∙ c.enter-held.ensures.value.1) in
    (unit ∷ [], omega arith, more c.args.units _ found, (tt, tt))

pub returns-then-value-units-clause-added : goal.returns-then-value-units-clause-added
returns-then-value-units-clause-added g c =
    let was = c.enter-held.result.was in
    let found : replicate c.args.units unit ≡ events was =
    ap (λ n. replicate n unit) (sym c.if-value-units.true)
    ∙ (ap (λ d. replicate d.units unit) c.value.ensures ∙ c.enter-held.ensures.value.1) in
    λ _. (
      was,
      sym (length-map was (λ x. x.1)) ∙ (ap length (sym found) ∙ length-replicate c.args.units unit),
      c.enter-held.ensures.extends,
      c.enter-held.ensures.log,
      c.leave.ensures.log (unit ∷ []) (more c.args.units _ found) ∙ ap (λ p. left p was (unit ∷ [])) c.enter-held.ensures.pass,
    )
