use Rattle.std.proofs.Common.{◌≡◌, ◌∷◌, ℕ, subst, sym}
use Rattle.ak_words.specs.declared.command.Order.{Order}
use Rattle.ak_words.specs.declared.command.Order.TheVariants as order
use Rattle.ak_words.specs.Words.{word_of, IsUsageFault}
use Rattle.ak_words.proofs.Places.{run_fault, replay_fault}
use Rattle.ak_words.proofs.command.given.Goals as goal

pub returns-in-Err-clause-usage : goal.returns-in-Err-clause-usage
returns-in-Err-clause-usage c =
    let f = c.in-Err.ensures.fault in
    subst (λ (o : Order). IsUsageFault (word_of o ∷ c.args.rest.now) c.in-Err.place) (sym c.in-Run.is)
    (subst (λ (p : ℕ). IsUsageFault (word_of order.Run ∷ c.args.rest.now) p) (sym f.1) (run_fault c.args.rest.now f.0 (rw c.without_askers.ensures at f.2)))

pub returns-in-Err-behind-clause-usage : goal.returns-in-Err-behind-clause-usage
returns-in-Err-behind-clause-usage c =
    let f = c.in-Err-behind.ensures.fault in
    subst (λ (o : Order). IsUsageFault (word_of o ∷ c.args.rest.now) c.in-Err-behind.place) (sym c.in-Replay.is)
    (subst (λ (p : ℕ). IsUsageFault (word_of order.Replay ∷ c.args.rest.now) p) (sym f.1) (replay_fault c.args.rest.now f.0 (rw c.none.ensures at f.2)))
