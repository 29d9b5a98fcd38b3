use Rattle.std.proofs.Common.{[], ◌∷◌, ◌++◌, refl, ap, ◌∙◌, rules}
use Rattle.std.specs.Int.{w64}
use Rattle.std.proofs.lemmas.Int.{to_z-of_z}
use Rattle.ak_labor.specs.declared.ask.Ask.TheVariants as ask
use Rattle.ak_history.specs.Scheduler.{asks}
use Rattle.ak_hub.specs.Hubs.{seen_by}
use Rattle.ak_history_laws.proofs.Owed.{open_history}
use Rattle.ak_history_laws.proofs.Requests.{answerable}
use Rattle.ak_crew.proofs.Porting.{went, port_goes, few_asked}
use Rattle.ak_crew.proofs.port.HubPortPort.answer.Goals as goal

pub answer-requires-clause-open : goal.answer-requires-clause-open
answer-requires-clause-open g c = open_history c.self.inside.hub.now.askers (seen_by c.self.inside.pass) (rw (← c.self.view_is) at c.requires.open)

pub answer-requires-clause-fetched : goal.answer-requires-clause-fetched
answer-requires-clause-fetched g c =
    (answerable c.self.inside.hub.now.threads c.self.inside.hub.now.askers (seen_by c.self.inside.pass) c.args.no c.self.invariant.legal
    (rw (← c.self.view_is) at c.requires.waits_for_it)).0

pub answer-requires-clause-unanswered : goal.answer-requires-clause-unanswered
answer-requires-clause-unanswered g c =
    (answerable c.self.inside.hub.now.threads c.self.inside.hub.now.askers (seen_by c.self.inside.pass) c.args.no c.self.invariant.legal
    (rw (← c.self.view_is) at c.requires.waits_for_it)).1

pub overflow_add-self : goal.overflow_add-self
overflow_add-self g c =
    let few = few_asked _ (record { hub = c.self.inside.hub.now; pass = c.self.inside.pass; waits = c.self.inside.waits.items }) c.self.inside.asked
    c.self.invariant in
    search rules

pub invariant_of-self : goal.invariant_of-self
invariant_of-self g c =
    let gave = c.answer.ensures.answered in
    port_goes _ (record { hub = c.self.inside.hub.now; pass = c.self.inside.pass; waits = c.self.inside.waits.items }) c.self.inside.asked c.answer.new.pass
    gave.0 _ (ask.Answer c.args.no c.args.num) c.self.invariant c.answer.ensures.pass gave.1
    (ap (λ z. ask.Answer c.args.no z ∷ []) (to_z-of_z w64 c.args.num c.ranges.num)) (λ e. refl)

pub returns-clause-asked : goal.returns-clause-asked
returns-clause-asked g c =
    let gave = c.answer.ensures.answered in
    let w = went c.self.inside.hub.now c.self.inside.pass c.answer.new.pass gave.0 _ c.self.invariant.pass.1 gave.1 in
    rw (← c.self.view_is) (
      w.asks_are ∙ ap (λ z. asks (seen_by c.self.inside.pass) ++ ask.Answer c.args.no z ∷ [])
          (to_z-of_z w64 c.args.num c.ranges.num),
      w.replies_are,
    )
