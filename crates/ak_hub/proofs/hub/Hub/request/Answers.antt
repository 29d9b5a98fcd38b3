use Rattle.std.proofs.Common.{[], ◌∷◌, ◌++◌, length, ap, sym, subst, ◌∙◌, append-nil}
use Rattle.std.specs.Int.{w64}
use Rattle.std.proofs.lemmas.Int.{to_z-of_z}
use Rattle.ak_history.specs.declared.event.Event.TheVariants as event
use Rattle.ak_history.specs.Events.{asked}
use Rattle.ak_hub.specs.Askings.{Refuses}
use Rattle.ak_hub.proofs.Holds.{gave_by, ok_each, err_each}
use Rattle.ak_hub.proofs.hub.Hub.request.Goals as goal

pub returns-clause-ok : goal.returns-clause-ok
returns-clause-ok g c =
    let found = ap (λ p. p.history) (c.deref_mut.ensures.value ∙ ap (λ s. s.pool.value) c.value_mut.ensures.value) ∙ c.enter-held.ensures.pool.1 in
    let was = c.enter-held.result.was in
    ok_each c.request-answer.result _ _ _ c.request-answer.ensures.number c.request-answer.ensures.ok (λ q number goes. (
      was,
      gave_by c.args.self.now c.args.pass.now c.enter-held.new.pass c.leave.new.pass was _ c.enter-held.ensures.hold c.enter-held.ensures.pass
          (c.leave.ensures.log _ (goes ∙ (λ i. found i ++ event.Request q c.args.asker (to_z-of_z w64 c.args.num c.ranges.num i) ∷ [])))
          c.leave.ensures.seen c.leave.ensures.legal,
      number ∙ ap (λ l. length (asked l)) found,
    ))

pub returns-clause-err : goal.returns-clause-err
returns-clause-err g c =
    let found = ap (λ p. p.history) (c.deref_mut.ensures.value ∙ ap (λ s. s.pool.value) c.value_mut.ensures.value) ∙ c.enter-held.ensures.pool.1 in
    let was = c.enter-held.result.was in
    err_each c.request-answer.result _ _ _ c.request-answer.ensures.err c.request-answer.ensures.stays (λ why refuses stays. (
      was,
      gave_by c.args.self.now c.args.pass.now c.enter-held.new.pass c.leave.new.pass was [] c.enter-held.ensures.hold c.enter-held.ensures.pass
          (c.leave.ensures.log [] (stays ∙ (found ∙ sym (append-nil _))))
          c.leave.ensures.seen c.leave.ensures.legal,
      subst (λ l. Refuses c.args.asker l why) found refuses,
    ))
