use Rattle.std.proofs.Common.{[], ap, sym, subst, ◌∙◌, append-nil}
use Rattle.ak_hub.specs.Askings.{Tells}
use Rattle.ak_hub.proofs.Holds.{gave_by, some_map, none_of}
use Rattle.ak_hub.proofs.hub.Hub.told_now.Goals as goal

pub returns-clause-told : goal.returns-clause-told
returns-clause-told g c =
    let found = ap (λ p. p.history) (c.deref.ensures ∙ ap (λ s. s.pool.value) c.value.ensures) ∙ c.enter-held.ensures.pool.1 in
    let was = c.enter-held.result.was in
    some_map c.told-told.result _ _ c.told-told.ensures (λ answer tells. (
      was,
      gave_by c.args.self.now c.args.pass.now c.enter-held.new.pass c.leave.new.pass was [] c.enter-held.ensures.hold c.enter-held.ensures.pass
          (c.leave.ensures.log [] (c.enter-held.ensures.pool.1 ∙ sym (append-nil _)))
          c.leave.ensures.seen c.leave.ensures.legal,
      subst (λ l. Tells l c.args.no answer) found tells,
    ))

pub returns-clause-not_yet : goal.returns-clause-not_yet
returns-clause-not_yet g c =
    none_of c.told-told.result _ (
      c.enter-held.result.was,
      gave_by c.args.self.now c.args.pass.now c.enter-held.new.pass c.leave.new.pass c.enter-held.result.was [] c.enter-held.ensures.hold
          c.enter-held.ensures.pass
          (c.leave.ensures.log [] (c.enter-held.ensures.pool.1 ∙ sym (append-nil _)))
          c.leave.ensures.seen c.leave.ensures.legal,
    )
