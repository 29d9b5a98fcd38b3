use Rattle.std.proofs.Common.{◌≡◌, ◌≤◌, ◌+◌, [], refl, sym, ap, subst, ◌∙◌, arith, rules, false, w64, to_z, of_z}
use Rattle.ak_hub.specs.Outsides.{HasActed, GoesOnFrom}
use Rattle.ak_askers.specs.Plans.{planned, IsAsking}
use Rattle.ak_askers.proofs.Holding.{asks_nothing, planned_on, planned_next}
use Rattle.ak_askers.proofs.repeat.RepeatOutside.act.Goals as goal

pub finish-requires-clause-asking : goal.finish-requires-clause-asking
finish-requires-clause-asking g c = (
  [],
  c.args.pass,
  subst (IsAsking c.args.hub.now c.args.asker [] c.args.pass c.args.pass) (sym c.new.ensures.items)
      (asks_nothing c.args.hub.now c.args.asker c.args.pass c.requires.pass c.requires.fresh),
)

pub returns-in_default : goal.returns-in_default
returns-in_default g c =
    let is : IsAsking c.args.hub.now c.args.asker [] c.args.pass c.args.pass c.new.result.items =
    subst (IsAsking c.args.hub.now c.args.asker [] c.args.pass c.args.pass) (sym c.new.ensures.items)
    (asks_nothing c.args.hub.now c.args.asker c.args.pass c.requires.pass c.requires.fresh) in
    record {
      acted =
          c.finish.ensures.acted [] (planned c.args.asker c.args.self.now.each) c.args.pass is (planned c.args.asker c.args.self.now.each, refl)
          (λ no'. absurd (cc (no', c.finish.ensures.short)));
    }

pub returns-in-Closed : goal.returns-in-Closed
returns-in-Closed g c =
    let at = c.loop-place.invariant in
    let le : c.loop-place.place + 1 ≤ c.args.self.now.each = omega (arith, c.loop-place-test.true) in
    let on = planned_on c.args.asker (c.loop-place.place + 1) c.args.self.now.each le in
    let same : to_z w64 (of_z w64 c.planned_number-num.result) ≡ c.planned_number-num.result = search rules in
    let next = planned_next c.args.asker c.loop-place.place (to_z w64 (of_z w64 c.planned_number-num.result)) (same ∙ c.planned_number-num.ensures) in
    record {
      acted =
          subst (λ heard. HasActed c.args.hub.now c.args.asker (planned c.args.asker c.args.self.now.each) c.args.pass c.ask.new.pass heard false)
          (sym c.from_vec.ensures)
          (c.in-Closed.ensures.step (planned c.args.asker c.loop-place.place) c.args.pass at.asking (planned c.args.asker c.args.self.now.each)
          (subst (λ l. GoesOnFrom l (planned c.args.asker c.args.self.now.each)) (sym next) on));
    }

pub finish-requires-in-Short-clause-asking : goal.finish-requires-in-Short-clause-asking
finish-requires-in-Short-clause-asking g c = (
  planned c.args.asker c.loop-place.place,
  c.args.pass,
  c.in-Short.ensures.step (planned c.args.asker c.loop-place.place) c.args.pass c.loop-place.invariant.asking,
)

pub returns-in-Short : goal.returns-in-Short
returns-in-Short g c =
    let le : c.loop-place.place ≤ c.args.self.now.each = omega (arith, c.loop-place-test.true) in
    record {
      acted =
          c.finish-in-Short.ensures.acted (planned c.args.asker c.loop-place.place) (planned c.args.asker c.args.self.now.each) c.args.pass
          (c.in-Short.ensures.step (planned c.args.asker c.loop-place.place) c.args.pass c.loop-place.invariant.asking)
          (planned_on c.args.asker c.loop-place.place c.args.self.now.each le) (λ no'. absurd (cc (no', c.finish-in-Short.ensures.short)));
    }

pub loop-place-preserved : goal.loop-place-preserved
loop-place-preserved g c =
    let at = c.loop-place.invariant in
    let same : to_z w64 (of_z w64 c.planned_number-num.result) ≡ c.planned_number-num.result = search rules in
    let next = planned_next c.args.asker c.loop-place.place (to_z w64 (of_z w64 c.planned_number-num.result)) (same ∙ c.planned_number-num.ensures) in
    record {
      asking =
          subst (λ nums. IsAsking c.args.hub.now c.args.asker nums c.args.pass c.ask.new.pass c.ask.new.told.items) next
          (c.in-Told.ensures.step (planned c.args.asker c.loop-place.place) c.args.pass at.asking);
      few = omega (arith, c.ask.ensures.one, at.few);
      room = c.ask.ensures.room ∙ at.room;
    }

pub returns : goal.returns
returns g c =
    let at = c.loop-place.invariant in
    let end : c.loop-place.place ≡ c.args.self.now.each = search rules in
    record {
      acted =
          c.finish-2.ensures.acted (planned c.args.asker c.loop-place.place) (planned c.args.asker c.args.self.now.each) c.args.pass at.asking
          (subst (λ k. GoesOnFrom (planned c.args.asker c.loop-place.place) (planned c.args.asker k)) end
          (planned_on c.args.asker c.loop-place.place c.loop-place.place (omega arith)))
          (λ no'. ap (planned c.args.asker) end);
    }
