use Rattle.std.proofs.Common.{◌≡◌, [], ◌∷◌, Some, sym, subst, ap, ◌∙◌}
use Rattle.ak_turn.specs.Entries.{events, IsLog}
use Rattle.ak_turn.specs.Steps.{logged, logged_as, news}
use Rattle.ak_turn.proofs.Wraps.{logged_is}
use Rattle.ak_turn.proofs.steps.leave.Goals as goal

pub hand_on-requires-clause-value : goal.hand_on-requires-clause-value
hand_on-requires-clause-value g c κs within =
    let log = g.G.Guarded.log in let v = c.requires.value in
    let seat : c.write_log.new.seat.me ≡ (logged_as log c.args.seat.now.me.0 c.args.value, (0, Some c.args.value) ∷ []) =
    c.write_log.ensures.view ∙ ap (λ m. (logged m.0 (news log m.0.was m.1), m.1)) c.put_back.ensures.view in (
      c.args.value,
      ap (λ m. m.1) seat,
      subst (g.G.Guarded.fits c.args.value) (sym (ap (λ m. m.0.numbers) seat)) v.2.0,
      logged_is log g.G.Guarded.may g.G.Guarded.fits c.args.seat.now.me v.0 _ v.1 v.2 ∙ ap (λ m. events m.0.was) (sym seat),
    )

pub returns-clause-log : goal.returns-clause-log
returns-clause-log g c =
    let log = g.G.Guarded.log in let may = g.G.Guarded.may in let v = c.requires.value in
    let seat : c.write_log.new.seat.me ≡ (logged_as log c.args.seat.now.me.0 c.args.value, (0, Some c.args.value) ∷ []) =
    c.write_log.ensures.view ∙ ap (λ m. (logged m.0 (news log m.0.was m.1), m.1)) c.put_back.ensures.view in (
      logged_is log may g.G.Guarded.fits c.args.seat.now.me v.0 _ v.1 v.2,
      subst (IsLog may c.args.seat.now.me.0.numbers) (ap (λ m. m.0.was) seat)
          (subst (λ m. IsLog may m.0.numbers c.write_log.new.seat.me.0.was) c.put_back.ensures.view c.write_log.ensures.log),
    )
