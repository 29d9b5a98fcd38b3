use Rattle.std.proofs.Common.{◌∙◌, inr, []}
use Rattle.ak_hub.proofs.Gives.{given_again}
use Rattle.ak_hub.proofs.hub.Hub.answer_or_wait.Goals as goal

pub returns-in-Some-told_now-clause-told : goal.returns-in-Some-told_now-clause-told
returns-in-Some-told_now-clause-told g c =
    let told = c.in-Some-told_now.ensures.told in (
      told.0,
      given_again c.args.self.now c.args.pass.now c.loop.pass c.told_now.new.pass told.0 [] c.loop.invariant.2 told.1,
      told.2,
    )

pub loop-preserved : goal.loop-preserved
loop-preserved g c =
    let nothing = c.in-None-told_now.ensures.not_yet in (
      (c.told_now.ensures.pass.0.0, c.told_now.ensures.pass.0.1 ∙ c.loop.invariant.0.1),
      c.told_now.ensures.pass.1 ∙ c.loop.invariant.1,
      inr (nothing.0, given_again c.args.self.now c.args.pass.now c.loop.pass c.told_now.new.pass nothing.0 [] c.loop.invariant.2 nothing.1),
    )
