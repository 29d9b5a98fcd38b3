use Rattle.std.proofs.Common.{[], ◌∷◌, refl, arith}
use Rattle.ak_history.specs.declared.event.Event.TheVariants as event
use Rattle.ak_tests_runs.proofs.Holding.{open_again, submits_again, some_out}
use Rattle.ak_tests_runs.proofs.works.hand_in.Goals as goal

pub returns-in-Ok-clause-open : goal.returns-in-Ok-clause-open
returns-in-Ok-clause-open g c =
    let gave = c.in-Ok.ensures.ok in
    open_again c.args.hub.now c.args.pass.now c.submit.new.pass gave.0 _ c.requires.pass.1 gave.1 refl c.requires.open

pub returns-in-Ok-clause-few : goal.returns-in-Ok-clause-few
returns-in-Ok-clause-few g c =
    let gave = c.in-Ok.ensures.ok in
    omega (arith, submits_again c.args.hub.now c.args.pass.now c.submit.new.pass gave.0 _ c.requires.pass.1 gave.1)

pub returns-in-Ok-clause-some : goal.returns-in-Ok-clause-some
returns-in-Ok-clause-some g c =
    let gave = c.in-Ok.ensures.ok in
    some_out c.args.hub.now c.args.pass.now c.submit.new.pass gave.0 _ _ _ gave.1

pub returns-in-Err-clause-open : goal.returns-in-Err-clause-open
returns-in-Err-clause-open g c =
    let gave = c.in-Err.ensures.err in
    open_again c.args.hub.now c.args.pass.now c.submit.new.pass gave.0 [] c.requires.pass.1 gave.1 refl c.requires.open

pub returns-in-Err-clause-few : goal.returns-in-Err-clause-few
returns-in-Err-clause-few g c =
    let gave = c.in-Err.ensures.err in
    omega (arith, submits_again c.args.hub.now c.args.pass.now c.submit.new.pass gave.0 [] c.requires.pass.1 gave.1)
