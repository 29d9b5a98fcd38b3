use Rattle.std.proofs.Common.{[], refl, arith}
use Rattle.ak_tests_runs.proofs.Holding.{open_again, submits_again}
use Rattle.ak_tests_runs.proofs.works.fetch.Goals as goal

pub returns-in-Ok-clause-open : goal.returns-in-Ok-clause-open
returns-in-Ok-clause-open g c =
    let gave = c.in-Ok.ensures.ok in
    open_again c.args.hub.now c.args.pass.now c.drain.new.pass gave.0 _ c.requires.pass.1 gave.1 refl c.requires.open

pub returns-in-Ok-clause-same : goal.returns-in-Ok-clause-same
returns-in-Ok-clause-same g c =
    let gave = c.in-Ok.ensures.ok in
    omega (arith, submits_again c.args.hub.now c.args.pass.now c.drain.new.pass gave.0 _ c.requires.pass.1 gave.1)

pub returns-in-Err-clause-open : goal.returns-in-Err-clause-open
returns-in-Err-clause-open g c =
    let gave = c.in-Err.ensures.err in
    open_again c.args.hub.now c.args.pass.now c.drain.new.pass gave.0 [] c.requires.pass.1 gave.1 refl c.requires.open

pub returns-in-Err-clause-same : goal.returns-in-Err-clause-same
returns-in-Err-clause-same g c =
    let gave = c.in-Err.ensures.err in
    omega (arith, submits_again c.args.hub.now c.args.pass.now c.drain.new.pass gave.0 [] c.requires.pass.1 gave.1)
