use Rattle.std.proofs.Common.{[], refl, ◌∙◌, arith}
use Rattle.ak_tests_runs.proofs.Holding.{open_again, submits_again}
use Rattle.ak_tests_runs.proofs.works.fetch_some.Goals as goal

pub fetch-requires-clause-open : goal.fetch-requires-clause-open
fetch-requires-clause-open g c =
    let gave = c.wait_owed.ensures.owes in
    open_again c.args.hub.now c.args.pass.now c.wait_owed.new.pass gave.0 [] c.requires.pass.1 gave.1 refl c.requires.open

pub returns-clause-same : goal.returns-clause-same
returns-clause-same g c =
    let gave = c.wait_owed.ensures.owes in
    omega (arith, c.fetch.ensures.same, submits_again c.args.hub.now c.args.pass.now c.wait_owed.new.pass gave.0 [] c.requires.pass.1 gave.1)
