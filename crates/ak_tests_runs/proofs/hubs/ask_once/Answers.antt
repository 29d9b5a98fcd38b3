use Rattle.ak_tests_runs.proofs.Holding.{may_end, idle_on, idle_then}
use Rattle.ak_tests_runs.proofs.hubs.ask_once.Goals as goal

pub finish-requires-clause-legal : goal.finish-requires-clause-legal
finish-requires-clause-legal g c =
    let took = c.in-Got.ensures.taken in
    may_end c.args.hub.now c.args.pass.now c.take.new.pass took.0 c.args.thread _ _ c.carry-outcome.result took.1 c.carry-outcome.ensures.value

pub returns-in-Got-clause-idle : goal.returns-in-Got-clause-idle
returns-in-Got-clause-idle g c =
    let took = c.in-Got.ensures.taken in
    let done = c.finish.ensures.finished in
    idle_then c.args.hub.now c.args.pass.now c.take.new.pass c.finish.new.pass took.0 done.0 c.args.thread _ _ c.carry-outcome.result
    c.requires.pass.1 c.take.ensures.pass.0.1 c.requires.idle took.1 done.1

pub returns-in-NotYet-clause-idle : goal.returns-in-NotYet-clause-idle
returns-in-NotYet-clause-idle g c =
    let took = c.in-NotYet.ensures.taken in
    idle_on c.args.hub.now c.args.pass.now c.take.new.pass took.0 c.args.thread c.requires.pass.1 took.1.0 c.requires.idle

pub returns-in-Closed-clause-idle : goal.returns-in-Closed-clause-idle
returns-in-Closed-clause-idle g c =
    let took = c.in-Closed.ensures.taken in
    idle_on c.args.hub.now c.args.pass.now c.take.new.pass took.0 c.args.thread c.requires.pass.1 took.1.0 c.requires.idle
