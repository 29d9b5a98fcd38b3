use Rattle.std.proofs.Common.{rules}
use Rattle.ak_labor.specs.Calls.{IsFault}
use Rattle.ak_exec.specs.Asks.{reply_is, IsNoMemory}
use Rattle.ak_exec.specs.Steps.{rest_is}
use Rattle.ak_exec.proofs.Asking.{paused_returns, resumed_running, left_fewer, call_faults, unmade, stops_here, stops_behind}
use Rattle.ak_exec.proofs.asks.go_on.Goals as goal

pub returns-in_err-answer-clause-fault : goal.returns-in_err-answer-clause-fault
returns-in_err-answer-clause-fault g c fault =
    let failed : IsFault c.ask_pool.result = search rules
    in call_faults c.args.program.now (g.P.Port.asked c.args.port.now) (g.P.Port.asked c.ask_pool.new.port) (g.P.Port.replies c.args.port.now)
    (g.P.Port.replies c.ask_pool.new.port) c.args.ask (rest_is c.args.parts.now c.args.rest) c.args.parts.now.plain reply_is c.ask_pool.result
    c.ask_pool.ensures.asked failed c.requires.running.opened

pub returns-in_err-answer-clause-memory : goal.returns-in_err-answer-clause-memory
returns-in_err-answer-clause-memory g c short =
    let failed : IsNoMemory c.ask_pool.result = search rules
    in let same = unmade c.args.ask reply_is (g.P.Port.asked c.args.port.now) (g.P.Port.asked c.ask_pool.new.port) (g.P.Port.replies c.args.port.now)
    (g.P.Port.replies c.ask_pool.new.port) c.ask_pool.result c.ask_pool.ensures.asked failed
    in stops_here c.args.program.now (g.P.Port.asked c.args.port.now) (g.P.Port.asked c.ask_pool.new.port) (g.P.Port.replies c.args.port.now)
    (g.P.Port.replies c.ask_pool.new.port) _ c.requires.running.opened same.0 same.1

pub resume-requires-clause-returns : goal.resume-requires-clause-returns
resume-requires-clause-returns g c =
    paused_returns c.args.program.now.procs c.args.ask c.in_ok-answer.answer (rest_is c.args.parts.now c.args.rest) c.args.parts.now.plain
    c.in_ok-answer.ensures.answers c.requires.running.held

pub returns-in_err-progress-clause-memory : goal.returns-in_err-progress-clause-memory
returns-in_err-progress-clause-memory g c short =
    stops_behind c.args.program.now (g.P.Port.asked c.args.port.now) (g.P.Port.asked c.ask_pool.new.port) (g.P.Port.replies c.args.port.now)
    (g.P.Port.replies c.ask_pool.new.port) c.args.ask c.in_ok-answer.answer (rest_is c.args.parts.now c.args.rest) c.args.parts.now.plain
    c.in_ok-answer.ensures.answers c.requires.running.opened c.in_ok-answer.ensures.asked.0 c.in_ok-answer.ensures.asked.1

pub returns-clause-running : goal.returns-clause-running
returns-clause-running g c =
    resumed_running c.args.program.now.procs (g.P.Port.askers c.args.port.now) (g.P.Port.askers c.ask_pool.new.port) c.args.parts.now c.resume.new.parts
    c.args.ask c.in_ok-answer.answer c.args.rest c.in_ok-progress.progress (g.P.Port.asked c.args.port.now) (g.P.Port.asked c.ask_pool.new.port)
    (g.P.Port.replies c.args.port.now) (g.P.Port.replies c.ask_pool.new.port) c.requires.running c.in_ok-answer.ensures.answers
    c.in_ok-answer.ensures.asked.0 c.in_ok-answer.ensures.asked.1 c.ask_pool.ensures.askers c.in_ok-progress.ensures.fits c.in_ok-progress.ensures.told
    c.in_ok-progress.ensures.runs

pub returns-clause-fewer : goal.returns-clause-fewer
returns-clause-fewer g c =
    left_fewer c.in_ok-answer.answer (rest_is c.args.parts.now c.args.rest) c.args.parts.now.plain c.resume.new.parts c.in_ok-progress.progress
    c.in_ok-progress.ensures.runs
