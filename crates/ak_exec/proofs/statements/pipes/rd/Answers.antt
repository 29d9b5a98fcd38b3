use Rattle.ak_machine.specs.Deferred.{with_ivar}
use Rattle.ak_state.proofs.Errors.{some_grown}
use Rattle.ak_state.proofs.Fitting.{ivar_grows}
use Rattle.ak_exec.proofs.Piped.{read_goes}
use Rattle.ak_exec.proofs.statements.pipes.rd.Goals as goal

pub read-requires-clause-fits : goal.read-requires-clause-fits
read-requires-clause-fits c =
    let s = c.args.parts.now.plain
    in let f = c.requires.fits
    in rw c.in_ok-result.ensures.fresh (some_grown s (with_ivar s) f (ivar_grows f.program s f.fits))

pub returns : goal.returns
returns c =
    read_goes c.args.ctx c.args.r c.args.p c.args.proc c.args.eof c.args.args.now c.args.eof_args.now c.args.parts.now c.fresh.new.self
    c.read.new.self c.args.vals.now c.push.new.self c.in_ok-values.values c.in_ok-eof_values.eof_values c.pipe_at-pipe.result c.in_ok-result.result
    c.pipe_at-pipe.ensures.name c.in_ok-values.ensures c.in_ok-eof_values.ensures c.in_ok-result.ensures.fresh c.in_ok-result.ensures.number
    c.in_ok-result.ensures.own c.in_ok-read.ensures c.in_ok-push.ensures.ok
