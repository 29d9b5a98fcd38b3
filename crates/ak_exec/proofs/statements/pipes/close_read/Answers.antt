use Rattle.ak_exec.proofs.Piped.{close_read_goes}
use Rattle.ak_exec.proofs.statements.pipes.close_read.Goals as goal

pub returns : goal.returns
returns c =
    close_read_goes c.args.ctx c.args.p c.pipe_at-pipe.result c.args.parts.now c.close_read.new.self c.args.vals.now
    c.pipe_at-pipe.ensures.name c.in_ok-close_read.ensures
