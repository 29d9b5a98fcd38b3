use Rattle.std.specs.Prelude.{pos}
use Rattle.ak_cells.specs.Names.{name_in}
use Rattle.ak_frames.specs.declared.value.Value.TheVariants.{Num}
use Rattle.ak_machine.specs.Mapped.{ret_mapped}
use Rattle.ak_exec.proofs.Returned.{returned_grows}
use Rattle.ak_exec.proofs.job.run_lines.Goals as goal

pub returns-clause-fits : goal.returns-clause-fits
returns-clause-fits c =
    rw c.in_ok-returned.ensures
    (returned_grows c.args.program.now.procs (ret_mapped (name_in c.loop-k.parts.names) c.args.running.ret)
    (Num (pos 0)) c.loop-k.parts.plain c.loop-k.invariant.way.ret_fits c.loop-k.invariant.way.fits).fits
