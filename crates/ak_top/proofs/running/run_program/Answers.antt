use Rattle.ak_top.proofs.Headlines.{runs_to}
use Rattle.ak_top.proofs.running.run_program.Goals as goal

pub returns-in-Ok-clause-ran : goal.returns-in-Ok-clause-ran
returns-in-Ok-clause-ran g c =
    runs_to c.args.config c.args.bytes.now c.requires.program.script c.args.program c.in-Ok.ran.trace c.in-Ok.ran.history
    c.requires.program.is_script c.requires.program.program_is c.requires.askers
    c.in-Ok.ensures.ran c.in-Ok.ensures.legal c.in-Ok.ensures.once
