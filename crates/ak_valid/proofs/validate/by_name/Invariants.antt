use Rattle.std.proofs.Common.{take}
use Rattle.ak_valid.specs.Firsts.{AreFirsts}
use Rattle.ak_valid.proofs.validate.by_name.Given as goal

abbrev pub invariant-loop-proc : goal.invariant-loop-proc
invariant-loop-proc l = AreFirsts l.named (take l.proc-index l.procs)
