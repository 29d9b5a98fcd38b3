use Rattle.std.proofs.Common.{◌≡◌, flat_map, take}
use Rattle.ak_let_text.specs.Words.{proc_bytes}
use Rattle.ak_let_text.proofs.writer.write_script.Given as goal

abbrev pub invariant-loop-proc : goal.invariant-loop-proc
invariant-loop-proc l = l.writer ≡ flat_map proc_bytes (take l.proc-index l.procs)
