use Rattle.std.proofs.Common.{◌≡◌, [], take, drop, map}
use Rattle.ak_valid.specs.Numbered.{numbered_proc, proc_names}
use Rattle.ak_valid.specs.Faults.{first_fault, procs_lines}
use Rattle.ak_valid.proofs.validate.number_procs.Given as goal

abbrev pub invariant-loop-proc : goal.invariant-loop-proc
invariant-loop-proc l = record {
  faults : first_fault (procs_lines l.named l.seen (drop l.proc-index l.procs)) ≡ first_fault (procs_lines l.named [] l.procs);
  so_far : l.numbered ≡ map (numbered_proc (proc_names l.named)) (take l.proc-index l.procs);
}
