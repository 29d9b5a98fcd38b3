use Rattle.std.proofs.Common.{◌≡◌, drop}
use Rattle.ak_cells.specs.Names.{name_in}
use Rattle.ak_machine.specs.Job.{run_lines}
use Rattle.ak_machine.specs.Mapped.{ret_mapped}
use Rattle.ak_state.specs.Reads.{named}
use Rattle.ak_exec.specs.Typed.{IsUnderWay}
use Rattle.ak_holders.specs.Returns.{LinesReturn}
use Rattle.ak_exec.proofs.job.run_lines.Given as goal

-- what is left comes to what all come to
abbrev pub invariant-loop-k : goal.invariant-loop-k
invariant-loop-k l =
    record {
      way : IsUnderWay l.program.procs l.parts.plain (named l.parts l.vals) l.running.ctx (ret_mapped (name_in l.parts.names) l.running.ret) (drop l.k l.lines);
      returns : LinesReturn l.running.ctx (ret_mapped (name_in l.parts.names) l.running.ret) (drop l.k l.lines) l.parts.plain (named l.parts l.vals);
      runs : run_lines l.running.ctx (ret_mapped (name_in l.initial.parts.names) l.running.ret) l.lines l.initial.parts.plain
          (named l.initial.parts l.initial.vals) ≡ run_lines l.running.ctx (ret_mapped (name_in l.parts.names) l.running.ret) (drop l.k l.lines) l.parts.plain
          (named l.parts l.vals);
    }
