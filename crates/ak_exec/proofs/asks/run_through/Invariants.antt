use Rattle.std.proofs.Common.{◌≡◌, ◌≤◌}
use Rattle.ak_machine.specs.Job.{run_job}
use Rattle.ak_state.specs.Reads.{job_named}
use Rattle.ak_exec.specs.Asks.{IsRunning, lines_left, Leads, IsQuietSince}
use Rattle.ak_exec.specs.Steps.{progress_is}
use Rattle.ak_exec.proofs.asks.run_through.Given as goal

-- the job came so far behind the calls that were made, and the machine with it
abbrev pub invariant-loop-progress : goal.invariant-loop-progress
invariant-loop-progress g l =
    record {
      running : IsRunning l.program.procs (g.P.Port.askers l.port) l.parts l.progress (g.P.Port.asked l.port) (g.P.Port.replies l.port);
      leads : Leads l.program (g.P.Port.asked l.fn.port) (g.P.Port.replies l.fn.port)
          (run_job l.program.procs (job_named l.fn.parts l.fn.job) l.fn.parts.plain) (g.P.Port.asked l.port) (g.P.Port.replies l.port)
          (progress_is l.parts l.progress);
      quiet : IsQuietSince (g.P.Port.askers l.fn.port) (g.P.Port.replies l.fn.port) (g.P.Port.replies l.port);
      threads : g.P.Port.threads l.port ≡ g.P.Port.threads l.fn.port;
      askers : g.P.Port.askers l.port ≡ g.P.Port.askers l.fn.port;
      turns : g.P.Port.turns l.port ≤ g.P.Port.turns l.fn.port;
      waits : g.P.Port.waits l.port ≡ g.P.Port.waits l.fn.port;
    }

abbrev pub decreases-loop-progress : goal.decreases-loop-progress
decreases-loop-progress g l = lines_left l.progress
