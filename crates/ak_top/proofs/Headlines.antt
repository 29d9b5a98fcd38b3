-- The headline from what its parts give.
use Rattle.std.proofs.Common.{◌≡◌, ℕ, List, subst}
use Rattle.ak_trace.specs.declared.entry.Entry.{Entry}
use Rattle.ak_history.specs.declared.event.Event.{Event}
use Rattle.ak_history.specs.Legal.{Legal}
use Rattle.ak_history.specs.Scheduler.{asks, replies}
use Rattle.ak_script.specs.declared.script.Proc.{Proc}
use Rattle.ak_program.specs.Programs.{NumProgram}
use Rattle.ak_labor.specs.declared.config.Config.{Config}
use Rattle.ak_machine.specs.Run.{run_of}
use Rattle.ak_cycle.specs.Runs.{HasEndedWith}
use Rattle.ak_history_laws.specs.Once.{StartOnce}
use Rattle.ak_laws.proofs.ReadingRun.{reads_get_what_was_written}
use Rattle.ak_crew.specs.Crews.{HasRun}
use Rattle.ak_exec.specs.Worlds.{ServesAskers}
use Rattle.ak_exec.proofs.Whole.{none_served}
use Rattle.ak_top.specs.Headline.{IsScript, RunsTo, program_of}

-- a run over a crew
pub runs_to : (config : Config) (bytes : List ℕ) (script : List Proc) (program : NumProgram) (trace : List Entry) (history : List Event)
    → IsScript bytes script → program ≡ program_of script → config.askers ≡ 0 → HasRun program config trace (asks history) (replies config.askers history)
    → Legal config.threads config.askers history → StartOnce trace history → RunsTo config bytes trace history
runs_to config bytes script program trace history is_script program_is none ran legal once =
    let ended : HasEndedWith (run_of (program_of script) config (replies config.askers history)) trace (asks history) ran.waits =
    subst (λ (p : NumProgram). HasEndedWith (run_of p config (replies config.askers history)) trace (asks history) ran.waits)
    program_is ran.ended in
    record {
      script = script;
      is_script = is_script;
      serves = none_served (program_of script) config.askers none;
      legal = legal;
      ended = ended.ended;
      trace_is = ended.trace_is;
      asks_are = ended.asks_are;
      once = once;
      laws = ran.laws;
      reads = λ p. reads_get_what_was_written (program_of script) config (replies config.askers history) p;
    }
