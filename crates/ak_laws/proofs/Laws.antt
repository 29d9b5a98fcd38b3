-- The trace of every run that has ended obeys the laws.
use Rattle.std.proofs.Common.{◌≡◌, List}
use Rattle.ak_labor.specs.Calls.{Reply}
use Rattle.ak_program.specs.Programs.{NumProgram, ProgramIsSound}
use Rattle.ak_labor.specs.declared.config.Config.{Config}
use Rattle.ak_machine.specs.Run.{HasEnded, run_of}
use Rattle.ak_holders.specs.Fills.{FillsOnce}
use Rattle.ak_laws.specs.Jobs.{JobsInOrder, CyclesAreLimited}
use Rattle.ak_laws.specs.Laws.{ObeysLaws}
use Rattle.ak_laws.proofs.Ends.{ends_once}
use Rattle.ak_laws.proofs.Order.{runs_in_order}
use Rattle.ak_laws.proofs.Jobs.{in_order_obeys}
use Rattle.ak_laws.proofs.Served.{requests_are_served}
use Rattle.ak_laws.proofs.RoutingRun.{errors_go_up}

pub jobs_of_run : (program : NumProgram) (config : Config) (replies : List Reply) → (run_of program config replies).outcome ≡ HasEnded
    → JobsInOrder (run_of program config replies).trace × CyclesAreLimited config.limit (run_of program config replies).trace
jobs_of_run program config replies ended =
    in_order_obeys config.limit (run_of program config replies).trace (runs_in_order program config replies ended)

pub run_obeys : (program : NumProgram) → ProgramIsSound program.procs program.main program.ask → (config : Config) (replies : List Reply)
    → (run_of program config replies).outcome ≡ HasEnded → FillsOnce (run_of program config replies).trace
    → ObeysLaws config.limit (run_of program config replies).trace
run_obeys program sound config replies ended fills =
    let jobs : JobsInOrder (run_of program config replies).trace × CyclesAreLimited config.limit (run_of program config replies).trace =
    jobs_of_run program config replies ended
    in record {
      ends_once = ends_once program config replies ended;
      jobs_in_order = jobs.0;
      cycles_are_limited = jobs.1;
      fills_once = fills;
      requests_are_served = requests_are_served program config replies ended;
      errors_go_up = errors_go_up program sound config replies ended;
    }
