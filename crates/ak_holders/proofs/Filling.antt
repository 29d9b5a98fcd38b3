-- In each run a name is filled once.
use Rattle.std.proofs.Common.{ℕ, List, [], Bool, refl}
use Rattle.std.proofs.lemmas.Bool.{eq-eqb}
use Rattle.ak_labor.specs.Calls.{Reply}
use Rattle.ak_labor.specs.declared.config.Config.{Config}
use Rattle.ak_trace.specs.declared.entry.Entry.TheVariants as entry
use Rattle.ak_program.specs.Programs.{NumProgram, ProgramIsSound}
use Rattle.ak_machine.specs.State.{State}
use Rattle.ak_machine.specs.Run.{Machine, machine_after}
use Rattle.ak_holders.specs.Fills.{is_fill_of, is_in_join, FillsOnce}
use Rattle.ak_holders.specs.Told.{is_gone, Told}
use Rattle.ak_holders.specs.Held.{HeldBy}
use Rattle.ak_holders.proofs.Told.{none_behind, filled_once}
use Rattle.ak_holders.proofs.Runs.{let_go, run_held}

told_fills : (known : ℕ → Bool) (s : State) → Told known s.cells.ivars s.trace → FillsOnce s.trace
told_fills known s x = record {
  filled = filled_once known s.cells.ivars s.trace x;
  joined = λ before after r gone placed. (
    none_behind is_gone is_fill_of s.trace before after (entry.Join r gone) gone placed (eq-eqb gone gone refl) x.gone_unfilled,
    none_behind is_gone is_in_join s.trace before after (entry.Join r gone) gone placed (eq-eqb gone gone refl) x.gone_unjoined,
  );
  unjoined = λ before after i v placed.
      none_behind is_fill_of is_in_join s.trace before after (entry.Fill i v) i placed (eq-eqb i i refl) x.filled_unjoined;
}

-- the law
pub fills_once : (program : NumProgram) → ProgramIsSound program.procs program.main program.ask → (config : Config) (replies : List Reply)
    → FillsOnce (machine_after program config replies).state.trace
fills_once program sound config replies =
    let m : Machine = machine_after program config replies
    in let f : HeldBy program.procs [] m.state = let_go program.procs m.place m.state (run_held program sound config replies)
    in told_fills f.names.known m.state f.held.told
