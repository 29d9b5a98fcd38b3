-- A run under way is that of the program and the settings that its world holds.
use Rattle.std.proofs.Common.{◌≡◌, ℕ, List, Bool, subst, sym}
use Rattle.ak_labor.specs.declared.ask.Ask.{Ask}
use Rattle.ak_labor.specs.declared.config.Config.{Config}
use Rattle.ak_labor.specs.Calls.{Reply}
use Rattle.ak_program.specs.Programs.{NumProgram}
use Rattle.ak_machine.specs.Run.{run_of}
use Rattle.ak_exec.specs.Worlds.{Worldly}
use Rattle.ak_cycle.specs.Runs.{WantsLast, WantsNext}
use Rattle.ak_cycle.specs.Turns.{IsAt, IsServed, GoesOn, IsBrought}

-- what is said of a program and settings is said of those that are the same
of_same : (P : NumProgram → Config → Type 0) → (program program' : NumProgram) (config config' : Config) → program' ≡ program → config' ≡ config
    → P program' config' → P program config
of_same P program program' config config' p k h =
    subst (λ (c : Config). P program c) k (subst (λ (q : NumProgram). P q config') p h)

module _ (program : NumProgram) (config : Config) (w : Worldly) (asked : List Ask) (replies : List Reply) (waits : List ℕ) where
  pub at_own : IsAt program config w asked replies waits → IsAt w.program w.config w asked replies waits
  at_own h =
      of_same (λ p k. IsAt p k w asked replies waits) w.program program w.config config (sym h.run.program_is) (sym h.run.config_is) h

  pub served_own : IsServed program config w asked replies waits → IsServed w.program w.config w asked replies waits
  served_own h =
      of_same (λ p k. IsServed p k w asked replies waits) w.program program w.config config (sym h.run.program_is) (sym h.run.config_is) h

module _ (program program' : NumProgram) (config config' : Config) (p : program' ≡ program) (k : config' ≡ config) (asked : List Ask) (replies : List Reply)
    (waits : List ℕ) where
  pub goes_from : (on : Bool) (w : Worldly) → GoesOn on program' config' w asked replies waits → GoesOn on program config w asked replies waits
  goes_from on w h = of_same (λ q c. GoesOn on q c w asked replies waits) program program' config config' p k h

  pub brought_from : (on : Bool) (w : Worldly) → IsBrought on program' config' w asked replies waits → IsBrought on program config w asked replies waits
  brought_from on w h = of_same (λ q c. IsBrought on q c w asked replies waits) program program' config config' p k h

  pub last_from : WantsLast (run_of program' config' replies) asked replies waits → WantsLast (run_of program config replies) asked replies waits
  last_from h = of_same (λ q c. WantsLast (run_of q c replies) asked replies waits) program program' config config' p k h

  pub next_from : WantsNext (run_of program' config' replies) asked replies waits → WantsNext (run_of program config replies) asked replies waits
  next_from h = of_same (λ q c. WantsNext (run_of q c replies) asked replies waits) program program' config config' p k h
