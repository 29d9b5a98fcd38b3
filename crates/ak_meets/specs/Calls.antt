-- The calls of a run: those that it wanted, one after another. Own.
use Rattle.std.specs.Prelude.{ℕ, List, [], ◌∷◌, ◌++◌, ◌≡◌, ◌⊎◌, Option, Some, map, take, length}
use Rattle.ak_labor.specs.declared.ask.Ask.{Ask}
use Rattle.ak_labor.specs.Calls.{Reply}
use Rattle.ak_history.specs.Events.{numbers_below}
use Rattle.ak_program.specs.Programs.{NumProgram}
use Rattle.ak_labor.specs.declared.config.Config.{Config}
use Rattle.ak_machine.specs.Run.{Run, HasEnded, Wants, IsWrong, run_of}
use Rattle.ak_meets.specs.Meets.{wanted}

-- behind these calls the run wants the reply to one more
pub record WantsBehind (run : Run) (calls : List Ask) : Type 0 where
  pub next : Ask
  pub wants : run.outcome ≡ Wants next
  pub asks : run.asks ≡ calls ++ next ∷ []

-- it has ended with these calls
pub record EndsWith (run : Run) (calls : List Ask) : Type 0 where
  pub ended : run.outcome ≡ HasEnded
  pub asks : run.asks ≡ calls

-- what the run on the first of these replies wants
abbrev pub wanted_by : NumProgram → Config → List Reply → ℕ → Option Ask
wanted_by program config replies k = wanted (run_of program config (take k replies)).outcome

-- each of the first n replies fits the call that it answers
abbrev pub AllFit : NumProgram → Config → List Reply → ℕ → Type 0
AllFit program config replies n = (run_of program config (take n replies)).outcome ≡ IsWrong → ⊥

-- the run on the first n replies has made n calls, each of which it wanted after the replies before, and wants one more or has ended
pub record HasCalled (program : NumProgram) (config : Config) (replies : List Reply) (n : ℕ) : Type 0 where
  pub calls : List Ask
  pub many : length calls ≡ n
  pub agree : map (wanted_by program config replies) (numbers_below n) ≡ map Some calls
  pub behind : WantsBehind (run_of program config (take n replies)) calls ⊎ EndsWith (run_of program config (take n replies)) calls
