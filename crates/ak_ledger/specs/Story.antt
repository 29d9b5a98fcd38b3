-- A request that comes and is answered.
use Rattle.std.specs.Prelude.{ℕ, pos, List, [], ◌∷◌, None, Some}
use Rattle.ak_labor.specs.Arrived.{Arrived}
use Rattle.ak_labor.specs.Calls.{Reply, Drained}
use Rattle.ak_labor.specs.declared.config.Config.{Config}
use Rattle.ak_script.specs.declared.script.Kind.TheVariants as kind
use Rattle.ak_program.specs.Programs.{NumProgram}
use Rattle.ak_program.specs.declared.program.NumStatement.{NumStatement}
use Rattle.ak_program.specs.declared.statement.NumAtom.TheVariants.{Local}
use Rattle.ak_program.specs.declared.statement.NumStmt.TheVariants.{Ret}
use Rattle.ak_machine.specs.State.{State}
use Rattle.ak_machine.specs.Run.{machine_after}
use Rattle.ak_ledger.specs.Answers.{answers_to, owed_to}

-- `ask` returns the number that it is called with
abbrev pub returns_it : NumStatement
returns_it = record { line = 0; prefix = None; stmt = Ret (Local 0) }

abbrev pub echo : NumProgram
echo = record {
  procs =
      record { name = 0; line = 0; params = []; body = [] }
      ∷ record { name = 1; line = 0; params = record { name = 0; kind = kind.Num } ∷ []; body = returns_it ∷ [] }
      ∷ [];
  main = 0;
  ask = Some 1;
}

abbrev pub settings : Config
settings = record { threads = 1; limit = 9; jobs = 9; askers = 1 }

abbrev pub nothing : Arrived
nothing = record { works = []; requests = []; left = 1 }

abbrev pub one_request : Arrived
one_request = record { works = []; requests = (0, pos 4) ∷ []; left = 1 }

abbrev pub state_after : List Reply → State
state_after replies = (machine_after echo settings replies).state

-- how many frames answer request 0, and how many answers it is owed; and the same of request 1
abbrev pub counted : State → List ℕ
counted s = answers_to 0 [] s ∷ owed_to 0 s ∷ answers_to 1 [] s ∷ owed_to 1 s ∷ []

-- before it comes; when it has come and `ask` has run, while its answer waits in the queue; and when the pool was asked to
-- hand the answer out
abbrev pub before_it : State
before_it = state_after (Drained nothing ∷ [])

abbrev pub answer_waits : State
answer_waits = state_after (Drained nothing ∷ Drained one_request ∷ [])

abbrev pub answer_goes : State
answer_goes = state_after (Drained nothing ∷ Drained one_request ∷ Drained nothing ∷ [])
