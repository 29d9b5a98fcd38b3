-- What contracts see of a world.
use Rattle.std.specs.Prelude.{ℕ, ◌+◌, ◌≡◌, ◌≤◌, List, [], ◌⊎◌, false, Option, Some, None, IsSome, IfSome}
use Rattle.std.specs.Option.{option_map}
use Rattle.ak_rings.specs.declared.job.Job.{Job}
use Rattle.ak_frames.specs.declared.frame.Task.{Task}
use Rattle.ak_labor.specs.declared.ask.Ask.{Ask}
use Rattle.ak_labor.specs.Calls.{Reply}
use Rattle.ak_labor.specs.declared.config.Config.{Config}
use Rattle.ak_frames.specs.declared.frame.Ret.TheVariants.{Drop}
use Rattle.ak_rings.specs.Queues.{pick_of}
use Rattle.ak_cells.specs.Names.{name_in}
use Rattle.ak_machine.specs.declared.flow.Flow.{Flow}
use Rattle.ak_machine.specs.State.{State, initial_state}
use Rattle.ak_machine.specs.Deferred.{called}
use Rattle.ak_machine.specs.Mapped.{job_mapped}
use Rattle.ak_machine.specs.Job.{Over, run_job}
use Rattle.ak_state.specs.Seen.{Seen, without_pick}
use Rattle.ak_program.specs.Programs.{NumProgram}
use Rattle.ak_exec.specs.Asks.{Leads, FaultsFrom, StopsFrom}
use Rattle.ak_state.specs.Errors.{after_is}
use Rattle.ak_state.specs.Drawn.{drawn}
use Rattle.ak_state.specs.Fits.{JobFits, Fits}
use Rattle.ak_holders.specs.Held.{HeldBeside}
use Rattle.ak_ledger.specs.Answers.{AnswersAreOwed, hand_of}

-- the program and the settings, the plain state, the job that was picked and has not run, and how many jobs were picked
pub record Worldly : Type 0 where
  pub program : NumProgram
  pub config : Config
  pub plain : State
  pub picked : Option (Job Task)
  pub ran : ℕ

-- the world that parts stand for, where these numbers are in the job that was picked
abbrev pub world_of : NumProgram → Config → Seen → Option (Job Task) → ℕ → Worldly
world_of program config s picked ran =
    record { program = program; config = config; plain = s.plain; picked = option_map (job_mapped (name_in s.names)) picked; ran = ran }

-- at most 16 askers, and none where no procedure serves them
pub record ServesAskers (program : NumProgram) (askers : ℕ) : Type 0 where
  pub few : askers ≤ 16
  pub served : (askers ≡ 0) ⊎ IsSome program.ask

-- all that a world holds fits its program; a cycle has room for a job; a procedure serves the askers;
-- each name has at most one holder; and each request that has no answer has one to come at the most
pub record IsWhole (w : Worldly) : Type 0 where
  pub limit : 1 ≤ w.config.limit
  pub askers : ServesAskers w.program w.config.askers
  pub fits : Fits w.program.procs w.plain
  pub picked : IfSome w.picked (JobFits w.program.procs (drawn w.plain))
  pub held : HeldBeside w.program.procs w.picked w.plain
  pub owed : AnswersAreOwed (hand_of w.picked) w.plain

-- how many jobs were picked, with one more where there is a pick
abbrev pub ran_with : {A : Type 0} → Option A → ℕ → ℕ
ran_with None ran = ran
ran_with (Some job) ran = ran + 1

-- the next job has left its queue, and waits to run
abbrev pub with_pick : Worldly → Worldly
with_pick w =
    record w { plain = without_pick w.plain; picked = pick_of w.plain.queues; ran = ran_with (pick_of w.plain.queues) w.ran }

-- a world whose state is another
abbrev pub with_state : State → Worldly → Worldly
with_state s w = record w { plain = s }

-- the call of `main` waits in the root monitor, at normal priority, and nothing else is there
abbrev pub first_state : NumProgram → Config → State
first_state program config = called (record { mon = 0; low = false }) program.main [] Drop (initial_state config.limit config.askers)

-- the job that was picked comes to its end with this flow and state, with its calls on the pool
abbrev pub JobLeads : Worldly → Flow → State → List Ask → List Ask → List Reply → List Reply → Type 0
JobLeads w flow s asked asked' replies replies' =
    IfSome w.picked
    (λ job. Leads w.program asked replies (run_job w.program.procs job w.plain) asked' replies' (Over (after_is flow s)))

-- the last of its calls failed
abbrev pub JobFaults : Worldly → List Ask → List Ask → List Reply → List Reply → Type 0
JobFaults w asked asked' replies replies' =
    IfSome w.picked (λ job. FaultsFrom w.program asked replies (run_job w.program.procs job w.plain) asked' replies')

-- there was no memory on its way
abbrev pub JobStops : Worldly → List Ask → List Ask → List Reply → List Reply → Type 0
JobStops w asked asked' replies replies' =
    IfSome w.picked (λ job. StopsFrom w.program asked replies (run_job w.program.procs job w.plain) asked' replies')
