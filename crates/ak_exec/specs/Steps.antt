-- What the steps of a job mean.
use Rattle.std.specs.Prelude.{ℤ, ◌≡◌, ◌<◌, ◌-◌, ◌^◌, List, length, Option, Some, None}
use Rattle.ak_base.specs.declared.number.Ctx.{Ctx}
use Rattle.ak_labor.specs.declared.ask.Ask.{Ask}
use Rattle.ak_labor.specs.declared.ask.Ask.TheVariants as ask
use Rattle.ak_cells.specs.Names.{name_in}
use Rattle.ak_frames.specs.declared.value.Value.{Value}
use Rattle.ak_frames.specs.declared.frame.Ret.{Ret}
use Rattle.ak_trace.specs.declared.entry.Entry.{Entry}
use Rattle.ak_program.specs.declared.program.NumStatement.{NumStatement}
use Rattle.ak_program.specs.declared.statement.NumStmt.{NumStmt}
use Rattle.ak_machine.specs.State.{State}
use Rattle.ak_machine.specs.Number.{Computed, Gives, Overflows, DividesByZero}
use Rattle.ak_machine.specs.Mapped.{value_mapped}
use Rattle.ak_machine.specs.Effect.{Effect}
use Rattle.ak_machine.specs.Effect as effect
use Rattle.ak_machine.specs.Statement.{effect_of}
use Rattle.ak_machine.specs.Job.{Rest, Progress, Over, Asking, run_lines}
use Rattle.ak_state.specs.Seen.{Seen}
use Rattle.ak_state.specs.Reads.{named, ret_named}
use Rattle.ak_state.specs.Errors.{after_is, Ends}
use Rattle.ak_exec.specs.declared.arithmetic.Given.{Given}
use Rattle.ak_exec.specs.declared.arithmetic.Given.TheVariants as given
use Rattle.ak_exec.specs.declared.job.Halt.{Halt}
use Rattle.ak_exec.specs.declared.job.Halt.TheVariants as halt
use Rattle.ak_exec.specs.declared.job.Rest.{Rest as LeftOver}
use Rattle.ak_exec.specs.declared.job.Progress.{Progress as Came}
use Rattle.ak_exec.specs.declared.job.Progress.TheVariants as came
use Rattle.ak_exec.specs.declared.statement.Step.{Step}
use Rattle.ak_exec.specs.declared.statement.Step.TheVariants.{Goes, Raises, Returns, Stops}
use Rattle.ak_exec.specs.declared.statement.Step.TheVariants as step

-- the number of a work that was handed in, or of the helper that is asked for
abbrev pub IsNumbered : Ask → State → Type 0
IsNumbered (ask.Submit id work helper) s = id < 2 ^ 32 - 1
IsNumbered (ask.HelperNew h) s = (h ≡ length s.helpers) × (h < 2 ^ 32 - 1)
IsNumbered a s = Unit {0}

-- a step has this effect: it renames nothing; where it raises, returns or stops, the state is as before; where it ends the run, the
-- trace tells so; and where it asks, the number is one that may be drawn
abbrev pub Takes : Effect → Step → Seen → Seen → List Value → Type 0
Takes e Goes old new vals = (e ≡ effect.Goes new.plain (named new vals)) × (new.names ≡ old.names)
Takes e (Raises num) old new vals = (e ≡ effect.Raises num) × (new ≡ old)
Takes e (step.Ends flow) old new vals = (e ≡ effect.Ends (after_is flow new.plain)) × Ends flow new.plain.trace
Takes e Stops old new vals = (e ≡ effect.Stops) × (new ≡ old)
Takes e (step.Asks a) old new vals = (e ≡ effect.Asks a new.plain (named new vals)) × (new.names ≡ old.names) × IsNumbered a new.plain
Takes e (Returns v) old new vals = (e ≡ effect.Returns (value_mapped (name_in new.names) v)) × (new ≡ old)

-- a statement of a job, from a state and the job's values to others
abbrev pub Does : Ctx → NumStmt → Seen → List Value → Step → Seen → List Value → Type 0
Does ctx st old vals step new vals' = Takes (effect_of ctx st old.plain (named old vals)) step old new vals'

-- what an operation gives, as the code says it
abbrev pub given_is : Given → Computed
given_is (given.Num z) = Gives z
given_is given.Overflow = Overflows
given_is given.ZeroDivisor = DividesByZero

abbrev pub given_by : Option ℤ → Given
given_by (Some z) = given.Num z
given_by None = given.Overflow

-- what is left of a job behind a line: the other lines, or nothing where it is over or has asked
abbrev pub progress_of : Option Halt → Ctx → Ret → List NumStatement → State → List Value → Progress
progress_of None ctx ret lines s vals = run_lines ctx ret lines s vals
progress_of (Some (halt.Over flow)) ctx ret lines s vals = Over (after_is flow s)
progress_of (Some (halt.Asking a)) ctx ret lines s vals =
    Asking a s (record { ctx = ctx; ret = ret; vals = vals; lines = lines })

-- what is left of a job that asked, with surviving names
abbrev pub rest_is : Seen → LeftOver → Rest
rest_is s rest =
    record { ctx = rest.running.ctx; ret = ret_named s rest.running.ret; vals = named s rest.vals; lines = rest.lines.now }

-- how far a job came, as the code says it
abbrev pub progress_is : Seen → Came → Progress
progress_is s (came.Over flow) = Over (after_is flow s.plain)
progress_is s (came.Asking a rest) = Asking a s.plain (rest_is s rest)

-- the trace of a job that is over tells its end
abbrev pub HaltTells : Halt → List Entry → Type 0
HaltTells (halt.Over flow) trace = Ends flow trace
HaltTells (halt.Asking a) trace = Unit {0}

abbrev pub ProgressTells : Came → List Entry → Type 0
ProgressTells (came.Over flow) trace = Ends flow trace
ProgressTells (came.Asking a rest) trace = Unit {0}
