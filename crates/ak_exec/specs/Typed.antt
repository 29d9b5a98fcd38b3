-- Lines of a procedure whose values are of their kinds, and what a statement leaves.
use Rattle.std.specs.Prelude.{ℤ, ◌<◌, List, [], ◌∷◌, ◌++◌, length}
use Rattle.ak_base.specs.declared.number.Ctx.{Ctx}
use Rattle.ak_labor.specs.declared.ask.Ask.{Ask}
use Rattle.ak_labor.specs.declared.ask.Ask.TheVariants as ask
use Rattle.ak_frames.specs.declared.value.Value.{Value}
use Rattle.ak_frames.specs.declared.value.Value.TheVariants as value
use Rattle.ak_frames.specs.declared.frame.Ret.{Ret}
use Rattle.ak_script.specs.declared.script.Kind.{Kind}
use Rattle.ak_program.specs.declared.program.NumStatement.{NumStatement}
use Rattle.ak_program.specs.declared.program.NumProc.{NumProc}
use Rattle.ak_program.specs.declared.statement.NumStmt.{NumStmt}
use Rattle.ak_program.specs.Programs.{num_binds, LinesAreSound}
use Rattle.ak_machine.specs.State.{State}
use Rattle.ak_machine.specs.Effect.{Effect, Goes, Returns, Ends, Asks}
use Rattle.ak_machine.specs.Job.{Rest}
use Rattle.ak_state.specs.Drawn.{Drawn, drawn, More}
use Rattle.ak_state.specs.Fits.{ValsFit, kinds_of, RetFits, Fits}
use Rattle.ak_state.specs.Seen.{Seen}
use Rattle.ak_exec.specs.Steps.{IsNumbered, rest_is}
use Rattle.ak_exec.specs.declared.job.Halt.{Halt}
use Rattle.ak_exec.specs.declared.job.Halt.TheVariants as halt
use Rattle.ak_exec.specs.declared.job.Progress.{Progress as Came}
use Rattle.ak_exec.specs.declared.job.Progress.TheVariants as came

-- the kinds of the locals behind a statement
abbrev pub kinds_after : List Kind → NumStmt → List Kind
kinds_after kinds s = kinds ++ kinds_of (num_binds s)

-- values for the lines that are left
pub record AreTyped (program : List NumProc) (n : Drawn) (vals : List Value) (lines : List NumStatement) : Type 0 where
  pub kinds : List Kind
  pub vals_fit : ValsFit n kinds vals
  pub sound : LinesAreSound program kinds lines

-- a number, or a deferred that was drawn
abbrev pub IsReturned : Drawn → Value → Type 0
IsReturned n (value.Num z) = Unit {0}
IsReturned n (value.Ivar i) = i < n.ivars
IsReturned n (value.Def i) = i < n.ivars
IsReturned n other = ⊥

-- the values of a job that asked, once it has the reply: a helper is bound beside whether it was granted
abbrev pub AskedFit : Ask → Drawn → List Kind → List Value → Type 0
AskedFit (ask.HelperNew h) n kinds vals = (z : ℤ) → ValsFit n kinds (vals ++ value.Helper h ∷ value.Num z ∷ [])
AskedFit a n kinds vals = ValsFit n kinds vals

-- what a statement leaves, where so much was drawn before: nothing is gone, the values behind it have these kinds, and all of the
-- state fits
abbrev pub EffectFits : List NumProc → Drawn → List Kind → Effect → Type 0
EffectFits program n kinds (Goes s vals) = More n (drawn s) × ValsFit (drawn s) kinds vals × Fits program s
EffectFits program n kinds (Returns v) = IsReturned n v
EffectFits program n kinds (Ends after) = Fits program after.state
EffectFits program n kinds (Asks a s vals) = More n (drawn s) × AskedFit a (drawn s) kinds vals × Fits program s
EffectFits program n kinds other = Unit {0}

-- a job that runs the lines
pub record IsUnderWay (program : List NumProc) (s : State) (vals : List Value) (ctx : Ctx) (ret : Ret) (lines : List NumStatement) : Type 0 where
  pub monitor : ctx.mon < length s.monitors
  pub typed : AreTyped program (drawn s) vals lines
  pub ret_fits : RetFits (drawn s) ret
  pub fits : Fits program s

-- a job that asked, and what is left of it
pub record IsPaused (program : List NumProc) (s : State) (a : Ask) (rest : Rest) : Type 0 where
  pub monitor : rest.ctx.mon < length s.monitors
  pub kinds : List Kind
  pub vals_fit : AskedFit a (drawn s) kinds rest.vals
  pub sound : LinesAreSound program kinds rest.lines
  pub ret_fits : RetFits (drawn s) rest.ret
  pub fits : Fits program s
  pub numbered : IsNumbered a s

-- how far a job came: all of the state fits, and what is left of the job
abbrev pub ProgressFits : List NumProc → Seen → Came → Type 0
ProgressFits program s (came.Over flow) = Fits program s.plain
ProgressFits program s (came.Asking a rest) = IsPaused program s.plain a (rest_is s rest)

-- the same of a job that does not go on with its next line
abbrev pub HaltFits : List NumProc → State → List Value → Ctx → Ret → List NumStatement → Halt → Type 0
HaltFits program s vals ctx ret lines (halt.Over flow) = Fits program s
HaltFits program s vals ctx ret lines (halt.Asking a) = IsPaused program s a (record { ctx = ctx; ret = ret; vals = vals; lines = lines })
