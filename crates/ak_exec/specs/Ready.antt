-- What a statement needs of a job's values.
use Rattle.std.specs.Prelude.{◌≤◌, List, length, Option, Some, None}
use Rattle.ak_frames.specs.declared.value.Value.{Value}
use Rattle.ak_program.specs.declared.program.NumPrefix.{NumPrefix}
use Rattle.ak_program.specs.declared.program.NumPrefix.TheVariants.{If, Unless}
use Rattle.ak_program.specs.declared.statement.NumStmt.{NumStmt}
use Rattle.ak_program.specs.declared.statement.NumStmt.TheVariants as stmt
use Rattle.ak_machine.specs.State.{State}
use Rattle.ak_state.specs.Reads.{IsNumAt, IsDeferredAt, IsMonitorAt, IsThrottleAt, IsEventAt, IsBound, AreBound, AreDeferredsAt, AreChoicesAt, IsPipeAt, IsHelperAt}

-- the number of a prefix
abbrev pub IsTold : List Value → Option NumPrefix → Type 0
IsTold vals None = Unit {0}
IsTold vals (Some (If a)) = IsNumAt vals a
IsTold vals (Some (Unless a)) = IsNumAt vals a

-- what each statement needs
abbrev pub IsReady : State → List Value → NumStmt → Type 0
IsReady s vals (stmt.Set x a op b) = IsNumAt vals a × IsNumAt vals b
IsReady s vals (stmt.Print a) = IsNumAt vals a
IsReady s vals (stmt.Ivar i) = Unit {0}
IsReady s vals (stmt.Fill i a) = IsDeferredAt s vals i × IsNumAt vals a
IsReady s vals (stmt.Offer i a) = IsDeferredAt s vals i × IsNumAt vals a
IsReady s vals (stmt.Upon d proc args) = IsDeferredAt s vals d × AreBound vals args
IsReady s vals (stmt.Bind r d proc args) = IsDeferredAt s vals d × AreBound vals args
IsReady s vals (stmt.All r ds proc args) = (length ds ≤ 8) × AreDeferredsAt s vals ds × AreBound vals args
IsReady s vals (stmt.Any r ds) = AreDeferredsAt s vals ds
IsReady s vals (stmt.Choose r choices args) = AreChoicesAt s vals choices × AreBound vals args
IsReady s vals (stmt.Sched proc args) = AreBound vals args
IsReady s vals (stmt.Low proc args) = AreBound vals args
IsReady s vals (stmt.Yield r) = Unit {0}
IsReady s vals (stmt.Never r) = Unit {0}
IsReady s vals (stmt.After r n) = IsNumAt vals n
IsReady s vals (stmt.Event e r n) = IsNumAt vals n
IsReady s vals (stmt.Abort e) = IsEventAt vals e
IsReady s vals (stmt.Tick n) = IsNumAt vals n
IsReady s vals (stmt.Monitor m) = Unit {0}
IsReady s vals (stmt.Within m proc args) = IsMonitorAt s vals m × AreBound vals args
IsReady s vals (stmt.Detach m) = IsMonitorAt s vals m
IsReady s vals (stmt.OnError m proc args) = IsMonitorAt s vals m × AreBound vals args
IsReady s vals (stmt.NextError r m) = IsMonitorAt s vals m
IsReady s vals (stmt.Raise a) = IsNumAt vals a
IsReady s vals (stmt.Send m a) = IsMonitorAt s vals m × IsNumAt vals a
IsReady s vals (stmt.Try r proc args catch catch_args kind) = AreBound vals args × AreBound vals catch_args
IsReady s vals (stmt.Throttle t k stop) = 1 ≤ k
IsReady s vals (stmt.Enqueue r t proc args) = IsThrottleAt s vals t × AreBound vals args
IsReady s vals (stmt.ThrottleDone r t) = IsThrottleAt s vals t
IsReady s vals (stmt.Pipe p b) = Unit {0}
IsReady s vals (stmt.Write r p a) = IsPipeAt s vals p × IsNumAt vals a
IsReady s vals (stmt.Put p a) = IsPipeAt s vals p × IsNumAt vals a
IsReady s vals (stmt.Read r p proc args eof eof_args) = IsPipeAt s vals p × AreBound vals args × AreBound vals eof_args
IsReady s vals (stmt.Close p) = IsPipeAt s vals p
IsReady s vals (stmt.CloseRead p) = IsPipeAt s vals p
IsReady s vals (stmt.Flushed r p) = IsPipeAt s vals p
IsReady s vals (stmt.Work r kind a) = IsNumAt vals a
IsReady s vals (stmt.Helper h x) = Unit {0}
IsReady s vals (stmt.HelperWork r h kind a) = IsHelperAt vals h × IsNumAt vals a
IsReady s vals (stmt.HelperDone h) = IsHelperAt vals h
IsReady s vals stmt.Stop = Unit {0}
IsReady s vals (stmt.Ret a) = IsBound (length vals) a
