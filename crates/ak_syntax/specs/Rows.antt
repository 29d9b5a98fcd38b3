-- How the reader takes the statements, one function for each row of their table.
use Rattle.std.specs.Prelude.{ℕ, Option, Some, None, Err, List}
use Rattle.ak_script.specs.declared.statement.Atom.{Atom}
use Rattle.ak_script.specs.declared.statement.Stmt.{Stmt}
use Rattle.ak_script.specs.declared.statement.Stmt.TheVariants.{Set, Print, Ivar, Fill, Offer, Upon, Bind, All, Any, Choose, Sched, Low, Yield, Never, After, Event, Abort, Tick, Monitor, Within, Detach, OnError, NextError, Raise, Send, Try, Throttle, Enqueue, ThrottleDone, Pipe, Write, Put, Read, Close, CloseRead, Flushed, Work, Helper, HelperWork, HelperDone, Stop, Ret}
use Rattle.ak_script.specs.declared.statement.GuardMode.{GuardMode}
use Rattle.ak_script.specs.declared.statement.WorkWord.{WorkWord}
use Rattle.ak_syntax.specs.declared.cursor.Until.TheVariants.{LineEnd, Then, Else}
use Rattle.ak_syntax.specs.declared.keyword.ValueWord.{ValueWord}
use Rattle.ak_syntax.specs.declared.keyword.ValueWord.TheVariants as value
use Rattle.ak_syntax.specs.declared.keyword.DeferredWord.{DeferredWord}
use Rattle.ak_syntax.specs.declared.keyword.DeferredWord.TheVariants as deferred
use Rattle.ak_syntax.specs.declared.keyword.GroupWord.{GroupWord}
use Rattle.ak_syntax.specs.declared.keyword.GroupWord.TheVariants as group
use Rattle.ak_syntax.specs.declared.keyword.JobWord.{JobWord}
use Rattle.ak_syntax.specs.declared.keyword.JobWord.TheVariants as job
use Rattle.ak_syntax.specs.declared.keyword.MonitorWord.{MonitorWord}
use Rattle.ak_syntax.specs.declared.keyword.MonitorWord.TheVariants as monitor
use Rattle.ak_syntax.specs.declared.keyword.ThrottleWord.{ThrottleWord}
use Rattle.ak_syntax.specs.declared.keyword.ThrottleWord.TheVariants as throttle
use Rattle.ak_syntax.specs.declared.keyword.PipeWord.{PipeWord}
use Rattle.ak_syntax.specs.declared.keyword.PipeWord.TheVariants as pipe
use Rattle.ak_syntax.specs.declared.keyword.ClosingWord.{ClosingWord}
use Rattle.ak_syntax.specs.declared.keyword.ClosingWord.TheVariants as closing
use Rattle.ak_syntax.specs.declared.keyword.PoolWord.{PoolWord}
use Rattle.ak_syntax.specs.declared.keyword.PoolWord.TheVariants as pool
use Rattle.ak_syntax.specs.Keywords.{value_named, deferred_named, group_named, job_named, monitor_named, throttle_named, pipe_named, closing_named, pool_named}
use Rattle.ak_syntax.specs.Words.{bad, Part, both, mapped, end_at, name_at, atom_at, count_at, operator_at, work_at, mode_at, args_at, guard_args_at, some_names_at, some_choices_at}

-- ---- the last words of a row, with the end of the line
unfoldable pub one_name_at : Part (List ℕ)
one_name_at = mapped (λ t. t.0) (both name_at end_at)

unfoldable pub one_atom_at : Part Atom
one_atom_at = mapped (λ t. t.0) (both atom_at end_at)

unfoldable pub name_atom_at : Part (List ℕ × Atom)
name_atom_at = mapped (λ t. (t.0, t.1.0)) (both name_at (both atom_at end_at))

unfoldable pub two_names_at : Part (List ℕ × List ℕ)
two_names_at = mapped (λ t. (t.0, t.1.0)) (both name_at (both name_at end_at))

unfoldable pub work_atom_at : Part (WorkWord × Atom)
work_atom_at = mapped (λ t. (t.0, t.1.0)) (both work_at (both atom_at end_at))

-- a procedure and its arguments
unfoldable pub call_at : Part (List ℕ × List Atom)
call_at = both name_at (args_at LineEnd)

-- the same, and behind `else` once more
unfoldable pub two_calls_at : Part (List ℕ × List Atom × List ℕ × List Atom)
two_calls_at = mapped (λ t. (t.0, t.1.0, t.1.1.0, t.1.1.1)) (both name_at (both (args_at Else) (both name_at (args_at LineEnd))))

-- the same, and whether `rest raise` ends the line
unfoldable pub guarded_calls_at : Part (List ℕ × List Atom × List ℕ × List Atom × GuardMode)
guarded_calls_at = mapped (λ t. (t.0, t.1.0, t.1.1.0, t.1.1.1.0, t.1.1.1.1)) (both name_at (both (args_at Else) (both name_at guard_args_at)))

-- ---- the rows
unfoldable pub value_row : ValueWord → Part Stmt
value_row value.Set = mapped (λ t. Set t.0 t.1.0 t.1.1.0 t.1.1.1.0) (both name_at (both atom_at (both operator_at (both atom_at end_at))))
value_row value.Print = mapped (λ t. Print t) one_atom_at
value_row value.Raise = mapped (λ t. Raise t) one_atom_at
value_row value.Ret = mapped (λ t. Ret t) one_atom_at
value_row value.Stop = mapped (λ t. Stop) end_at

unfoldable pub deferred_row : DeferredWord → Part Stmt
deferred_row deferred.Ivar = mapped (λ t. Ivar t) one_name_at
deferred_row deferred.Fill = mapped (λ t. Fill t.0 t.1) name_atom_at
deferred_row deferred.Offer = mapped (λ t. Offer t.0 t.1) name_atom_at
deferred_row deferred.Upon = mapped (λ t. Upon t.0 t.1.0 t.1.1) (both name_at call_at)
deferred_row deferred.Bind = mapped (λ t. Bind t.0 t.1.0 t.1.1.0 t.1.1.1) (both name_at (both name_at call_at))
deferred_row deferred.Yield = mapped (λ t. Yield t) one_name_at
deferred_row deferred.Never = mapped (λ t. Never t) one_name_at

unfoldable pub group_row : GroupWord → Part Stmt
group_row group.All = mapped (λ t. All t.0 t.1.0 t.1.1.0 t.1.1.1) (both name_at (both (some_names_at Then) call_at))
group_row group.Any = mapped (λ t. Any t.0 t.1) (both name_at (some_names_at LineEnd))
group_row group.Choose = mapped (λ t. Choose t.0 t.1.0 t.1.1) (both name_at (both some_choices_at (args_at LineEnd)))
group_row group.Try = mapped (λ t. Try t.0 t.1.0 t.1.1 t.1.2 t.1.3 t.1.4) (both name_at guarded_calls_at)

unfoldable pub job_row : JobWord → Part Stmt
job_row job.Sched = mapped (λ t. Sched t.0 t.1) call_at
job_row job.Low = mapped (λ t. Low t.0 t.1) call_at
job_row job.After = mapped (λ t. After t.0 t.1) name_atom_at
job_row job.Event = mapped (λ t. Event t.0 t.1.0 t.1.1) (both name_at name_atom_at)
job_row job.Abort = mapped (λ t. Abort t) one_name_at
job_row job.Tick = mapped (λ t. Tick t) one_atom_at

unfoldable pub monitor_row : MonitorWord → Part Stmt
monitor_row monitor.Monitor = mapped (λ t. Monitor t) one_name_at
monitor_row monitor.Within = mapped (λ t. Within t.0 t.1.0 t.1.1) (both name_at call_at)
monitor_row monitor.Detach = mapped (λ t. Detach t) one_name_at
monitor_row monitor.OnError = mapped (λ t. OnError t.0 t.1.0 t.1.1) (both name_at call_at)
monitor_row monitor.NextError = mapped (λ t. NextError t.0 t.1) two_names_at
monitor_row monitor.Send = mapped (λ t. Send t.0 t.1) name_atom_at

unfoldable pub throttle_row : ThrottleWord → Part Stmt
throttle_row throttle.Throttle = mapped (λ t. Throttle t.0 t.1.0 t.1.1.0) (both name_at (both (count_at 1) (both mode_at end_at)))
throttle_row throttle.Enqueue = mapped (λ t. Enqueue t.0 t.1.0 t.1.1.0 t.1.1.1) (both name_at (both name_at call_at))
throttle_row throttle.ThrottleDone = mapped (λ t. ThrottleDone t.0 t.1) two_names_at

unfoldable pub pipe_row : PipeWord → Part Stmt
pipe_row pipe.Pipe = mapped (λ t. Pipe t.0 t.1.0) (both name_at (both (count_at 0) end_at))
pipe_row pipe.Write = mapped (λ t. Write t.0 t.1.0 t.1.1) (both name_at name_atom_at)
pipe_row pipe.Put = mapped (λ t. Put t.0 t.1) name_atom_at
pipe_row pipe.Read = mapped (λ t. Read t.0 t.1.0 t.1.1.0 t.1.1.1 t.1.1.2 t.1.1.3) (both name_at (both name_at two_calls_at))

unfoldable pub closing_row : ClosingWord → Part Stmt
closing_row closing.Close = mapped (λ t. Close t) one_name_at
closing_row closing.CloseRead = mapped (λ t. CloseRead t) one_name_at
closing_row closing.Flushed = mapped (λ t. Flushed t.0 t.1) two_names_at

unfoldable pub pool_row : PoolWord → Part Stmt
pool_row pool.Work = mapped (λ t. Work t.0 t.1.0 t.1.1) (both name_at work_atom_at)
pool_row pool.Helper = mapped (λ t. Helper t.0 t.1) two_names_at
pool_row pool.HelperWork = mapped (λ t. HelperWork t.0 t.1.0 t.1.1.0 t.1.1.1) (both name_at (both name_at work_atom_at))
pool_row pool.HelperDone = mapped (λ t. HelperDone t) one_name_at

-- the row of the first word, where it is one of the group
abbrev pub row_or : {K : Type 0} → Option K → (K → Part Stmt) → Part Stmt → Part Stmt
row_or (Some first) row other = row first
row_or None row other = other

-- the statement that begins with the word
unfoldable pub statement_at : List ℕ → Part Stmt
statement_at word = row_or (value_named word) value_row
    (row_or (deferred_named word) deferred_row
    (row_or (group_named word) group_row
    (row_or (job_named word) job_row
    (row_or (monitor_named word) monitor_row
    (row_or (throttle_named word) throttle_row
    (row_or (pipe_named word) pipe_row (row_or (closing_named word) closing_row (row_or (pool_named word) pool_row (λ c. Err bad)))))))))
