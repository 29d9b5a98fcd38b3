-- Errors and monitors.
use Rattle.std.specs.Prelude.{pos, List, [], ◌∷◌, false}
use Rattle.ak_labor.specs.declared.ask.Ask.TheVariants as ask
use Rattle.ak_labor.specs.Calls.{Done}
use Rattle.ak_script.specs.declared.statement.GuardMode.TheVariants as mode
use Rattle.ak_program.specs.declared.statement.NumAtom.TheVariants.{Literal, Local}
use Rattle.ak_program.specs.declared.statement.NumStmt.TheVariants as stmt
use Rattle.ak_program.specs.declared.program.NumProc.{NumProc}
use Rattle.ak_trace.specs.declared.entry.Entry.{Entry}
use Rattle.ak_trace.specs.declared.entry.Entry.TheVariants as entry
use Rattle.ak_trace.specs.declared.entry.Ending.TheVariants as ending
use Rattle.ak_rows.specs.Row.{Row, without_ask, proc, line, usual, empty, drains}

-- An error that a monitor above catches fills the next error of the one that it passes.
-- proc main; monitor a; within a B; end; proc B; monitor b; detach b; within b C; end; proc C; monitor c; nexterr e
-- c; upon e O; within c D; end; proc D; raise 5; end; proc O v:num; print v; end
abbrev pub next_error_passes_program : List NumProc
next_error_passes_program =
    proc (line (stmt.Monitor 0) ∷ line (stmt.Within 0 1 []) ∷ []) ∷
    proc (line (stmt.Monitor 0) ∷ line (stmt.Detach 0) ∷ line (stmt.Within 0 2 []) ∷ []) ∷
    proc
    (line (stmt.Monitor 0) ∷
    line (stmt.NextError 1 0) ∷
    line (stmt.Upon 1 4 []) ∷
    line (stmt.Within 0 3 []) ∷
    []) ∷
    proc (line (stmt.Raise (Literal (pos 5))) ∷ []) ∷
    proc (line (stmt.Print (Local 0)) ∷ []) ∷
    []

abbrev pub next_error_passes_trace : List Entry
next_error_passes_trace =
    entry.Enq 0 false ∷ entry.Cycle ∷ entry.Job 0 ∷ entry.Monitor 1 0 ∷ entry.Enq 1 false ∷ entry.Job 1 ∷
    entry.Monitor 2 1 ∷ entry.Detach 2 ∷ entry.Enq 2 false ∷ entry.Job 2 ∷ entry.Monitor 3 2 ∷ entry.Enq 3 false ∷
    entry.Job 3 ∷ entry.Error (pos 5) 3 ∷ entry.Caught 2 ∷ entry.Fill 0 (pos 5) ∷ entry.Enq 4 false ∷ entry.Job 4 ∷
    entry.Print (pos 5) ∷ entry.End ending.Idle ∷ []

abbrev pub next_error_passes : Row
next_error_passes =
    record {
      program = without_ask next_error_passes_program 0;
      config = usual;
      replies =
          empty 6 (Done ∷ []);
      trace = next_error_passes_trace;
      asks =
          drains 6 (ask.Close ∷ []);
    }

-- A handler that raises does so in the monitor in which it was registered.
-- proc main; monitor m; detach m; onerror m H; within m D; end; proc H e:num; raise 6; end; proc D; raise 5; end
abbrev pub handler_raises_in_its_own_context_program : List NumProc
handler_raises_in_its_own_context_program =
    proc
    (line (stmt.Monitor 0) ∷
    line (stmt.Detach 0) ∷
    line (stmt.OnError 0 1 []) ∷
    line (stmt.Within 0 2 []) ∷
    []) ∷
    proc (line (stmt.Raise (Literal (pos 6))) ∷ []) ∷
    proc (line (stmt.Raise (Literal (pos 5))) ∷ []) ∷
    []

abbrev pub handler_raises_in_its_own_context_trace : List Entry
handler_raises_in_its_own_context_trace =
    entry.Enq 0 false ∷ entry.Cycle ∷ entry.Job 0 ∷ entry.Monitor 1 0 ∷ entry.Detach 1 ∷ entry.Enq 1 false ∷
    entry.Job 1 ∷ entry.Error (pos 5) 1 ∷ entry.Caught 1 ∷ entry.Enq 2 false ∷ entry.Job 2 ∷ entry.Error (pos 6) 0 ∷
    entry.Unhandled (pos 6) ∷ entry.End ending.Unhandled ∷ []

abbrev pub handler_raises_in_its_own_context : Row
handler_raises_in_its_own_context =
    record {
      program = without_ask handler_raises_in_its_own_context_program 0;
      config = usual;
      replies =
          empty 3 (Done ∷ []);
      trace = handler_raises_in_its_own_context_trace;
      asks =
          drains 3 (ask.Close ∷ []);
    }

-- A try takes the first error of its body, and a later one is only noted.
-- proc main; try r B else K; upon r O; end; proc B; sched X; raise 4; end; proc X; raise 3; end; proc K e:num; ret
-- e; end; proc O v:num; print v; end
abbrev pub try_takes_the_first_error_program : List NumProc
try_takes_the_first_error_program =
    proc (line (stmt.Try 0 1 [] 3 [] mode.Drop) ∷ line (stmt.Upon 0 4 []) ∷ []) ∷
    proc (line (stmt.Sched 2 []) ∷ line (stmt.Raise (Literal (pos 4))) ∷ []) ∷
    proc (line (stmt.Raise (Literal (pos 3))) ∷ []) ∷
    proc (line (stmt.Ret (Local 0)) ∷ []) ∷
    proc (line (stmt.Print (Local 0)) ∷ []) ∷
    []

abbrev pub try_takes_the_first_error_trace : List Entry
try_takes_the_first_error_trace =
    entry.Enq 0 false ∷ entry.Cycle ∷ entry.Job 0 ∷ entry.Monitor 1 0 ∷ entry.Detach 1 ∷ entry.Enq 1 false ∷
    entry.Job 1 ∷ entry.Enq 2 false ∷ entry.Error (pos 4) 1 ∷ entry.Caught 1 ∷ entry.Enq 3 false ∷ entry.Job 2 ∷
    entry.Error (pos 3) 1 ∷ entry.Caught 1 ∷ entry.Rest (pos 3) ∷ entry.Job 3 ∷ entry.Fill 0 (pos 4) ∷
    entry.Enq 4 false ∷ entry.Job 4 ∷ entry.Print (pos 4) ∷ entry.End ending.Idle ∷ []

abbrev pub try_takes_the_first_error : Row
try_takes_the_first_error =
    record {
      program = without_ask try_takes_the_first_error_program 0;
      config = usual;
      replies =
          empty 6 (Done ∷ []);
      trace = try_takes_the_first_error_trace;
      asks =
          drains 6 (ask.Close ∷ []);
    }

-- A try of version 2 lets a later error of its body go up.
-- async 2; proc main; try r B else K rest raise; upon r O; end; proc B; sched X; raise 4; end; proc X; raise 3; end;
-- proc K e:num; ret e; end; proc O v:num; print v; end
abbrev pub later_error_goes_up_program : List NumProc
later_error_goes_up_program =
    proc (line (stmt.Try 0 1 [] 3 [] mode.Raise) ∷ line (stmt.Upon 0 4 []) ∷ []) ∷
    proc (line (stmt.Sched 2 []) ∷ line (stmt.Raise (Literal (pos 4))) ∷ []) ∷
    proc (line (stmt.Raise (Literal (pos 3))) ∷ []) ∷
    proc (line (stmt.Ret (Local 0)) ∷ []) ∷
    proc (line (stmt.Print (Local 0)) ∷ []) ∷
    []

abbrev pub later_error_goes_up_trace : List Entry
later_error_goes_up_trace =
    entry.Enq 0 false ∷ entry.Cycle ∷ entry.Job 0 ∷ entry.Monitor 1 0 ∷ entry.Detach 1 ∷ entry.Enq 1 false ∷
    entry.Job 1 ∷ entry.Enq 2 false ∷ entry.Error (pos 4) 1 ∷ entry.Caught 1 ∷ entry.Attach 1 ∷ entry.Enq 3 false ∷
    entry.Job 2 ∷ entry.Error (pos 3) 1 ∷ entry.Unhandled (pos 3) ∷ entry.End ending.Unhandled ∷ []

abbrev pub later_error_goes_up : Row
later_error_goes_up =
    record {
      program = without_ask later_error_goes_up_program 0;
      config = usual;
      replies =
          empty 3 (Done ∷ []);
      trace = later_error_goes_up_trace;
      asks =
          drains 3 (ask.Close ∷ []);
    }

-- A try of version 2 whose body returned lets an error of what the body left go up to the monitor above.
-- async 2; proc main; monitor m; detach m; onerror m H; within m T; end; proc T; try r B else K rest raise; upon r O;
-- end; proc B; sched X; ret 8; end; proc X; raise 3; end; proc K e:num; ret e; end; proc H e:num; print e; end; proc O
-- v:num; print v; end
abbrev pub error_after_return_goes_up_program : List NumProc
error_after_return_goes_up_program =
    proc
    (line (stmt.Monitor 0) ∷
    line (stmt.Detach 0) ∷
    line (stmt.OnError 0 5 []) ∷
    line (stmt.Within 0 1 []) ∷
    []) ∷
    proc (line (stmt.Try 0 2 [] 4 [] mode.Raise) ∷ line (stmt.Upon 0 6 []) ∷ []) ∷
    proc (line (stmt.Sched 3 []) ∷ line (stmt.Ret (Literal (pos 8))) ∷ []) ∷
    proc (line (stmt.Raise (Literal (pos 3))) ∷ []) ∷
    proc (line (stmt.Ret (Local 0)) ∷ []) ∷
    proc (line (stmt.Print (Local 0)) ∷ []) ∷
    proc (line (stmt.Print (Local 0)) ∷ []) ∷
    []

abbrev pub error_after_return_goes_up_trace : List Entry
error_after_return_goes_up_trace =
    entry.Enq 0 false ∷ entry.Cycle ∷ entry.Job 0 ∷ entry.Monitor 1 0 ∷ entry.Detach 1 ∷ entry.Enq 1 false ∷
    entry.Job 1 ∷ entry.Monitor 2 1 ∷ entry.Detach 2 ∷ entry.Enq 2 false ∷ entry.Job 2 ∷ entry.Enq 3 false ∷
    entry.Attach 2 ∷ entry.Fill 0 (pos 8) ∷ entry.Enq 4 false ∷ entry.Job 3 ∷ entry.Error (pos 3) 2 ∷
    entry.Caught 1 ∷ entry.Enq 5 false ∷ entry.Job 4 ∷ entry.Print (pos 8) ∷ entry.Job 5 ∷ entry.Print (pos 3) ∷
    entry.End ending.Idle ∷ []

abbrev pub error_after_return_goes_up : Row
error_after_return_goes_up =
    record {
      program = without_ask error_after_return_goes_up_program 0;
      config = usual;
      replies =
          empty 7 (Done ∷ []);
      trace = error_after_return_goes_up_trace;
      asks =
          drains 7 (ask.Close ∷ []);
    }
