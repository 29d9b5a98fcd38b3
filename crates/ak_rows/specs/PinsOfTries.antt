-- Pins of `try`: short scripts, each about one rule, with the runs that another implementation gives.
use Rattle.std.specs.Prelude.{pos, [], ◌∷◌, true, false}
use Rattle.ak_labor.specs.declared.ask.Ask.TheVariants as ask
use Rattle.ak_labor.specs.Calls.{Done}
use Rattle.ak_script.specs.declared.statement.GuardMode.TheVariants as mode
use Rattle.ak_program.specs.declared.statement.NumAtom.TheVariants.{Literal, Local}
use Rattle.ak_program.specs.declared.statement.NumStmt.TheVariants as stmt
use Rattle.ak_trace.specs.declared.entry.Entry.TheVariants as entry
use Rattle.ak_trace.specs.declared.entry.Ending.TheVariants as ending
use Rattle.ak_rows.specs.Row.{Row, usual, without_ask, proc, line, empty, drains}

-- it is attached as a deferred decides, before the fill, not before:
-- async 2; proc main; monitor m; detach m; within m T; end; proc T; try r B else K rest raise; upon r O; end; proc B;
-- yield y; upon y X; sched Z; ret y; end; proc Z; print 2; end; proc X v:num; yield z; upon z R; end; proc R v:num;
-- raise 3; end; proc K e:num; ret e; end; proc O v:num; print v; end
abbrev pub attach_at_a_deferred : Row
attach_at_a_deferred =
    record {
      program = without_ask (
          proc (line (stmt.Monitor 0) ∷ line (stmt.Detach 0) ∷ line (stmt.Within 0 1 []) ∷ []) ∷
          proc (line (stmt.Try 0 2 [] 6 [] mode.Raise) ∷ line (stmt.Upon 0 7 []) ∷ []) ∷
          proc (line (stmt.Yield 0) ∷ line (stmt.Upon 0 4 []) ∷ line (stmt.Sched 3 []) ∷ line (stmt.Ret (Local 0)) ∷
          []) ∷
          proc (line (stmt.Print (Literal (pos 2))) ∷ []) ∷
          proc (line (stmt.Yield 1) ∷ line (stmt.Upon 1 5 []) ∷ []) ∷
          proc (line (stmt.Raise (Literal (pos 3))) ∷ []) ∷
          proc (line (stmt.Ret (Local 0)) ∷ []) ∷
          proc (line (stmt.Print (Local 0)) ∷ []) ∷
          []) 0;
      config = usual;
      replies = empty 11 (Done ∷ []);
      trace = (entry.Enq 0 false ∷ entry.Cycle ∷ entry.Job 0 ∷ entry.Monitor 1 0 ∷ entry.Detach 1 ∷ entry.Enq 1 false ∷
          entry.Job 1 ∷ entry.Monitor 2 1 ∷ entry.Detach 2 ∷ entry.Enq 2 false ∷ entry.Job 2 ∷ entry.Enq 3 false ∷
          entry.Job 3 ∷ entry.Print (pos 2) ∷ entry.Cycle ∷ entry.Fill 1 (pos 0) ∷ entry.Enq 4 false ∷
          entry.Enq 5 false ∷ entry.Job 4 ∷ entry.Job 5 ∷ entry.Attach 2 ∷ entry.Fill 0 (pos 0) ∷ entry.Enq 6 false ∷
          entry.Job 6 ∷ entry.Print (pos 0) ∷ entry.Cycle ∷ entry.Fill 2 (pos 0) ∷ entry.Enq 7 false ∷
          entry.Job 7 ∷ entry.Error (pos 3) 2 ∷ entry.Caught 1 ∷ entry.End ending.Idle ∷ []);
      asks = drains 11 (ask.Close ∷ []);
    }

-- it is attached as a number decides, before the fill:
-- async 2; proc main; monitor m; detach m; onerror m H; within m T; end; proc T; try r B else K rest raise; upon r O;
-- end; proc B; sched X; ret 8; end; proc X; raise 3; end; proc K e:num; ret e; end; proc H e:num; print e; end; proc
-- O v:num; print v; end
abbrev pub attach_at_a_number : Row
attach_at_a_number =
    record {
      program = without_ask (
          proc (line (stmt.Monitor 0) ∷ line (stmt.Detach 0) ∷ line (stmt.OnError 0 5 []) ∷ line (stmt.Within 0 1 []) ∷
          []) ∷
          proc (line (stmt.Try 0 2 [] 4 [] mode.Raise) ∷ line (stmt.Upon 0 6 []) ∷ []) ∷
          proc (line (stmt.Sched 3 []) ∷ line (stmt.Ret (Literal (pos 8))) ∷ []) ∷
          proc (line (stmt.Raise (Literal (pos 3))) ∷ []) ∷
          proc (line (stmt.Ret (Local 0)) ∷ []) ∷
          proc (line (stmt.Print (Local 0)) ∷ []) ∷
          proc (line (stmt.Print (Local 0)) ∷ []) ∷
          []) 0;
      config = usual;
      replies = empty 7 (Done ∷ []);
      trace = (entry.Enq 0 false ∷ entry.Cycle ∷ entry.Job 0 ∷ entry.Monitor 1 0 ∷ entry.Detach 1 ∷ entry.Enq 1 false ∷
          entry.Job 1 ∷ entry.Monitor 2 1 ∷ entry.Detach 2 ∷ entry.Enq 2 false ∷ entry.Job 2 ∷ entry.Enq 3 false ∷
          entry.Attach 2 ∷ entry.Fill 0 (pos 8) ∷ entry.Enq 4 false ∷ entry.Job 3 ∷ entry.Error (pos 3) 2 ∷
          entry.Caught 1 ∷ entry.Enq 5 false ∷ entry.Job 4 ∷ entry.Print (pos 8) ∷ entry.Job 5 ∷ entry.Print (pos 3) ∷
          entry.End ending.Idle ∷ []);
      asks = drains 7 (ask.Close ∷ []);
    }

-- with rest raise the monitor is attached as the first error decides, the second goes up:
-- async 2; proc main; try r B else K rest raise; upon r O; end; proc B; sched X; raise 4; end; proc X; raise 3; end;
-- proc K e:num; ret e; end; proc O v:num; print v; end
abbrev pub attach_at_an_error : Row
attach_at_an_error =
    record {
      program = without_ask (
          proc (line (stmt.Try 0 1 [] 3 [] mode.Raise) ∷ line (stmt.Upon 0 4 []) ∷ []) ∷
          proc (line (stmt.Sched 2 []) ∷ line (stmt.Raise (Literal (pos 4))) ∷ []) ∷
          proc (line (stmt.Raise (Literal (pos 3))) ∷ []) ∷
          proc (line (stmt.Ret (Local 0)) ∷ []) ∷
          proc (line (stmt.Print (Local 0)) ∷ []) ∷
          []) 0;
      config = usual;
      replies = empty 3 (Done ∷ []);
      trace = (entry.Enq 0 false ∷ entry.Cycle ∷ entry.Job 0 ∷ entry.Monitor 1 0 ∷ entry.Detach 1 ∷ entry.Enq 1 false ∷
          entry.Job 1 ∷ entry.Enq 2 false ∷ entry.Error (pos 4) 1 ∷ entry.Caught 1 ∷ entry.Attach 1 ∷
          entry.Enq 3 false ∷ entry.Job 2 ∷ entry.Error (pos 3) 1 ∷ entry.Unhandled (pos 3) ∷ entry.End ending.Unhandled ∷
          []);
      asks = drains 3 (ask.Close ∷ []);
    }

-- a body that has sent an error to its own monitor returns for nothing:
-- proc main; try r B else K; upon r O; try s D else K; upon s O; end; proc B; monitor c; send c 5; ret 2; end; proc
-- D; yield y; monitor c; send c 6; ret y; end; proc K e:num; ret e; end; proc O v:num; print v; end
abbrev pub try_decided_before_its_body_returns : Row
try_decided_before_its_body_returns =
    record {
      program = without_ask (
          proc (line (stmt.Try 0 1 [] 3 [] mode.Drop) ∷ line (stmt.Upon 0 4 []) ∷ line (stmt.Try 1 2 [] 3 [] mode.Drop) ∷
          line (stmt.Upon 1 4 []) ∷ []) ∷
          proc (line (stmt.Monitor 0) ∷ line (stmt.Send 0 (Literal (pos 5))) ∷ line (stmt.Ret (Literal (pos 2))) ∷
          []) ∷
          proc (line (stmt.Yield 0) ∷ line (stmt.Monitor 1) ∷ line (stmt.Send 1 (Literal (pos 6))) ∷ line (stmt.Ret (Local 0)) ∷
          []) ∷
          proc (line (stmt.Ret (Local 0)) ∷ []) ∷
          proc (line (stmt.Print (Local 0)) ∷ []) ∷
          []) 0;
      config = usual;
      replies = empty 9 (Done ∷ []);
      trace = (entry.Enq 0 false ∷ entry.Cycle ∷ entry.Job 0 ∷ entry.Monitor 1 0 ∷ entry.Detach 1 ∷ entry.Enq 1 false ∷
          entry.Monitor 2 0 ∷ entry.Detach 2 ∷ entry.Enq 2 false ∷ entry.Job 1 ∷ entry.Monitor 3 1 ∷
          entry.Error (pos 5) 3 ∷ entry.Caught 1 ∷ entry.Enq 3 false ∷ entry.Job 2 ∷ entry.Monitor 4 2 ∷
          entry.Error (pos 6) 4 ∷ entry.Caught 2 ∷ entry.Enq 4 false ∷ entry.Job 3 ∷ entry.Fill 0 (pos 5) ∷
          entry.Enq 5 false ∷ entry.Job 4 ∷ entry.Fill 1 (pos 6) ∷ entry.Enq 6 false ∷ entry.Job 5 ∷
          entry.Print (pos 5) ∷ entry.Job 6 ∷ entry.Print (pos 6) ∷ entry.Cycle ∷ entry.Fill 2 (pos 0) ∷
          entry.End ending.Idle ∷ []);
      asks = drains 9 (ask.Close ∷ []);
    }

-- the job of a full deferred decides the try, an error after it is noted alone:
-- proc main; try r B else K; upon r O; end; proc B; yield y; upon y X; ret y; end; proc X v:num; yield z; upon z R;
-- end; proc R v:num; raise 3; end; proc K e:num; ret e; end; proc O v:num; print v; end
abbrev pub try_done_decides : Row
try_done_decides =
    record {
      program = without_ask (
          proc (line (stmt.Try 0 1 [] 4 [] mode.Drop) ∷ line (stmt.Upon 0 5 []) ∷ []) ∷
          proc (line (stmt.Yield 0) ∷ line (stmt.Upon 0 2 []) ∷ line (stmt.Ret (Local 0)) ∷ []) ∷
          proc (line (stmt.Yield 1) ∷ line (stmt.Upon 1 3 []) ∷ []) ∷
          proc (line (stmt.Raise (Literal (pos 3))) ∷ []) ∷
          proc (line (stmt.Ret (Local 0)) ∷ []) ∷
          proc (line (stmt.Print (Local 0)) ∷ []) ∷
          []) 0;
      config = usual;
      replies = empty 9 (Done ∷ []);
      trace = (entry.Enq 0 false ∷ entry.Cycle ∷ entry.Job 0 ∷ entry.Monitor 1 0 ∷ entry.Detach 1 ∷ entry.Enq 1 false ∷
          entry.Job 1 ∷ entry.Cycle ∷ entry.Fill 1 (pos 0) ∷ entry.Enq 2 false ∷ entry.Enq 3 false ∷
          entry.Job 2 ∷ entry.Job 3 ∷ entry.Fill 0 (pos 0) ∷ entry.Enq 4 false ∷ entry.Job 4 ∷ entry.Print (pos 0) ∷
          entry.Cycle ∷ entry.Fill 2 (pos 0) ∷ entry.Enq 5 false ∷ entry.Job 5 ∷ entry.Error (pos 3) 1 ∷
          entry.Caught 1 ∷ entry.Rest (pos 3) ∷ entry.End ending.Idle ∷ []);
      asks = drains 9 (ask.Close ∷ []);
    }

-- the body of a try runs below its monitor in its priority; the other procedure and the taking of a deferred have the
-- monitor and priority of the try:
-- proc main; monitor m; detach m; low A m; end; proc A m:mon; within m B; end; proc B; monitor z; try r D else K; try
-- s E else K; upon s O; end; proc D; yield y; bind r y Z; ret r; end; proc E; yield y; ret y; end; proc Z v:num;
-- raise 4; end; proc K e:num; raise 6; end; proc O v:num; print v; end
abbrev pub try_in_its_monitor_and_priority : Row
try_in_its_monitor_and_priority =
    record {
      program = without_ask (
          proc (line (stmt.Monitor 0) ∷ line (stmt.Detach 0) ∷ line (stmt.Low 1 ((Local 0) ∷ [])) ∷ []) ∷
          proc (line (stmt.Within 0 2 []) ∷ []) ∷
          proc (line (stmt.Monitor 0) ∷ line (stmt.Try 1 3 [] 6 [] mode.Drop) ∷ line (stmt.Try 2 4 [] 6 [] mode.Drop) ∷
          line (stmt.Upon 2 7 []) ∷ []) ∷
          proc (line (stmt.Yield 0) ∷ line (stmt.Bind 1 0 5 []) ∷ line (stmt.Ret (Local 1)) ∷ []) ∷
          proc (line (stmt.Yield 0) ∷ line (stmt.Ret (Local 0)) ∷ []) ∷
          proc (line (stmt.Raise (Literal (pos 4))) ∷ []) ∷
          proc (line (stmt.Raise (Literal (pos 6))) ∷ []) ∷
          proc (line (stmt.Print (Local 0)) ∷ []) ∷
          []) 0;
      config = usual;
      replies = empty 11 (Done ∷ []);
      trace = (entry.Enq 0 false ∷ entry.Cycle ∷ entry.Job 0 ∷ entry.Monitor 1 0 ∷ entry.Detach 1 ∷ entry.Enq 1 true ∷
          entry.Job 1 ∷ entry.Enq 2 true ∷ entry.Job 2 ∷ entry.Monitor 2 1 ∷ entry.Monitor 3 1 ∷ entry.Detach 3 ∷
          entry.Enq 3 true ∷ entry.Monitor 4 1 ∷ entry.Detach 4 ∷ entry.Enq 4 true ∷ entry.Job 3 ∷ entry.Job 4 ∷
          entry.Cycle ∷ entry.Fill 2 (pos 0) ∷ entry.Enq 5 true ∷ entry.Fill 4 (pos 0) ∷ entry.Enq 6 true ∷
          entry.Job 5 ∷ entry.Error (pos 4) 3 ∷ entry.Caught 3 ∷ entry.Enq 7 true ∷ entry.Job 6 ∷ entry.Fill 1 (pos 0) ∷
          entry.Enq 8 true ∷ entry.Job 7 ∷ entry.Error (pos 6) 1 ∷ entry.Caught 1 ∷ entry.Job 8 ∷ entry.Print (pos 0) ∷
          entry.End ending.Idle ∷ []);
      asks = drains 11 (ask.Close ∷ []);
    }

-- the monitor of a try is below that of the job, and the body runs in it:
-- proc main; monitor m; detach m; nexterr x m; within m A; end; proc A; try r B else K; end; proc B; monitor b;
-- within b R; end; proc R; raise 3; end; proc K e:num; raise 4; end
abbrev pub try_monitor_below : Row
try_monitor_below =
    record {
      program = without_ask (
          proc (line (stmt.Monitor 0) ∷ line (stmt.Detach 0) ∷ line (stmt.NextError 1 0) ∷ line (stmt.Within 0 1 []) ∷
          []) ∷
          proc (line (stmt.Try 0 2 [] 4 [] mode.Drop) ∷ []) ∷
          proc (line (stmt.Monitor 0) ∷ line (stmt.Within 0 3 []) ∷ []) ∷
          proc (line (stmt.Raise (Literal (pos 3))) ∷ []) ∷
          proc (line (stmt.Raise (Literal (pos 4))) ∷ []) ∷
          []) 0;
      config = usual;
      replies = empty 5 (Done ∷ []);
      trace = (entry.Enq 0 false ∷ entry.Cycle ∷ entry.Job 0 ∷ entry.Monitor 1 0 ∷ entry.Detach 1 ∷ entry.Enq 1 false ∷
          entry.Job 1 ∷ entry.Monitor 2 1 ∷ entry.Detach 2 ∷ entry.Enq 2 false ∷ entry.Job 2 ∷ entry.Monitor 3 2 ∷
          entry.Enq 3 false ∷ entry.Fill 1 (pos 0) ∷ entry.Job 3 ∷ entry.Error (pos 3) 3 ∷ entry.Caught 2 ∷
          entry.Rest (pos 3) ∷ entry.End ending.Idle ∷ []);
      asks = drains 5 (ask.Close ∷ []);
    }

-- the first error of the body calls the other procedure, later ones are noted alone:
-- proc main; try r B else K 100; upon r O; end; proc B; sched X; raise 4; end; proc X; raise 3; end; proc K e:num
-- n:num; print e; print n; ret 9; end; proc O v:num; print v; end
abbrev pub try_takes_the_first_error : Row
try_takes_the_first_error =
    record {
      program = without_ask (
          proc (line (stmt.Try 0 1 [] 3 ((Literal (pos 100)) ∷ []) mode.Drop) ∷ line (stmt.Upon 0 4 []) ∷ []) ∷
          proc (line (stmt.Sched 2 []) ∷ line (stmt.Raise (Literal (pos 4))) ∷ []) ∷
          proc (line (stmt.Raise (Literal (pos 3))) ∷ []) ∷
          proc (line (stmt.Print (Local 0)) ∷ line (stmt.Print (Local 1)) ∷ line (stmt.Ret (Literal (pos 9))) ∷
          []) ∷
          proc (line (stmt.Print (Local 0)) ∷ []) ∷
          []) 0;
      config = usual;
      replies = empty 6 (Done ∷ []);
      trace = (entry.Enq 0 false ∷ entry.Cycle ∷ entry.Job 0 ∷ entry.Monitor 1 0 ∷ entry.Detach 1 ∷ entry.Enq 1 false ∷
          entry.Job 1 ∷ entry.Enq 2 false ∷ entry.Error (pos 4) 1 ∷ entry.Caught 1 ∷ entry.Enq 3 false ∷
          entry.Job 2 ∷ entry.Error (pos 3) 1 ∷ entry.Caught 1 ∷ entry.Rest (pos 3) ∷ entry.Job 3 ∷ entry.Print (pos 4) ∷
          entry.Print (pos 100) ∷ entry.Fill 0 (pos 9) ∷ entry.Enq 4 false ∷ entry.Job 4 ∷ entry.Print (pos 9) ∷
          entry.End ending.Idle ∷ []);
      asks = drains 6 (ask.Close ∷ []);
    }
