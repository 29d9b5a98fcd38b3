-- Jobs, handlers, connections, limits and ends.
use Rattle.std.specs.Prelude.{pos, negsuc, List, [], ◌∷◌, true, false}
use Rattle.ak_labor.specs.declared.ask.Ask.TheVariants as ask
use Rattle.ak_labor.specs.Calls.{Done}
use Rattle.ak_program.specs.declared.statement.NumAtom.TheVariants.{Literal, Local}
use Rattle.ak_program.specs.declared.statement.NumStmt.TheVariants as stmt
use Rattle.ak_program.specs.declared.program.NumProc.{NumProc}
use Rattle.ak_trace.specs.declared.entry.Entry.{Entry}
use Rattle.ak_trace.specs.declared.entry.Entry.TheVariants as entry
use Rattle.ak_trace.specs.declared.entry.Ending.TheVariants as ending
use Rattle.ak_rows.specs.Row.{Row, without_ask, proc, line, usual, empty, drains}

-- A script that prints.
-- proc main; print 7; end
abbrev pub print_alone_program : List NumProc
print_alone_program =
    proc (line (stmt.Print (Literal (pos 7))) ∷ []) ∷
    []

abbrev pub print_alone_trace : List Entry
print_alone_trace =
    entry.Enq 0 false ∷ entry.Cycle ∷ entry.Job 0 ∷ entry.Print (pos 7) ∷ entry.End ending.Idle ∷ []

abbrev pub print_alone : Row
print_alone =
    record {
      program = without_ask print_alone_program 0;
      config = usual;
      replies =
          empty 2 (Done ∷ []);
      trace = print_alone_trace;
      asks =
          drains 2 (ask.Close ∷ []);
    }

-- Handlers of one ivar run in order of registration, also one that comes when the ivar is full.
-- proc main; ivar i; upon i A 1; fill i 5; upon i A 2; print 0; end; proc A v:num w:num; print v; print w; end
abbrev pub handlers_in_order_program : List NumProc
handlers_in_order_program =
    proc
    (line (stmt.Ivar 0) ∷
    line (stmt.Upon 0 1 (Literal (pos 1) ∷ [])) ∷
    line (stmt.Fill 0 (Literal (pos 5))) ∷
    line (stmt.Upon 0 1 (Literal (pos 2) ∷ [])) ∷
    line (stmt.Print (Literal (pos 0))) ∷
    []) ∷
    proc (line (stmt.Print (Local 0)) ∷ line (stmt.Print (Local 1)) ∷ []) ∷
    []

abbrev pub handlers_in_order_trace : List Entry
handlers_in_order_trace =
    entry.Enq 0 false ∷ entry.Cycle ∷ entry.Job 0 ∷ entry.Fill 0 (pos 5) ∷ entry.Enq 1 false ∷ entry.Enq 2 false ∷
    entry.Print (pos 0) ∷ entry.Job 1 ∷ entry.Print (pos 5) ∷ entry.Print (pos 1) ∷ entry.Job 2 ∷
    entry.Print (pos 5) ∷ entry.Print (pos 2) ∷ entry.End ending.Idle ∷ []

abbrev pub handlers_in_order : Row
handlers_in_order =
    record {
      program = without_ask handlers_in_order_program 0;
      config = usual;
      replies =
          empty 4 (Done ∷ []);
      trace = handlers_in_order_trace;
      asks =
          drains 4 (ask.Close ∷ []);
    }

-- A second fill of an ivar raises, and nobody catches it.
-- proc main; ivar i; fill i 1; fill i 2; print 9; end
abbrev pub full_ivar_raises_program : List NumProc
full_ivar_raises_program =
    proc
    (line (stmt.Ivar 0) ∷
    line (stmt.Fill 0 (Literal (pos 1))) ∷
    line (stmt.Fill 0 (Literal (pos 2))) ∷
    line (stmt.Print (Literal (pos 9))) ∷
    []) ∷
    []

abbrev pub full_ivar_raises_trace : List Entry
full_ivar_raises_trace =
    entry.Enq 0 false ∷ entry.Cycle ∷ entry.Job 0 ∷ entry.Fill 0 (pos 1) ∷ entry.Error (negsuc 2) 0 ∷
    entry.Unhandled (negsuc 2) ∷ entry.End ending.Unhandled ∷ []

abbrev pub full_ivar_raises : Row
full_ivar_raises =
    record {
      program = without_ask full_ivar_raises_program 0;
      config = usual;
      replies =
          empty 1 (Done ∷ []);
      trace = full_ivar_raises_trace;
      asks =
          drains 1 (ask.Close ∷ []);
    }

-- Two connections: the handlers of all three names run in order of registration, under the result's name.
-- proc main; ivar i; ivar g; bind a g P i; bind b g P i; upon a Q 1; upon i Q 2; upon b Q 3; upon a Q 4; fill g 0;
-- sched F i; end; proc P v:num x:ivar; ret x; end; proc Q v:num w:num; print w; end; proc F x:ivar; fill x 8; end
abbrev pub connections_merge_handlers_program : List NumProc
connections_merge_handlers_program =
    proc
    (line (stmt.Ivar 0) ∷
    line (stmt.Ivar 1) ∷
    line (stmt.Bind 2 1 1 (Local 0 ∷ [])) ∷
    line (stmt.Bind 3 1 1 (Local 0 ∷ [])) ∷
    line (stmt.Upon 2 2 (Literal (pos 1) ∷ [])) ∷
    line (stmt.Upon 0 2 (Literal (pos 2) ∷ [])) ∷
    line (stmt.Upon 3 2 (Literal (pos 3) ∷ [])) ∷
    line (stmt.Upon 2 2 (Literal (pos 4) ∷ [])) ∷
    line (stmt.Fill 1 (Literal (pos 0))) ∷
    line (stmt.Sched 3 (Local 0 ∷ [])) ∷
    []) ∷
    proc (line (stmt.Ret (Local 1)) ∷ []) ∷
    proc (line (stmt.Print (Local 1)) ∷ []) ∷
    proc (line (stmt.Fill 0 (Literal (pos 8))) ∷ []) ∷
    []

abbrev pub connections_merge_handlers_trace : List Entry
connections_merge_handlers_trace =
    entry.Enq 0 false ∷ entry.Cycle ∷ entry.Job 0 ∷ entry.Fill 1 (pos 0) ∷ entry.Enq 1 false ∷ entry.Enq 2 false ∷
    entry.Enq 3 false ∷ entry.Job 1 ∷ entry.Join 2 0 ∷ entry.Job 2 ∷ entry.Join 3 2 ∷ entry.Job 3 ∷
    entry.Fill 3 (pos 8) ∷ entry.Enq 4 false ∷ entry.Enq 5 false ∷ entry.Enq 6 false ∷ entry.Enq 7 false ∷
    entry.Job 4 ∷ entry.Print (pos 1) ∷ entry.Job 5 ∷ entry.Print (pos 2) ∷ entry.Job 6 ∷ entry.Print (pos 3) ∷
    entry.Job 7 ∷ entry.Print (pos 4) ∷ entry.End ending.Idle ∷ []

abbrev pub connections_merge_handlers : Row
connections_merge_handlers =
    record {
      program = without_ask connections_merge_handlers_program 0;
      config = usual;
      replies =
          empty 9 (Done ∷ []);
      trace = connections_merge_handlers_trace;
      asks =
          drains 9 (ask.Close ∷ []);
    }

-- At a limit of one job of each priority in a cycle, low jobs run when the normal ones had their turn.
-- proc main; low B; sched A; sched A; end; proc A; print 1; end; proc B; print 2; sched A; end
abbrev pub low_jobs_wait_program : List NumProc
low_jobs_wait_program =
    proc (line (stmt.Low 2 []) ∷ line (stmt.Sched 1 []) ∷ line (stmt.Sched 1 []) ∷ []) ∷
    proc (line (stmt.Print (Literal (pos 1))) ∷ []) ∷
    proc (line (stmt.Print (Literal (pos 2))) ∷ line (stmt.Sched 1 []) ∷ []) ∷
    []

abbrev pub low_jobs_wait_trace : List Entry
low_jobs_wait_trace =
    entry.Enq 0 false ∷ entry.Cycle ∷ entry.Job 0 ∷ entry.Enq 1 true ∷ entry.Enq 2 false ∷ entry.Enq 3 false ∷
    entry.Job 1 ∷ entry.Print (pos 2) ∷ entry.Enq 4 false ∷ entry.Cycle ∷ entry.Job 2 ∷ entry.Print (pos 1) ∷
    entry.Cycle ∷ entry.Job 3 ∷ entry.Print (pos 1) ∷ entry.Cycle ∷ entry.Job 4 ∷ entry.Print (pos 1) ∷
    entry.End ending.Idle ∷ []

abbrev pub low_jobs_wait : Row
low_jobs_wait =
    record {
      program = without_ask low_jobs_wait_program 0;
      config = record usual { limit = 1 };
      replies =
          empty 9 (Done ∷ []);
      trace = low_jobs_wait_trace;
      asks =
          drains 9 (ask.Close ∷ []);
    }

-- A run that has one job more than its limit ends there.
-- proc main; sched A; sched A; sched A; end; proc A; print 1; end
abbrev pub job_limit_reached_program : List NumProc
job_limit_reached_program =
    proc (line (stmt.Sched 1 []) ∷ line (stmt.Sched 1 []) ∷ line (stmt.Sched 1 []) ∷ []) ∷
    proc (line (stmt.Print (Literal (pos 1))) ∷ []) ∷
    []

abbrev pub job_limit_reached_trace : List Entry
job_limit_reached_trace =
    entry.Enq 0 false ∷ entry.Cycle ∷ entry.Job 0 ∷ entry.Enq 1 false ∷ entry.Enq 2 false ∷ entry.Enq 3 false ∷
    entry.Job 1 ∷ entry.Print (pos 1) ∷ entry.Job 2 ∷ entry.Print (pos 1) ∷ entry.End ending.Jobs ∷ []

abbrev pub job_limit_reached : Row
job_limit_reached =
    record {
      program = without_ask job_limit_reached_program 0;
      config = record usual { jobs = 3 };
      replies =
          empty 4 (Done ∷ []);
      trace = job_limit_reached_trace;
      asks =
          drains 4 (ask.Close ∷ []);
    }

-- A run that has as many jobs as its limit ends idle.
-- proc main; sched A; sched A; end; proc A; print 1; end
abbrev pub job_limit_just_met_program : List NumProc
job_limit_just_met_program =
    proc (line (stmt.Sched 1 []) ∷ line (stmt.Sched 1 []) ∷ []) ∷
    proc (line (stmt.Print (Literal (pos 1))) ∷ []) ∷
    []

abbrev pub job_limit_just_met_trace : List Entry
job_limit_just_met_trace =
    entry.Enq 0 false ∷ entry.Cycle ∷ entry.Job 0 ∷ entry.Enq 1 false ∷ entry.Enq 2 false ∷ entry.Job 1 ∷
    entry.Print (pos 1) ∷ entry.Job 2 ∷ entry.Print (pos 1) ∷ entry.End ending.Idle ∷ []

abbrev pub job_limit_just_met : Row
job_limit_just_met =
    record {
      program = without_ask job_limit_just_met_program 0;
      config = record usual { jobs = 3 };
      replies =
          empty 4 (Done ∷ []);
      trace = job_limit_just_met_trace;
      asks =
          drains 4 (ask.Close ∷ []);
    }

-- A statement `stop` ends the run in the middle of its job.
-- proc main; print 1; sched A; stop; print 2; end; proc A; print 3; end
abbrev pub stop_ends_the_run_program : List NumProc
stop_ends_the_run_program =
    proc
    (line (stmt.Print (Literal (pos 1))) ∷
    line (stmt.Sched 1 []) ∷
    line stmt.Stop ∷
    line (stmt.Print (Literal (pos 2))) ∷
    []) ∷
    proc (line (stmt.Print (Literal (pos 3))) ∷ []) ∷
    []

abbrev pub stop_ends_the_run_trace : List Entry
stop_ends_the_run_trace =
    entry.Enq 0 false ∷ entry.Cycle ∷ entry.Job 0 ∷ entry.Print (pos 1) ∷ entry.Enq 1 false ∷
    entry.End ending.Stopped ∷ []

abbrev pub stop_ends_the_run : Row
stop_ends_the_run =
    record {
      program = without_ask stop_ends_the_run_program 0;
      config = usual;
      replies =
          empty 1 (Done ∷ []);
      trace = stop_ends_the_run_trace;
      asks =
          drains 1 (ask.Close ∷ []);
    }
