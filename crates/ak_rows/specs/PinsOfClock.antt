-- Pins of yields and alarms: short scripts, each about one rule, with the runs that another implementation gives.
use Rattle.std.specs.Prelude.{pos, negsuc, [], ◌∷◌, false}
use Rattle.ak_labor.specs.declared.ask.Ask.TheVariants as ask
use Rattle.ak_labor.specs.Calls.{Done}
use Rattle.ak_program.specs.declared.statement.NumAtom.TheVariants.{Literal, Local}
use Rattle.ak_program.specs.declared.statement.NumStmt.TheVariants as stmt
use Rattle.ak_trace.specs.declared.entry.Entry.TheVariants as entry
use Rattle.ak_trace.specs.declared.entry.Ending.TheVariants as ending
use Rattle.ak_rows.specs.Row.{Row, usual, without_ask, proc, line, empty, drains}

-- an alarm is due where its time is at most the clock, and one that is not due does not hold the run:
-- proc main; after a 3; after b 4; event e c 2; after d -1; upon a O 1; upon b O 2; upon c O 3; upon d O 4; tick 2;
-- tick 0; yield y; upon y T; end; proc T v:num; tick 1; print 9; end; proc O v:num w:num; print w; print v; end
abbrev pub alarm_at_its_time : Row
alarm_at_its_time =
    record {
      program = without_ask (
          proc (line (stmt.After 0 (Literal (pos 3))) ∷ line (stmt.After 1 (Literal (pos 4))) ∷ line (stmt.Event 2 3 (Literal (pos 2))) ∷
          line (stmt.After 4 (Literal (negsuc 0))) ∷ line (stmt.Upon 0 2 ((Literal (pos 1)) ∷ [])) ∷
          line (stmt.Upon 1 2 ((Literal (pos 2)) ∷ [])) ∷ line (stmt.Upon 3 2 ((Literal (pos 3)) ∷ [])) ∷
          line (stmt.Upon 4 2 ((Literal (pos 4)) ∷ [])) ∷ line (stmt.Tick (Literal (pos 2))) ∷ line (stmt.Tick (Literal (pos 0))) ∷
          line (stmt.Yield 5) ∷ line (stmt.Upon 5 1 []) ∷ []) ∷
          proc (line (stmt.Tick (Literal (pos 1))) ∷ line (stmt.Print (Literal (pos 9))) ∷ []) ∷
          proc (line (stmt.Print (Local 1)) ∷ line (stmt.Print (Local 0)) ∷ []) ∷
          []) 0;
      config = usual;
      replies = empty 8 (Done ∷ []);
      trace = (entry.Enq 0 false ∷ entry.Cycle ∷ entry.Job 0 ∷ entry.Cycle ∷ entry.Fill 4 (pos 0) ∷ entry.Enq 1 false ∷
          entry.Fill 3 (pos 0) ∷ entry.Enq 2 false ∷ entry.Fill 2 (pos 0) ∷ entry.Enq 3 false ∷ entry.Job 1 ∷
          entry.Print (pos 9) ∷ entry.Job 2 ∷ entry.Print (pos 4) ∷ entry.Print (pos 0) ∷ entry.Job 3 ∷
          entry.Print (pos 3) ∷ entry.Print (pos 0) ∷ entry.Cycle ∷ entry.Fill 0 (pos 0) ∷ entry.Enq 4 false ∷
          entry.Job 4 ∷ entry.Print (pos 1) ∷ entry.Print (pos 0) ∷ entry.End ending.Idle ∷ []);
      asks = drains 8 (ask.Close ∷ []);
    }

-- tick raises -9 where negative and -1 past the greatest number, after and event raise -1 there, and none of them
-- changes anything:
-- proc main; monitor m; detach m; tick 9223372036854775807; within m A; within m B; within m C; within m D; sched E;
-- end; proc A; tick 1; end; proc B; tick -1; end; proc C; after r 1; end; proc D; event e r 1; end; proc E; ivar i;
-- event e r 0; abort e; event f s 0; abort f; fill i 2; end
abbrev pub tick_and_after_at_the_ends : Row
tick_and_after_at_the_ends =
    record {
      program = without_ask (
          proc (line (stmt.Monitor 0) ∷ line (stmt.Detach 0) ∷ line (stmt.Tick (Literal (pos 9223372036854775807))) ∷
          line (stmt.Within 0 1 []) ∷ line (stmt.Within 0 2 []) ∷ line (stmt.Within 0 3 []) ∷ line (stmt.Within 0 4 []) ∷
          line (stmt.Sched 5 []) ∷ []) ∷
          proc (line (stmt.Tick (Literal (pos 1))) ∷ []) ∷
          proc (line (stmt.Tick (Literal (negsuc 0))) ∷ []) ∷
          proc (line (stmt.After 0 (Literal (pos 1))) ∷ []) ∷
          proc (line (stmt.Event 0 1 (Literal (pos 1))) ∷ []) ∷
          proc (line (stmt.Ivar 0) ∷ line (stmt.Event 1 2 (Literal (pos 0))) ∷ line (stmt.Abort 1) ∷ line (stmt.Event 3 4 (Literal (pos 0))) ∷
          line (stmt.Abort 3) ∷ line (stmt.Fill 0 (Literal (pos 2))) ∷ []) ∷
          []) 0;
      config = usual;
      replies = empty 7 (Done ∷ []);
      trace = (entry.Enq 0 false ∷ entry.Cycle ∷ entry.Job 0 ∷ entry.Monitor 1 0 ∷ entry.Detach 1 ∷ entry.Enq 1 false ∷
          entry.Enq 2 false ∷ entry.Enq 3 false ∷ entry.Enq 4 false ∷ entry.Enq 5 false ∷ entry.Job 1 ∷
          entry.Error (negsuc 0) 1 ∷ entry.Caught 1 ∷ entry.Job 2 ∷ entry.Error (negsuc 8) 1 ∷ entry.Caught 1 ∷
          entry.Job 3 ∷ entry.Error (negsuc 0) 1 ∷ entry.Caught 1 ∷ entry.Job 4 ∷ entry.Error (negsuc 0) 1 ∷
          entry.Caught 1 ∷ entry.Job 5 ∷ entry.Fill 1 (pos 1) ∷ entry.Fill 2 (pos 1) ∷ entry.Fill 0 (pos 2) ∷
          entry.End ending.Idle ∷ []);
      asks = drains 7 (ask.Close ∷ []);
    }

-- a cycle begins with its yields in order, then the alarms by time and number:
-- proc main; after a 2; after b 1; yield y; after c 2; yield z; upon a O 1; upon b O 2; upon c O 3; upon y O 4; upon
-- z O 5; tick 2; after d 0; upon d O 6; end; proc O v:num w:num; print w; print v; end
abbrev pub yields_then_alarms : Row
yields_then_alarms =
    record {
      program = without_ask (
          proc (line (stmt.After 0 (Literal (pos 2))) ∷ line (stmt.After 1 (Literal (pos 1))) ∷ line (stmt.Yield 2) ∷
          line (stmt.After 3 (Literal (pos 2))) ∷ line (stmt.Yield 4) ∷ line (stmt.Upon 0 1 ((Literal (pos 1)) ∷ [])) ∷
          line (stmt.Upon 1 1 ((Literal (pos 2)) ∷ [])) ∷ line (stmt.Upon 3 1 ((Literal (pos 3)) ∷ [])) ∷
          line (stmt.Upon 2 1 ((Literal (pos 4)) ∷ [])) ∷ line (stmt.Upon 4 1 ((Literal (pos 5)) ∷ [])) ∷
          line (stmt.Tick (Literal (pos 2))) ∷ line (stmt.After 5 (Literal (pos 0))) ∷ line (stmt.Upon 5 1 ((Literal (pos 6)) ∷ [])) ∷
          []) ∷
          proc (line (stmt.Print (Local 1)) ∷ line (stmt.Print (Local 0)) ∷ []) ∷
          []) 0;
      config = usual;
      replies = empty 9 (Done ∷ []);
      trace = (entry.Enq 0 false ∷ entry.Cycle ∷ entry.Job 0 ∷ entry.Cycle ∷ entry.Fill 2 (pos 0) ∷ entry.Enq 1 false ∷
          entry.Fill 4 (pos 0) ∷ entry.Enq 2 false ∷ entry.Fill 1 (pos 0) ∷ entry.Enq 3 false ∷ entry.Fill 0 (pos 0) ∷
          entry.Enq 4 false ∷ entry.Fill 3 (pos 0) ∷ entry.Enq 5 false ∷ entry.Fill 5 (pos 0) ∷ entry.Enq 6 false ∷
          entry.Job 1 ∷ entry.Print (pos 4) ∷ entry.Print (pos 0) ∷ entry.Job 2 ∷ entry.Print (pos 5) ∷
          entry.Print (pos 0) ∷ entry.Job 3 ∷ entry.Print (pos 2) ∷ entry.Print (pos 0) ∷ entry.Job 4 ∷
          entry.Print (pos 1) ∷ entry.Print (pos 0) ∷ entry.Job 5 ∷ entry.Print (pos 3) ∷ entry.Print (pos 0) ∷
          entry.Job 6 ∷ entry.Print (pos 6) ∷ entry.Print (pos 0) ∷ entry.End ending.Idle ∷ []);
      asks = drains 9 (ask.Close ∷ []);
    }
