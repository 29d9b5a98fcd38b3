-- Pins of monitors and of the way of an error: short scripts, each about one rule, with the runs that another implementation gives.
use Rattle.std.specs.Prelude.{pos, [], ◌∷◌, true, false, None}
use Rattle.ak_labor.specs.declared.ask.Ask.TheVariants as ask
use Rattle.ak_labor.specs.declared.work.Outcome.TheVariants as outcome
use Rattle.ak_labor.specs.declared.work.WorkKind.TheVariants as kind
use Rattle.ak_labor.specs.Calls.{Done}
use Rattle.ak_program.specs.declared.statement.NumAtom.TheVariants.{Literal, Local}
use Rattle.ak_program.specs.declared.statement.NumStmt.TheVariants as stmt
use Rattle.ak_trace.specs.declared.entry.Entry.TheVariants as entry
use Rattle.ak_trace.specs.declared.entry.Ending.TheVariants as ending
use Rattle.ak_rows.specs.Row.{Row, usual, brings, without_ask, proc, line, empty, drains, work}

-- a handler that raises does so in the monitor in which it was registered, not in the one that it serves; an
-- unhandled error fills no next error, and neither onerror nor nexterr detach:
-- proc main; monitor m; detach m; monitor k; onerror k O; nexterr x k; upon x O; monitor z; within k A m; end; proc A
-- m:mon; onerror m H; within m D; end; proc D; raise 5; end; proc H e:num; raise 6; end; proc O v:num; print v; end
abbrev pub error_of_a_handler : Row
error_of_a_handler =
    record {
      program = without_ask (
          proc (line (stmt.Monitor 0) ∷ line (stmt.Detach 0) ∷ line (stmt.Monitor 1) ∷ line (stmt.OnError 1 4 []) ∷
          line (stmt.NextError 2 1) ∷ line (stmt.Upon 2 4 []) ∷ line (stmt.Monitor 3) ∷ line (stmt.Within 1 1 ((Local 0) ∷ [])) ∷
          []) ∷
          proc (line (stmt.OnError 0 3 []) ∷ line (stmt.Within 0 2 []) ∷ []) ∷
          proc (line (stmt.Raise (Literal (pos 5))) ∷ []) ∷
          proc (line (stmt.Raise (Literal (pos 6))) ∷ []) ∷
          proc (line (stmt.Print (Local 0)) ∷ []) ∷
          []) 0;
      config = usual;
      replies = empty 4 (Done ∷ []);
      trace = (entry.Enq 0 false ∷ entry.Cycle ∷ entry.Job 0 ∷ entry.Monitor 1 0 ∷ entry.Detach 1 ∷ entry.Monitor 2 0 ∷
          entry.Monitor 3 0 ∷ entry.Enq 1 false ∷ entry.Job 1 ∷ entry.Enq 2 false ∷ entry.Job 2 ∷ entry.Error (pos 5) 1 ∷
          entry.Caught 1 ∷ entry.Enq 3 false ∷ entry.Job 3 ∷ entry.Error (pos 6) 2 ∷ entry.Unhandled (pos 6) ∷
          entry.End ending.Unhandled ∷ []);
      asks = drains 4 (ask.Close ∷ []);
    }

-- handlers of monitors below the one that catches do not act:
-- proc main; monitor m; detach m; within m A; end; proc A; monitor k; onerror k O 1; within k R; end; proc R; raise
-- 5; end; proc O v:num w:num; print w; print v; end
abbrev pub handler_below_the_caught_one : Row
handler_below_the_caught_one =
    record {
      program = without_ask (
          proc (line (stmt.Monitor 0) ∷ line (stmt.Detach 0) ∷ line (stmt.Within 0 1 []) ∷ []) ∷
          proc (line (stmt.Monitor 0) ∷ line (stmt.OnError 0 3 ((Literal (pos 1)) ∷ [])) ∷ line (stmt.Within 0 2 []) ∷
          []) ∷
          proc (line (stmt.Raise (Literal (pos 5))) ∷ []) ∷
          proc (line (stmt.Print (Local 1)) ∷ line (stmt.Print (Local 0)) ∷ []) ∷
          []) 0;
      config = usual;
      replies = empty 4 (Done ∷ []);
      trace = (entry.Enq 0 false ∷ entry.Cycle ∷ entry.Job 0 ∷ entry.Monitor 1 0 ∷ entry.Detach 1 ∷ entry.Enq 1 false ∷
          entry.Job 1 ∷ entry.Monitor 2 1 ∷ entry.Enq 2 false ∷ entry.Job 2 ∷ entry.Error (pos 5) 2 ∷
          entry.Caught 1 ∷ entry.End ending.Idle ∷ []);
      asks = drains 4 (ask.Close ∷ []);
    }

-- an error handler runs in the monitor and priority in which it was registered:
-- proc main; monitor m; detach m; monitor k; detach k; within k A m; low B m; yield y; upon y F m; end; proc A m:mon;
-- onerror m R; end; proc B m:mon; onerror m O; end; proc F v:num m:mon; send m 5; end; proc R e:num; raise 6; end;
-- proc O v:num; print v; end
abbrev pub handler_in_its_context : Row
handler_in_its_context =
    record {
      program = without_ask (
          proc (line (stmt.Monitor 0) ∷ line (stmt.Detach 0) ∷ line (stmt.Monitor 1) ∷ line (stmt.Detach 1) ∷
          line (stmt.Within 1 1 ((Local 0) ∷ [])) ∷ line (stmt.Low 2 ((Local 0) ∷ [])) ∷ line (stmt.Yield 2) ∷
          line (stmt.Upon 2 3 ((Local 0) ∷ [])) ∷ []) ∷
          proc (line (stmt.OnError 0 4 []) ∷ []) ∷
          proc (line (stmt.OnError 0 5 []) ∷ []) ∷
          proc (line (stmt.Send 1 (Literal (pos 5))) ∷ []) ∷
          proc (line (stmt.Raise (Literal (pos 6))) ∷ []) ∷
          proc (line (stmt.Print (Local 0)) ∷ []) ∷
          []) 0;
      config = usual;
      replies = empty 8 (Done ∷ []);
      trace = (entry.Enq 0 false ∷ entry.Cycle ∷ entry.Job 0 ∷ entry.Monitor 1 0 ∷ entry.Detach 1 ∷ entry.Monitor 2 0 ∷
          entry.Detach 2 ∷ entry.Enq 1 false ∷ entry.Enq 2 true ∷ entry.Job 1 ∷ entry.Job 2 ∷ entry.Cycle ∷
          entry.Fill 0 (pos 0) ∷ entry.Enq 3 false ∷ entry.Job 3 ∷ entry.Error (pos 5) 1 ∷ entry.Caught 1 ∷
          entry.Enq 4 false ∷ entry.Enq 5 true ∷ entry.Job 4 ∷ entry.Error (pos 6) 2 ∷ entry.Caught 2 ∷
          entry.Job 5 ∷ entry.Print (pos 5) ∷ entry.End ending.Idle ∷ []);
      asks = drains 8 (ask.Close ∷ []);
    }

-- within, detach, onerror, nexterr and send mean the monitor that they name, not the last one:
-- proc main; monitor a; monitor b; monitor c; detach b; onerror b O 1; nexterr x b; upon x O 2; within b R; send b 4;
-- detach a; nexterr z a; upon z O 3; send a 5; end; proc R; raise 6; end; proc O v:num w:num; print w; print v; end
abbrev pub monitors_by_their_names : Row
monitors_by_their_names =
    record {
      program = without_ask (
          proc (line (stmt.Monitor 0) ∷ line (stmt.Monitor 1) ∷ line (stmt.Monitor 2) ∷ line (stmt.Detach 1) ∷
          line (stmt.OnError 1 2 ((Literal (pos 1)) ∷ [])) ∷ line (stmt.NextError 3 1) ∷ line (stmt.Upon 3 2 ((Literal (pos 2)) ∷ [])) ∷
          line (stmt.Within 1 1 []) ∷ line (stmt.Send 1 (Literal (pos 4))) ∷ line (stmt.Detach 0) ∷ line (stmt.NextError 4 0) ∷
          line (stmt.Upon 4 2 ((Literal (pos 3)) ∷ [])) ∷ line (stmt.Send 0 (Literal (pos 5))) ∷ []) ∷
          proc (line (stmt.Raise (Literal (pos 6))) ∷ []) ∷
          proc (line (stmt.Print (Local 1)) ∷ line (stmt.Print (Local 0)) ∷ []) ∷
          []) 0;
      config = usual;
      replies = empty 7 (Done ∷ []);
      trace = (entry.Enq 0 false ∷ entry.Cycle ∷ entry.Job 0 ∷ entry.Monitor 1 0 ∷ entry.Monitor 2 0 ∷ entry.Monitor 3 0 ∷
          entry.Detach 2 ∷ entry.Enq 1 false ∷ entry.Error (pos 4) 2 ∷ entry.Caught 2 ∷ entry.Fill 0 (pos 4) ∷
          entry.Enq 2 false ∷ entry.Enq 3 false ∷ entry.Detach 1 ∷ entry.Error (pos 5) 1 ∷ entry.Caught 1 ∷
          entry.Fill 1 (pos 5) ∷ entry.Enq 4 false ∷ entry.Job 1 ∷ entry.Error (pos 6) 2 ∷ entry.Caught 2 ∷
          entry.Enq 5 false ∷ entry.Job 2 ∷ entry.Print (pos 2) ∷ entry.Print (pos 4) ∷ entry.Job 3 ∷
          entry.Print (pos 1) ∷ entry.Print (pos 4) ∷ entry.Job 4 ∷ entry.Print (pos 3) ∷ entry.Print (pos 5) ∷
          entry.Job 5 ∷ entry.Print (pos 1) ∷ entry.Print (pos 6) ∷ entry.End ending.Idle ∷ []);
      asks = drains 7 (ask.Close ∷ []);
    }

-- next errors are filled from the monitor of the error up to the one that catches and no further, oldest first in
-- each; detach writes its entry each time:
-- proc main; monitor z; nexterr q z; upon q O 5; within z A; end; proc A; monitor a; detach a; detach a; nexterr r a;
-- nexterr s a; within a B r s; end; proc B r:def s:def; monitor b; nexterr t b; nexterr u b; upon r O 1; upon s O 2;
-- upon t O 3; upon u O 4; within b R; end; proc R; raise 5; end; proc O v:num w:num; print w; print v; end
abbrev pub next_errors_oldest_first : Row
next_errors_oldest_first =
    record {
      program = without_ask (
          proc (line (stmt.Monitor 0) ∷ line (stmt.NextError 1 0) ∷ line (stmt.Upon 1 4 ((Literal (pos 5)) ∷ [])) ∷
          line (stmt.Within 0 1 []) ∷ []) ∷
          proc (line (stmt.Monitor 0) ∷ line (stmt.Detach 0) ∷ line (stmt.Detach 0) ∷ line (stmt.NextError 1 0) ∷
          line (stmt.NextError 2 0) ∷ line (stmt.Within 0 2 ((Local 1) ∷ (Local 2) ∷ [])) ∷ []) ∷
          proc (line (stmt.Monitor 2) ∷ line (stmt.NextError 3 2) ∷ line (stmt.NextError 4 2) ∷ line (stmt.Upon 0 4 ((Literal (pos 1)) ∷ [])) ∷
          line (stmt.Upon 1 4 ((Literal (pos 2)) ∷ [])) ∷ line (stmt.Upon 3 4 ((Literal (pos 3)) ∷ [])) ∷
          line (stmt.Upon 4 4 ((Literal (pos 4)) ∷ [])) ∷ line (stmt.Within 2 3 []) ∷ []) ∷
          proc (line (stmt.Raise (Literal (pos 5))) ∷ []) ∷
          proc (line (stmt.Print (Local 1)) ∷ line (stmt.Print (Local 0)) ∷ []) ∷
          []) 0;
      config = usual;
      replies = empty 9 (Done ∷ []);
      trace = (entry.Enq 0 false ∷ entry.Cycle ∷ entry.Job 0 ∷ entry.Monitor 1 0 ∷ entry.Enq 1 false ∷ entry.Job 1 ∷
          entry.Monitor 2 1 ∷ entry.Detach 2 ∷ entry.Detach 2 ∷ entry.Enq 2 false ∷ entry.Job 2 ∷ entry.Monitor 3 2 ∷
          entry.Enq 3 false ∷ entry.Job 3 ∷ entry.Error (pos 5) 3 ∷ entry.Caught 2 ∷ entry.Fill 3 (pos 5) ∷
          entry.Enq 4 false ∷ entry.Fill 4 (pos 5) ∷ entry.Enq 5 false ∷ entry.Fill 1 (pos 5) ∷ entry.Enq 6 false ∷
          entry.Fill 2 (pos 5) ∷ entry.Enq 7 false ∷ entry.Job 4 ∷ entry.Print (pos 3) ∷ entry.Print (pos 5) ∷
          entry.Job 5 ∷ entry.Print (pos 4) ∷ entry.Print (pos 5) ∷ entry.Job 6 ∷ entry.Print (pos 1) ∷
          entry.Print (pos 5) ∷ entry.Job 7 ∷ entry.Print (pos 2) ∷ entry.Print (pos 5) ∷ entry.End ending.Idle ∷
          []);
      asks = drains 9 (ask.Close ∷ []);
    }

-- an unhandled error in a drain ends the run before the pairs behind it arrive:
-- proc main; work a fail 3; work b fail 4; work c square 2; end
abbrev pub unhandled_in_a_drain : Row
unhandled_in_a_drain =
    record {
      program = without_ask (
          proc (line (stmt.Work 0 kind.Fail (Literal (pos 3))) ∷ line (stmt.Work 1 kind.Fail (Literal (pos 4))) ∷
          line (stmt.Work 2 kind.Square (Literal (pos 2))) ∷ []) ∷
          []) 0;
      config = record usual { threads = 2 };
      replies = empty 1 (Done ∷ Done ∷ Done ∷ brings ((0, (outcome.Bad (pos 3))) ∷ (1, (outcome.Bad (pos 4))) ∷ [])
          ∷ Done ∷ []);
      trace = (entry.Enq 0 false ∷ entry.Cycle ∷ entry.Job 0 ∷ entry.Submit 0 kind.Fail (pos 3) ∷ entry.Submit 1 kind.Fail (pos 4) ∷
          entry.Submit 2 kind.Square (pos 2) ∷ entry.Arrive 0 (outcome.Bad (pos 3)) ∷ entry.Error (pos 3) 0 ∷
          entry.Unhandled (pos 3) ∷ entry.End ending.Unhandled ∷ []);
      asks = drains 1 (ask.Submit 0 (work kind.Fail (pos 3)) None
          ∷ ask.Submit 1 (work kind.Fail (pos 4)) None
          ∷ ask.Submit 2 (work kind.Square (pos 2)) None ∷ drains 1 (ask.Close ∷ []));
    }
