-- Pins of throttles and their bodies: short scripts, each about one rule, with the runs that another implementation gives.
use Rattle.std.specs.Prelude.{pos, negsuc, [], ◌∷◌, true, false}
use Rattle.ak_labor.specs.declared.ask.Ask.TheVariants as ask
use Rattle.ak_labor.specs.Calls.{Done}
use Rattle.ak_program.specs.declared.statement.NumAtom.TheVariants.{Literal, Local}
use Rattle.ak_program.specs.declared.statement.NumStmt.TheVariants as stmt
use Rattle.ak_trace.specs.declared.entry.Entry.TheVariants as entry
use Rattle.ak_trace.specs.declared.entry.Ending.TheVariants as ending
use Rattle.ak_rows.specs.Row.{Row, usual, without_ask, proc, line, empty, drains}

-- the deferred of a body that has failed is not waited for:
-- proc main; throttle t 1 go; monitor m; detach m; within m E t; end; proc E t:thr; enqueue a t R; upon a O; end;
-- proc R; monitor c; send c 5; yield y; ret y; end; proc O v:num; print v; end
abbrev pub body_decided_then_deferred : Row
body_decided_then_deferred =
    record {
      program = without_ask (
          proc (line (stmt.Throttle 0 1 false) ∷ line (stmt.Monitor 1) ∷ line (stmt.Detach 1) ∷ line (stmt.Within 1 1 ((Local 0) ∷ [])) ∷
          []) ∷
          proc (line (stmt.Enqueue 1 0 2 []) ∷ line (stmt.Upon 1 3 []) ∷ []) ∷
          proc (line (stmt.Monitor 0) ∷ line (stmt.Send 0 (Literal (pos 5))) ∷ line (stmt.Yield 1) ∷ line (stmt.Ret (Local 1)) ∷
          []) ∷
          proc (line (stmt.Print (Local 0)) ∷ []) ∷
          []) 0;
      config = usual;
      replies = empty 6 (Done ∷ []);
      trace = (entry.Enq 0 false ∷ entry.Cycle ∷ entry.Job 0 ∷ entry.Monitor 1 0 ∷ entry.Detach 1 ∷ entry.Enq 1 false ∷
          entry.Job 1 ∷ entry.Monitor 2 1 ∷ entry.Detach 2 ∷ entry.Enq 2 false ∷ entry.Job 2 ∷ entry.Monitor 3 2 ∷
          entry.Error (pos 5) 3 ∷ entry.Caught 2 ∷ entry.Enq 3 false ∷ entry.Job 3 ∷ entry.Error (pos 5) 1 ∷
          entry.Caught 1 ∷ entry.Cycle ∷ entry.Fill 1 (pos 0) ∷ entry.End ending.Idle ∷ []);
      asks = drains 6 (ask.Close ∷ []);
    }

-- the failing of a body is a job in the context of its enqueue:
-- proc main; throttle t 1 go; monitor m; detach m; onerror m O; within m E t; low W t m; end; proc W t:thr m:mon;
-- within m E t; end; proc E t:thr; enqueue a t R; end; proc R; raise 4; end; proc O v:num; print v; end
abbrev pub body_error_in_its_context : Row
body_error_in_its_context =
    record {
      program = without_ask (
          proc (line (stmt.Throttle 0 1 false) ∷ line (stmt.Monitor 1) ∷ line (stmt.Detach 1) ∷ line (stmt.OnError 1 4 []) ∷
          line (stmt.Within 1 2 ((Local 0) ∷ [])) ∷ line (stmt.Low 1 ((Local 0) ∷ (Local 1) ∷ [])) ∷
          []) ∷
          proc (line (stmt.Within 1 2 ((Local 0) ∷ [])) ∷ []) ∷
          proc (line (stmt.Enqueue 1 0 3 []) ∷ []) ∷
          proc (line (stmt.Raise (Literal (pos 4))) ∷ []) ∷
          proc (line (stmt.Print (Local 0)) ∷ []) ∷
          []) 0;
      config = usual;
      replies = empty 11 (Done ∷ []);
      trace = (entry.Enq 0 false ∷ entry.Cycle ∷ entry.Job 0 ∷ entry.Monitor 1 0 ∷ entry.Detach 1 ∷ entry.Enq 1 false ∷
          entry.Enq 2 true ∷ entry.Job 1 ∷ entry.Monitor 2 1 ∷ entry.Detach 2 ∷ entry.Enq 3 false ∷ entry.Job 3 ∷
          entry.Error (pos 4) 2 ∷ entry.Caught 2 ∷ entry.Enq 4 false ∷ entry.Job 4 ∷ entry.Error (pos 4) 1 ∷
          entry.Caught 1 ∷ entry.Enq 5 false ∷ entry.Job 5 ∷ entry.Print (pos 4) ∷ entry.Job 2 ∷ entry.Enq 6 true ∷
          entry.Job 6 ∷ entry.Monitor 3 1 ∷ entry.Detach 3 ∷ entry.Enq 7 true ∷ entry.Job 7 ∷ entry.Error (pos 4) 3 ∷
          entry.Caught 3 ∷ entry.Enq 8 true ∷ entry.Job 8 ∷ entry.Error (pos 4) 1 ∷ entry.Caught 1 ∷
          entry.Enq 9 false ∷ entry.Job 9 ∷ entry.Print (pos 4) ∷ entry.End ending.Idle ∷ []);
      asks = drains 11 (ask.Close ∷ []);
    }

-- a body fails once, later errors of it are noted alone, and its number is dropped:
-- proc main; throttle t 1 go; monitor m; detach m; within m E t; end; proc E t:thr; enqueue a t R; enqueue b t B;
-- upon a O; upon b O; end; proc R; monitor c; sched X; send c 5; send c 6; ret 7; end; proc X; raise 8; end; proc B;
-- ret 1; end; proc O v:num; print v; end
abbrev pub body_fails_once : Row
body_fails_once =
    record {
      program = without_ask (
          proc (line (stmt.Throttle 0 1 false) ∷ line (stmt.Monitor 1) ∷ line (stmt.Detach 1) ∷ line (stmt.Within 1 1 ((Local 0) ∷ [])) ∷
          []) ∷
          proc (line (stmt.Enqueue 1 0 2 []) ∷ line (stmt.Enqueue 2 0 4 []) ∷ line (stmt.Upon 1 5 []) ∷ line (stmt.Upon 2 5 []) ∷
          []) ∷
          proc (line (stmt.Monitor 0) ∷ line (stmt.Sched 3 []) ∷ line (stmt.Send 0 (Literal (pos 5))) ∷ line (stmt.Send 0 (Literal (pos 6))) ∷
          line (stmt.Ret (Literal (pos 7))) ∷ []) ∷
          proc (line (stmt.Raise (Literal (pos 8))) ∷ []) ∷
          proc (line (stmt.Ret (Literal (pos 1))) ∷ []) ∷
          proc (line (stmt.Print (Local 0)) ∷ []) ∷
          []) 0;
      config = usual;
      replies = empty 8 (Done ∷ []);
      trace = (entry.Enq 0 false ∷ entry.Cycle ∷ entry.Job 0 ∷ entry.Monitor 1 0 ∷ entry.Detach 1 ∷ entry.Enq 1 false ∷
          entry.Job 1 ∷ entry.Monitor 2 1 ∷ entry.Detach 2 ∷ entry.Enq 2 false ∷ entry.Job 2 ∷ entry.Monitor 3 2 ∷
          entry.Enq 3 false ∷ entry.Error (pos 5) 3 ∷ entry.Caught 2 ∷ entry.Enq 4 false ∷ entry.Error (pos 6) 3 ∷
          entry.Caught 2 ∷ entry.Rest (pos 6) ∷ entry.Job 3 ∷ entry.Error (pos 8) 2 ∷ entry.Caught 2 ∷
          entry.Rest (pos 8) ∷ entry.Job 4 ∷ entry.Monitor 4 1 ∷ entry.Detach 4 ∷ entry.Enq 5 false ∷
          entry.Error (pos 5) 1 ∷ entry.Caught 1 ∷ entry.Job 5 ∷ entry.Fill 1 (pos 1) ∷ entry.Enq 6 false ∷
          entry.Job 6 ∷ entry.Print (pos 1) ∷ entry.End ending.Idle ∷ []);
      asks = drains 8 (ask.Close ∷ []);
    }

-- enqueue on a dead throttle raises -5 and draws nothing, one before the failing job does not:
-- proc main; throttle t 1 stop; monitor m; detach m; within m E t; end; proc E t:thr; enqueue a t R t; yield y; upon
-- y Z t; end; proc R t:thr; sched N t; raise 9; end; proc N t:thr; enqueue c t B; end; proc B; end; proc Z v:num
-- t:thr; monitor m; within m W t; sched V; end; proc W t:thr; enqueue b t B; end; proc V; ivar i; fill i 2; end
abbrev pub dead_throttle : Row
dead_throttle =
    record {
      program = without_ask (
          proc (line (stmt.Throttle 0 1 true) ∷ line (stmt.Monitor 1) ∷ line (stmt.Detach 1) ∷ line (stmt.Within 1 1 ((Local 0) ∷ [])) ∷
          []) ∷
          proc (line (stmt.Enqueue 1 0 2 ((Local 0) ∷ [])) ∷ line (stmt.Yield 2) ∷ line (stmt.Upon 2 5 ((Local 0) ∷ [])) ∷
          []) ∷
          proc (line (stmt.Sched 3 ((Local 0) ∷ [])) ∷ line (stmt.Raise (Literal (pos 9))) ∷ []) ∷
          proc (line (stmt.Enqueue 1 0 4 []) ∷ []) ∷
          proc [] ∷
          proc (line (stmt.Monitor 2) ∷ line (stmt.Within 2 6 ((Local 1) ∷ [])) ∷ line (stmt.Sched 7 []) ∷
          []) ∷
          proc (line (stmt.Enqueue 1 0 4 []) ∷ []) ∷
          proc (line (stmt.Ivar 0) ∷ line (stmt.Fill 0 (Literal (pos 2))) ∷ []) ∷
          []) 0;
      config = usual;
      replies = empty 11 (Done ∷ []);
      trace = (entry.Enq 0 false ∷ entry.Cycle ∷ entry.Job 0 ∷ entry.Monitor 1 0 ∷ entry.Detach 1 ∷ entry.Enq 1 false ∷
          entry.Job 1 ∷ entry.Monitor 2 1 ∷ entry.Detach 2 ∷ entry.Enq 2 false ∷ entry.Job 2 ∷ entry.Enq 3 false ∷
          entry.Error (pos 9) 2 ∷ entry.Caught 2 ∷ entry.Enq 4 false ∷ entry.Job 3 ∷ entry.Job 4 ∷ entry.Enq 5 false ∷
          entry.Error (pos 9) 1 ∷ entry.Caught 1 ∷ entry.Job 5 ∷ entry.Error (negsuc 5) 2 ∷ entry.Caught 2 ∷
          entry.Rest (negsuc 5) ∷ entry.Cycle ∷ entry.Fill 1 (pos 0) ∷ entry.Enq 6 false ∷ entry.Job 6 ∷
          entry.Monitor 3 1 ∷ entry.Enq 7 false ∷ entry.Enq 8 false ∷ entry.Job 7 ∷ entry.Error (negsuc 4) 3 ∷
          entry.Caught 1 ∷ entry.Job 8 ∷ entry.Fill 3 (pos 2) ∷ entry.End ending.Idle ∷ []);
      asks = drains 11 (ask.Close ∷ []);
    }

-- an error of a body that has ended is noted alone:
-- proc main; throttle t 1 stop; enqueue a t R; enqueue b t B; upon b O; end; proc R; sched X; ret 3; end; proc X;
-- raise 8; end; proc B; ret 1; end; proc O v:num; print v; end
abbrev pub error_after_the_end_of_a_body : Row
error_after_the_end_of_a_body =
    record {
      program = without_ask (
          proc (line (stmt.Throttle 0 1 true) ∷ line (stmt.Enqueue 1 0 1 []) ∷ line (stmt.Enqueue 2 0 3 []) ∷
          line (stmt.Upon 2 4 []) ∷ []) ∷
          proc (line (stmt.Sched 2 []) ∷ line (stmt.Ret (Literal (pos 3))) ∷ []) ∷
          proc (line (stmt.Raise (Literal (pos 8))) ∷ []) ∷
          proc (line (stmt.Ret (Literal (pos 1))) ∷ []) ∷
          proc (line (stmt.Print (Local 0)) ∷ []) ∷
          []) 0;
      config = usual;
      replies = empty 6 (Done ∷ []);
      trace = (entry.Enq 0 false ∷ entry.Cycle ∷ entry.Job 0 ∷ entry.Monitor 1 0 ∷ entry.Detach 1 ∷ entry.Enq 1 false ∷
          entry.Job 1 ∷ entry.Enq 2 false ∷ entry.Fill 0 (pos 3) ∷ entry.Monitor 2 0 ∷ entry.Detach 2 ∷
          entry.Enq 3 false ∷ entry.Job 2 ∷ entry.Error (pos 8) 1 ∷ entry.Caught 1 ∷ entry.Rest (pos 8) ∷
          entry.Job 3 ∷ entry.Fill 1 (pos 1) ∷ entry.Enq 4 false ∷ entry.Job 4 ∷ entry.Print (pos 1) ∷
          entry.End ending.Idle ∷ []);
      asks = drains 6 (ask.Close ∷ []);
    }

-- in mode stop a failing body drops those that wait, front first, each with -6 in the context of its enqueue; then
-- come the marks, then the error:
-- proc main; throttle t 1 stop; monitor m; detach m; onerror m O 9; within m E t; end; proc E t:thr; enqueue a t R;
-- low L t; tdone z t; enqueue b t B; tdone c t; upon c O 1; upon z O 2; upon b O 3; end; proc L t:thr; enqueue d t B;
-- end; proc R; yield y; upon y X; ret y; end; proc X v:num; raise 4; end; proc B; print 5; ret 1; end; proc O v:num
-- w:num; print w; print v; end
abbrev pub failing_body_stop : Row
failing_body_stop =
    record {
      program = without_ask (
          proc (line (stmt.Throttle 0 1 true) ∷ line (stmt.Monitor 1) ∷ line (stmt.Detach 1) ∷ line (stmt.OnError 1 6 ((Literal (pos 9)) ∷ [])) ∷
          line (stmt.Within 1 1 ((Local 0) ∷ [])) ∷ []) ∷
          proc (line (stmt.Enqueue 1 0 3 []) ∷ line (stmt.Low 2 ((Local 0) ∷ [])) ∷ line (stmt.ThrottleDone 2 0) ∷
          line (stmt.Enqueue 3 0 5 []) ∷ line (stmt.ThrottleDone 4 0) ∷ line (stmt.Upon 4 6 ((Literal (pos 1)) ∷ [])) ∷
          line (stmt.Upon 2 6 ((Literal (pos 2)) ∷ [])) ∷ line (stmt.Upon 3 6 ((Literal (pos 3)) ∷ [])) ∷
          []) ∷
          proc (line (stmt.Enqueue 1 0 5 []) ∷ []) ∷
          proc (line (stmt.Yield 0) ∷ line (stmt.Upon 0 4 []) ∷ line (stmt.Ret (Local 0)) ∷ []) ∷
          proc (line (stmt.Raise (Literal (pos 4))) ∷ []) ∷
          proc (line (stmt.Print (Literal (pos 5))) ∷ line (stmt.Ret (Literal (pos 1))) ∷ []) ∷
          proc (line (stmt.Print (Local 1)) ∷ line (stmt.Print (Local 0)) ∷ []) ∷
          []) 0;
      config = usual;
      replies = empty 16 (Done ∷ []);
      trace = (entry.Enq 0 false ∷ entry.Cycle ∷ entry.Job 0 ∷ entry.Monitor 1 0 ∷ entry.Detach 1 ∷ entry.Enq 1 false ∷
          entry.Job 1 ∷ entry.Monitor 2 1 ∷ entry.Detach 2 ∷ entry.Enq 2 false ∷ entry.Enq 3 true ∷ entry.Job 2 ∷
          entry.Job 3 ∷ entry.Cycle ∷ entry.Fill 4 (pos 0) ∷ entry.Enq 4 false ∷ entry.Enq 5 false ∷
          entry.Job 4 ∷ entry.Error (pos 4) 2 ∷ entry.Caught 2 ∷ entry.Enq 6 false ∷ entry.Job 5 ∷ entry.Job 6 ∷
          entry.Enq 7 false ∷ entry.Enq 8 true ∷ entry.Fill 1 (pos 0) ∷ entry.Enq 9 false ∷ entry.Fill 3 (pos 0) ∷
          entry.Enq 10 false ∷ entry.Error (pos 4) 1 ∷ entry.Caught 1 ∷ entry.Enq 11 false ∷ entry.Job 7 ∷
          entry.Error (negsuc 5) 1 ∷ entry.Caught 1 ∷ entry.Enq 12 false ∷ entry.Job 9 ∷ entry.Print (pos 2) ∷
          entry.Print (pos 0) ∷ entry.Job 10 ∷ entry.Print (pos 1) ∷ entry.Print (pos 0) ∷ entry.Job 11 ∷
          entry.Print (pos 9) ∷ entry.Print (pos 4) ∷ entry.Job 12 ∷ entry.Print (pos 9) ∷ entry.Print (negsuc 5) ∷
          entry.Job 8 ∷ entry.Error (negsuc 5) 1 ∷ entry.Caught 1 ∷ entry.Enq 13 false ∷ entry.Job 13 ∷
          entry.Print (pos 9) ∷ entry.Print (negsuc 5) ∷ entry.End ending.Idle ∷ []);
      asks = drains 16 (ask.Close ∷ []);
    }

-- a mark waits for the bodies before it, for all of them and for no others; where a body ends the front waiting one
-- starts, then marks are filled, oldest first:
-- proc main; throttle t 2 go; enqueue a t N; tdone c t; enqueue b t B; enqueue e t B; tdone d t; enqueue f t V;
-- enqueue g t B; upon c O 1; upon d O 2; end; proc N; yield y; ret y; end; proc B; ret 1; end; proc V; never n; ret
-- n; end; proc O v:num w:num; print w; print v; end
abbrev pub mark_of_the_bodies_before : Row
mark_of_the_bodies_before =
    record {
      program = without_ask (
          proc (line (stmt.Throttle 0 2 false) ∷ line (stmt.Enqueue 1 0 1 []) ∷ line (stmt.ThrottleDone 2 0) ∷
          line (stmt.Enqueue 3 0 2 []) ∷ line (stmt.Enqueue 4 0 2 []) ∷ line (stmt.ThrottleDone 5 0) ∷
          line (stmt.Enqueue 6 0 3 []) ∷ line (stmt.Enqueue 7 0 2 []) ∷ line (stmt.Upon 2 4 ((Literal (pos 1)) ∷ [])) ∷
          line (stmt.Upon 5 4 ((Literal (pos 2)) ∷ [])) ∷ []) ∷
          proc (line (stmt.Yield 0) ∷ line (stmt.Ret (Local 0)) ∷ []) ∷
          proc (line (stmt.Ret (Literal (pos 1))) ∷ []) ∷
          proc (line (stmt.Never 0) ∷ line (stmt.Ret (Local 0)) ∷ []) ∷
          proc (line (stmt.Print (Local 1)) ∷ line (stmt.Print (Local 0)) ∷ []) ∷
          []) 0;
      config = usual;
      replies = empty 11 (Done ∷ []);
      trace = (entry.Enq 0 false ∷ entry.Cycle ∷ entry.Job 0 ∷ entry.Monitor 1 0 ∷ entry.Detach 1 ∷ entry.Enq 1 false ∷
          entry.Monitor 2 0 ∷ entry.Detach 2 ∷ entry.Enq 2 false ∷ entry.Job 1 ∷ entry.Job 2 ∷ entry.Fill 2 (pos 1) ∷
          entry.Monitor 3 0 ∷ entry.Detach 3 ∷ entry.Enq 3 false ∷ entry.Job 3 ∷ entry.Fill 3 (pos 1) ∷
          entry.Monitor 4 0 ∷ entry.Detach 4 ∷ entry.Enq 4 false ∷ entry.Job 4 ∷ entry.Cycle ∷ entry.Fill 7 (pos 0) ∷
          entry.Enq 5 false ∷ entry.Job 5 ∷ entry.Fill 0 (pos 0) ∷ entry.Monitor 5 0 ∷ entry.Detach 5 ∷
          entry.Enq 6 false ∷ entry.Fill 1 (pos 0) ∷ entry.Enq 7 false ∷ entry.Fill 4 (pos 0) ∷ entry.Enq 8 false ∷
          entry.Job 6 ∷ entry.Fill 6 (pos 1) ∷ entry.Job 7 ∷ entry.Print (pos 1) ∷ entry.Print (pos 0) ∷
          entry.Job 8 ∷ entry.Print (pos 2) ∷ entry.Print (pos 0) ∷ entry.End ending.Idle ∷ []);
      asks = drains 11 (ask.Close ∷ []);
    }

-- after an end and a failure in mode go one waiting body each starts, and as many bodies run as before; all this in
-- the monitor and priority of the enqueue:
-- proc main; throttle t 2 go; monitor m; detach m; monitor z; low L t m; end; proc L t:thr m:mon; within m E t; end;
-- proc E t:thr; enqueue a t R; enqueue b t B; enqueue c t N; enqueue d t N; enqueue e t N; yield y; upon y F t; end;
-- proc R; raise 5; end; proc B; yield y; ret y; end; proc N; never r; ret r; end; proc F v:num t:thr; yield y; upon y
-- G t; end; proc G v:num t:thr; enqueue c t B; print 1; end
abbrev pub room_after_ends_and_failures : Row
room_after_ends_and_failures =
    record {
      program = without_ask (
          proc (line (stmt.Throttle 0 2 false) ∷ line (stmt.Monitor 1) ∷ line (stmt.Detach 1) ∷ line (stmt.Monitor 2) ∷
          line (stmt.Low 1 ((Local 0) ∷ (Local 1) ∷ [])) ∷ []) ∷
          proc (line (stmt.Within 1 2 ((Local 0) ∷ [])) ∷ []) ∷
          proc (line (stmt.Enqueue 1 0 3 []) ∷ line (stmt.Enqueue 2 0 4 []) ∷ line (stmt.Enqueue 3 0 5 []) ∷
          line (stmt.Enqueue 4 0 5 []) ∷ line (stmt.Enqueue 5 0 5 []) ∷ line (stmt.Yield 6) ∷ line (stmt.Upon 6 6 ((Local 0) ∷ [])) ∷
          []) ∷
          proc (line (stmt.Raise (Literal (pos 5))) ∷ []) ∷
          proc (line (stmt.Yield 0) ∷ line (stmt.Ret (Local 0)) ∷ []) ∷
          proc (line (stmt.Never 0) ∷ line (stmt.Ret (Local 0)) ∷ []) ∷
          proc (line (stmt.Yield 2) ∷ line (stmt.Upon 2 7 ((Local 1) ∷ [])) ∷ []) ∷
          proc (line (stmt.Enqueue 2 1 4 []) ∷ line (stmt.Print (Literal (pos 1))) ∷ []) ∷
          []) 0;
      config = usual;
      replies = empty 14 (Done ∷ []);
      trace = (entry.Enq 0 false ∷ entry.Cycle ∷ entry.Job 0 ∷ entry.Monitor 1 0 ∷ entry.Detach 1 ∷ entry.Monitor 2 0 ∷
          entry.Enq 1 true ∷ entry.Job 1 ∷ entry.Enq 2 true ∷ entry.Job 2 ∷ entry.Monitor 3 1 ∷ entry.Detach 3 ∷
          entry.Enq 3 true ∷ entry.Monitor 4 1 ∷ entry.Detach 4 ∷ entry.Enq 4 true ∷ entry.Job 3 ∷ entry.Error (pos 5) 3 ∷
          entry.Caught 3 ∷ entry.Enq 5 true ∷ entry.Job 4 ∷ entry.Job 5 ∷ entry.Monitor 5 1 ∷ entry.Detach 5 ∷
          entry.Enq 6 true ∷ entry.Error (pos 5) 1 ∷ entry.Caught 1 ∷ entry.Job 6 ∷ entry.Cycle ∷ entry.Fill 5 (pos 0) ∷
          entry.Enq 7 true ∷ entry.Fill 6 (pos 0) ∷ entry.Enq 8 true ∷ entry.Job 7 ∷ entry.Job 8 ∷ entry.Fill 1 (pos 0) ∷
          entry.Monitor 6 1 ∷ entry.Detach 6 ∷ entry.Enq 9 true ∷ entry.Job 9 ∷ entry.Cycle ∷ entry.Fill 8 (pos 0) ∷
          entry.Enq 10 true ∷ entry.Job 10 ∷ entry.Print (pos 1) ∷ entry.End ending.Idle ∷ []);
      asks = drains 14 (ask.Close ∷ []);
    }
