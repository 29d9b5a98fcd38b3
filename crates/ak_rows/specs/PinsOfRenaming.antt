-- Pins of connections: what is renamed, and what is not: short scripts, each about one rule, with the runs that another implementation gives.
use Rattle.std.specs.Prelude.{pos, negsuc, [], ◌∷◌, true, false, None}
use Rattle.ak_labor.specs.declared.ask.Ask.TheVariants as ask
use Rattle.ak_labor.specs.declared.work.Outcome.TheVariants as outcome
use Rattle.ak_labor.specs.declared.work.WorkKind.TheVariants as kind
use Rattle.ak_labor.specs.Calls.{Granted, Done}
use Rattle.ak_script.specs.declared.statement.GuardMode.TheVariants as mode
use Rattle.ak_program.specs.declared.statement.NumAtom.TheVariants.{Literal, Local}
use Rattle.ak_program.specs.declared.statement.NumStmt.TheVariants as stmt
use Rattle.ak_trace.specs.declared.entry.Entry.TheVariants as entry
use Rattle.ak_trace.specs.declared.entry.Ending.TheVariants as ending
use Rattle.ak_rows.specs.Row.{Row, usual, brings, without_ask, proc, line, choice, empty, drains, work}

-- handlers keep context and order through a connection:
-- proc main; ivar i; monitor m; detach m; monitor z; upon i O 1; within m M i; low L i; yield y; bind r y P i; upon r
-- O 2; yield x; upon x F i; end; proc P v:num i:ivar; ret i; end; proc M i:ivar; upon i R; end; proc L i:ivar; upon i
-- O 3; end; proc F v:num i:ivar; yield w; upon w G i; end; proc G v:num i:ivar; fill i 7; end; proc R v:num; raise v;
-- end; proc O v:num w:num; print w; print v; end
abbrev pub connection_keeps_contexts : Row
connection_keeps_contexts =
    record {
      program = without_ask (
          proc (line (stmt.Ivar 0) ∷ line (stmt.Monitor 1) ∷ line (stmt.Detach 1) ∷ line (stmt.Monitor 2) ∷
          line (stmt.Upon 0 7 ((Literal (pos 1)) ∷ [])) ∷ line (stmt.Within 1 2 ((Local 0) ∷ [])) ∷ line (stmt.Low 3 ((Local 0) ∷ [])) ∷
          line (stmt.Yield 3) ∷ line (stmt.Bind 4 3 1 ((Local 0) ∷ [])) ∷ line (stmt.Upon 4 7 ((Literal (pos 2)) ∷ [])) ∷
          line (stmt.Yield 5) ∷ line (stmt.Upon 5 4 ((Local 0) ∷ [])) ∷ []) ∷
          proc (line (stmt.Ret (Local 1)) ∷ []) ∷
          proc (line (stmt.Upon 0 6 []) ∷ []) ∷
          proc (line (stmt.Upon 0 7 ((Literal (pos 3)) ∷ [])) ∷ []) ∷
          proc (line (stmt.Yield 2) ∷ line (stmt.Upon 2 5 ((Local 1) ∷ [])) ∷ []) ∷
          proc (line (stmt.Fill 1 (Literal (pos 7))) ∷ []) ∷
          proc (line (stmt.Raise (Local 0)) ∷ []) ∷
          proc (line (stmt.Print (Local 1)) ∷ line (stmt.Print (Local 0)) ∷ []) ∷
          []) 0;
      config = usual;
      replies = empty 13 (Done ∷ []);
      trace = (entry.Enq 0 false ∷ entry.Cycle ∷ entry.Job 0 ∷ entry.Monitor 1 0 ∷ entry.Detach 1 ∷ entry.Monitor 2 0 ∷
          entry.Enq 1 false ∷ entry.Enq 2 true ∷ entry.Job 1 ∷ entry.Job 2 ∷ entry.Cycle ∷ entry.Fill 1 (pos 0) ∷
          entry.Enq 3 false ∷ entry.Fill 3 (pos 0) ∷ entry.Enq 4 false ∷ entry.Job 3 ∷ entry.Join 2 0 ∷
          entry.Job 4 ∷ entry.Cycle ∷ entry.Fill 4 (pos 0) ∷ entry.Enq 5 false ∷ entry.Job 5 ∷ entry.Fill 2 (pos 7) ∷
          entry.Enq 6 false ∷ entry.Enq 7 false ∷ entry.Enq 8 false ∷ entry.Enq 9 true ∷ entry.Job 6 ∷
          entry.Print (pos 1) ∷ entry.Print (pos 7) ∷ entry.Job 7 ∷ entry.Print (pos 2) ∷ entry.Print (pos 7) ∷
          entry.Job 8 ∷ entry.Error (pos 7) 1 ∷ entry.Caught 1 ∷ entry.Job 9 ∷ entry.Print (pos 3) ∷
          entry.Print (pos 7) ∷ entry.End ending.Idle ∷ []);
      asks = drains 13 (ask.Close ∷ []);
    }

-- a connection to a full deferred fills the result, with its number and under the name that it has by then:
-- proc main; ivar i; fill i 7; yield y; bind q y A i; upon q L q; end; proc A v:num i:ivar; yield z; bind r z Z i;
-- ret r; end; proc Z v:num i:ivar; ret i; end; proc L v:num q:def; upon q O; end; proc O v:num; print v; end
abbrev pub connection_to_a_full_one_under_its_name : Row
connection_to_a_full_one_under_its_name =
    record {
      program = without_ask (
          proc (line (stmt.Ivar 0) ∷ line (stmt.Fill 0 (Literal (pos 7))) ∷ line (stmt.Yield 1) ∷ line (stmt.Bind 2 1 1 ((Local 0) ∷ [])) ∷
          line (stmt.Upon 2 3 ((Local 2) ∷ [])) ∷ []) ∷
          proc (line (stmt.Yield 2) ∷ line (stmt.Bind 3 2 2 ((Local 1) ∷ [])) ∷ line (stmt.Ret (Local 3)) ∷
          []) ∷
          proc (line (stmt.Ret (Local 1)) ∷ []) ∷
          proc (line (stmt.Upon 1 4 []) ∷ []) ∷
          proc (line (stmt.Print (Local 0)) ∷ []) ∷
          []) 0;
      config = usual;
      replies = empty 8 (Done ∷ []);
      trace = (entry.Enq 0 false ∷ entry.Cycle ∷ entry.Job 0 ∷ entry.Fill 0 (pos 7) ∷ entry.Cycle ∷ entry.Fill 1 (pos 0) ∷
          entry.Enq 1 false ∷ entry.Job 1 ∷ entry.Join 2 4 ∷ entry.Cycle ∷ entry.Fill 3 (pos 0) ∷ entry.Enq 2 false ∷
          entry.Job 2 ∷ entry.Fill 2 (pos 7) ∷ entry.Enq 3 false ∷ entry.Job 3 ∷ entry.Enq 4 false ∷
          entry.Job 4 ∷ entry.Print (pos 7) ∷ entry.End ending.Idle ∷ []);
      asks = drains 8 (ask.Close ∷ []);
    }

-- handlers that a connection to a full deferred wakes have their own context:
-- proc main; ivar i; fill i 7; yield y; bind r y P i; low L r; monitor m; detach m; monitor z; within m M r; end;
-- proc P v:num i:ivar; ret i; end; proc L r:def; upon r O; end; proc M r:def; upon r R; end; proc R v:num; raise v;
-- end; proc O v:num; print v; end
abbrev pub connection_to_a_full_one_wakes_in_context : Row
connection_to_a_full_one_wakes_in_context =
    record {
      program = without_ask (
          proc (line (stmt.Ivar 0) ∷ line (stmt.Fill 0 (Literal (pos 7))) ∷ line (stmt.Yield 1) ∷ line (stmt.Bind 2 1 1 ((Local 0) ∷ [])) ∷
          line (stmt.Low 2 ((Local 2) ∷ [])) ∷ line (stmt.Monitor 3) ∷ line (stmt.Detach 3) ∷ line (stmt.Monitor 4) ∷
          line (stmt.Within 3 3 ((Local 2) ∷ [])) ∷ []) ∷
          proc (line (stmt.Ret (Local 1)) ∷ []) ∷
          proc (line (stmt.Upon 0 5 []) ∷ []) ∷
          proc (line (stmt.Upon 0 4 []) ∷ []) ∷
          proc (line (stmt.Raise (Local 0)) ∷ []) ∷
          proc (line (stmt.Print (Local 0)) ∷ []) ∷
          []) 0;
      config = usual;
      replies = empty 8 (Done ∷ []);
      trace = (entry.Enq 0 false ∷ entry.Cycle ∷ entry.Job 0 ∷ entry.Fill 0 (pos 7) ∷ entry.Enq 1 true ∷ entry.Monitor 1 0 ∷
          entry.Detach 1 ∷ entry.Monitor 2 0 ∷ entry.Enq 2 false ∷ entry.Job 2 ∷ entry.Job 1 ∷ entry.Cycle ∷
          entry.Fill 1 (pos 0) ∷ entry.Enq 3 false ∷ entry.Job 3 ∷ entry.Fill 2 (pos 7) ∷ entry.Enq 4 false ∷
          entry.Enq 5 true ∷ entry.Job 4 ∷ entry.Error (pos 7) 1 ∷ entry.Caught 1 ∷ entry.Job 5 ∷ entry.Print (pos 7) ∷
          entry.End ending.Idle ∷ []);
      asks = drains 8 (ask.Close ∷ []);
    }

-- after a connection each old name stands for the one deferred: look, fill and register through each of them:
-- proc main; ivar i; ivar j; ivar g; bind a g P i; bind b g P j; fill g 0; yield y; upon y X i j a b; end; proc P
-- v:num x:ivar; ret x; end; proc X v:num i:ivar j:ivar a:def b:def; upon a O 1; upon i O 2; upon b O 3; fill j 4;
-- upon j O 5; fill i 6; upon a O 7; fill i 8; end; proc O v:num w:num; print w; print v; end
abbrev pub names_of_all_sides : Row
names_of_all_sides =
    record {
      program = without_ask (
          proc (line (stmt.Ivar 0) ∷ line (stmt.Ivar 1) ∷ line (stmt.Ivar 2) ∷ line (stmt.Bind 3 2 1 ((Local 0) ∷ [])) ∷
          line (stmt.Bind 4 2 1 ((Local 1) ∷ [])) ∷ line (stmt.Fill 2 (Literal (pos 0))) ∷ line (stmt.Yield 5) ∷
          line (stmt.Upon 5 2 ((Local 0) ∷ (Local 1) ∷ (Local 3) ∷ (Local 4) ∷ [])) ∷ []) ∷
          proc (line (stmt.Ret (Local 1)) ∷ []) ∷
          proc (line (stmt.Upon 3 3 ((Literal (pos 1)) ∷ [])) ∷ line (stmt.Upon 1 3 ((Literal (pos 2)) ∷ [])) ∷
          line (stmt.Upon 4 3 ((Literal (pos 3)) ∷ [])) ∷ line (stmt.Fill 2 (Literal (pos 4))) ∷ line (stmt.Upon 2 3 ((Literal (pos 5)) ∷ [])) ∷
          line (stmt.Fill 1 (Literal (pos 6))) ∷ line (stmt.Upon 3 3 ((Literal (pos 7)) ∷ [])) ∷ line (stmt.Fill 1 (Literal (pos 8))) ∷
          []) ∷
          proc (line (stmt.Print (Local 1)) ∷ line (stmt.Print (Local 0)) ∷ []) ∷
          []) 0;
      config = usual;
      replies = empty 5 (Done ∷ []);
      trace = (entry.Enq 0 false ∷ entry.Cycle ∷ entry.Job 0 ∷ entry.Fill 2 (pos 0) ∷ entry.Enq 1 false ∷
          entry.Enq 2 false ∷ entry.Job 1 ∷ entry.Join 3 0 ∷ entry.Job 2 ∷ entry.Join 4 1 ∷ entry.Cycle ∷
          entry.Fill 5 (pos 0) ∷ entry.Enq 3 false ∷ entry.Job 3 ∷ entry.Fill 4 (pos 4) ∷ entry.Enq 4 false ∷
          entry.Enq 5 false ∷ entry.Fill 3 (pos 6) ∷ entry.Enq 6 false ∷ entry.Enq 7 false ∷ entry.Enq 8 false ∷
          entry.Error (negsuc 2) 0 ∷ entry.Unhandled (negsuc 2) ∷ entry.End ending.Unhandled ∷ []);
      asks = drains 5 (ask.Close ∷ []);
    }

-- a connection renames ivars and deferreds alone: numbers, monitors, pipes, throttles, events and helpers of the same
-- number stay:
-- proc main; ivar g; ivar j; bind r g P j; monitor a; monitor b; detach a; detach b; pipe o 0; pipe p 0; pipe q 0;
-- close q; throttle t 1 go; throttle u 1 go; throttle w 1 go; enqueue x w N; event e l 9; event f m 9; event h n 9;
-- helper y1 z1; helper y2 z2; helper y3 z3; upon r H 1 a p u f y2; fill g 0; sched F j; end; proc P v:num j:ivar; ret
-- j; end; proc N; never n; ret n; end; proc F j:ivar; fill j 4; end; proc H v:num n:num a:mon p:pipe u:thr f:event
-- k:helper; print n; send a 7; put p 5; enqueue x u B; abort f; hdone k; end; proc B; end
abbrev pub renaming_leaves_other_things : Row
renaming_leaves_other_things =
    record {
      program = without_ask (
          proc (line (stmt.Ivar 0) ∷ line (stmt.Ivar 1) ∷ line (stmt.Bind 2 0 1 ((Local 1) ∷ [])) ∷ line (stmt.Monitor 3) ∷
          line (stmt.Monitor 4) ∷ line (stmt.Detach 3) ∷ line (stmt.Detach 4) ∷ line (stmt.Pipe 5 0) ∷
          line (stmt.Pipe 6 0) ∷ line (stmt.Pipe 7 0) ∷ line (stmt.Close 7) ∷ line (stmt.Throttle 8 1 false) ∷
          line (stmt.Throttle 9 1 false) ∷ line (stmt.Throttle 10 1 false) ∷ line (stmt.Enqueue 11 10 2 []) ∷
          line (stmt.Event 12 13 (Literal (pos 9))) ∷ line (stmt.Event 14 15 (Literal (pos 9))) ∷ line (stmt.Event 16 17 (Literal (pos 9))) ∷
          line (stmt.Helper 18 19) ∷ line (stmt.Helper 20 21) ∷ line (stmt.Helper 22 23)
          ∷ line (stmt.Upon 2 4 ((Literal (pos 1)) ∷ (Local 3) ∷ (Local 6) ∷ (Local 9) ∷ (Local 14) ∷ (Local 20) ∷ [])) ∷
          line (stmt.Fill 0 (Literal (pos 0))) ∷ line (stmt.Sched 3 ((Local 1) ∷ [])) ∷ []) ∷
          proc (line (stmt.Ret (Local 1)) ∷ []) ∷
          proc (line (stmt.Never 0) ∷ line (stmt.Ret (Local 0)) ∷ []) ∷
          proc (line (stmt.Fill 0 (Literal (pos 4))) ∷ []) ∷
          proc (line (stmt.Print (Local 1)) ∷ line (stmt.Send 2 (Literal (pos 7))) ∷ line (stmt.Put 3 (Literal (pos 5))) ∷
          line (stmt.Enqueue 7 4 5 []) ∷ line (stmt.Abort 5) ∷ line (stmt.HelperDone 6) ∷ []) ∷
          proc [] ∷
          []) 0;
      config = usual;
      replies = empty 1 (Granted true ∷ Granted true ∷ Granted true ∷ empty 4 (Done ∷ empty 2 (Done ∷ [])));
      trace = (entry.Enq 0 false ∷ entry.Cycle ∷ entry.Job 0 ∷ entry.Monitor 1 0 ∷ entry.Monitor 2 0 ∷ entry.Detach 1 ∷
          entry.Detach 2 ∷ entry.Monitor 3 0 ∷ entry.Detach 3 ∷ entry.Enq 1 false ∷ entry.Helper 0 true ∷
          entry.Helper 1 true ∷ entry.Helper 2 true ∷ entry.Fill 0 (pos 0) ∷ entry.Enq 2 false ∷ entry.Enq 3 false ∷
          entry.Job 1 ∷ entry.Job 2 ∷ entry.Join 2 1 ∷ entry.Job 3 ∷ entry.Fill 2 (pos 4) ∷ entry.Enq 4 false ∷
          entry.Job 4 ∷ entry.Print (pos 1) ∷ entry.Error (pos 7) 1 ∷ entry.Caught 1 ∷ entry.Monitor 4 0 ∷
          entry.Detach 4 ∷ entry.Enq 5 false ∷ entry.Fill 5 (pos 1) ∷ entry.Job 5 ∷ entry.Fill 8 (pos 0) ∷
          entry.End ending.Idle ∷ []);
      asks = drains 1 (ask.HelperNew 0 ∷ ask.HelperNew 1 ∷ ask.HelperNew 2 ∷ drains 4 (ask.HelperEnd 1
          ∷ drains 2 (ask.Close ∷ [])));
    }

-- a connection renames the args of a read that waits:
-- proc main; ivar g; ivar i; ivar j; pipe p 1; bind a g P i; bind b g P j; rd x p G i else H j; rd y p G i else H j;
-- fill g 0; yield z; upon z Q p; end; proc P v:num i:ivar; ret i; end; proc G v:num i:ivar; fill i v; end; proc H
-- j:ivar; fill j 9; end; proc Q v:num p:pipe; put p 5; close p; end
abbrev pub renaming_reaches_args_of_reads : Row
renaming_reaches_args_of_reads =
    record {
      program = without_ask (
          proc (line (stmt.Ivar 0) ∷ line (stmt.Ivar 1) ∷ line (stmt.Ivar 2) ∷ line (stmt.Pipe 3 1) ∷ line (stmt.Bind 4 0 1 ((Local 1) ∷ [])) ∷
          line (stmt.Bind 5 0 1 ((Local 2) ∷ [])) ∷ line (stmt.Read 6 3 2 ((Local 1) ∷ []) 3 ((Local 2) ∷ [])) ∷
          line (stmt.Read 7 3 2 ((Local 1) ∷ []) 3 ((Local 2) ∷ [])) ∷ line (stmt.Fill 0 (Literal (pos 0))) ∷
          line (stmt.Yield 8) ∷ line (stmt.Upon 8 4 ((Local 3) ∷ [])) ∷ []) ∷
          proc (line (stmt.Ret (Local 1)) ∷ []) ∷
          proc (line (stmt.Fill 1 (Local 0)) ∷ []) ∷
          proc (line (stmt.Fill 0 (Literal (pos 9))) ∷ []) ∷
          proc (line (stmt.Put 1 (Literal (pos 5))) ∷ line (stmt.Close 1) ∷ []) ∷
          []) 0;
      config = usual;
      replies = empty 8 (Done ∷ []);
      trace = (entry.Enq 0 false ∷ entry.Cycle ∷ entry.Job 0 ∷ entry.Fill 0 (pos 0) ∷ entry.Enq 1 false ∷
          entry.Enq 2 false ∷ entry.Job 1 ∷ entry.Join 3 1 ∷ entry.Job 2 ∷ entry.Join 4 2 ∷ entry.Cycle ∷
          entry.Fill 7 (pos 0) ∷ entry.Enq 3 false ∷ entry.Job 3 ∷ entry.Enq 4 false ∷ entry.Enq 5 false ∷
          entry.Job 4 ∷ entry.Fill 3 (pos 5) ∷ entry.Fill 5 (pos 0) ∷ entry.Job 5 ∷ entry.Fill 4 (pos 9) ∷
          entry.Fill 6 (pos 0) ∷ entry.End ending.Idle ∷ []);
      asks = drains 8 (ask.Close ∷ []);
    }

-- a connection renames the args of both procedures of a try:
-- proc main; ivar g; ivar i; ivar j; bind a g P i; bind b g P j; fill g 0; try r B i else K j; end; proc P v:num
-- i:ivar; ret i; end; proc B i:ivar; yield y; upon y X i; ret y; end; proc X v:num i:ivar; fill i 1; raise 2; end;
-- proc K e:num j:ivar; fill j e; end
abbrev pub renaming_reaches_args_of_try : Row
renaming_reaches_args_of_try =
    record {
      program = without_ask (
          proc (line (stmt.Ivar 0) ∷ line (stmt.Ivar 1) ∷ line (stmt.Ivar 2) ∷ line (stmt.Bind 3 0 1 ((Local 1) ∷ [])) ∷
          line (stmt.Bind 4 0 1 ((Local 2) ∷ [])) ∷ line (stmt.Fill 0 (Literal (pos 0))) ∷ line (stmt.Try 5 2 ((Local 1) ∷ []) 4 ((Local 2) ∷ []) mode.Drop) ∷
          []) ∷
          proc (line (stmt.Ret (Local 1)) ∷ []) ∷
          proc (line (stmt.Yield 1) ∷ line (stmt.Upon 1 3 ((Local 0) ∷ [])) ∷ line (stmt.Ret (Local 1)) ∷ []) ∷
          proc (line (stmt.Fill 1 (Literal (pos 1))) ∷ line (stmt.Raise (Literal (pos 2))) ∷ []) ∷
          proc (line (stmt.Fill 1 (Local 0)) ∷ []) ∷
          []) 0;
      config = usual;
      replies = empty 9 (Done ∷ []);
      trace = (entry.Enq 0 false ∷ entry.Cycle ∷ entry.Job 0 ∷ entry.Fill 0 (pos 0) ∷ entry.Enq 1 false ∷
          entry.Enq 2 false ∷ entry.Monitor 1 0 ∷ entry.Detach 1 ∷ entry.Enq 3 false ∷ entry.Job 1 ∷
          entry.Join 3 1 ∷ entry.Job 2 ∷ entry.Join 4 2 ∷ entry.Job 3 ∷ entry.Cycle ∷ entry.Fill 6 (pos 0) ∷
          entry.Enq 4 false ∷ entry.Enq 5 false ∷ entry.Job 4 ∷ entry.Fill 3 (pos 1) ∷ entry.Error (pos 2) 1 ∷
          entry.Caught 1 ∷ entry.Enq 6 false ∷ entry.Job 5 ∷ entry.Job 6 ∷ entry.Fill 4 (pos 2) ∷ entry.Fill 5 (pos 0) ∷
          entry.End ending.Idle ∷ []);
      asks = drains 9 (ask.Close ∷ []);
    }

-- a connection renames the deferreds of any and choose, which keep their places, and the args of all and choose:
-- proc main; ivar g; ivar i; ivar k; bind a g P i; any q i; choose s i C a D with; all u k then E i; choose w k E
-- with i; upon q O 1; upon s O 2; fill g 0; sched F k; end; proc P v:num i:ivar; ret i; end; proc C v:num; ret 1;
-- end; proc D v:num; ret 2; end; proc E v:num i:ivar; offer i v; end; proc F k:ivar; fill k 5; end; proc O v:num
-- w:num; print w; print v; end
abbrev pub renaming_reaches_lists_and_args_of_groups : Row
renaming_reaches_lists_and_args_of_groups =
    record {
      program = without_ask (
          proc (line (stmt.Ivar 0) ∷ line (stmt.Ivar 1) ∷ line (stmt.Ivar 2) ∷ line (stmt.Bind 3 0 1 ((Local 1) ∷ [])) ∷
          line (stmt.Any 4 (1 ∷ [])) ∷ line (stmt.Choose 5 (choice 1 2 ∷ choice 3 3 ∷ []) []) ∷ line (stmt.All 6 (2 ∷ []) 4 ((Local 1) ∷ [])) ∷
          line (stmt.Choose 7 (choice 2 4 ∷ []) ((Local 1) ∷ [])) ∷ line (stmt.Upon 4 6 ((Literal (pos 1)) ∷ [])) ∷
          line (stmt.Upon 5 6 ((Literal (pos 2)) ∷ [])) ∷ line (stmt.Fill 0 (Literal (pos 0))) ∷ line (stmt.Sched 5 ((Local 2) ∷ [])) ∷
          []) ∷
          proc (line (stmt.Ret (Local 1)) ∷ []) ∷
          proc (line (stmt.Ret (Literal (pos 1))) ∷ []) ∷
          proc (line (stmt.Ret (Literal (pos 2))) ∷ []) ∷
          proc (line (stmt.Offer 1 (Local 0)) ∷ []) ∷
          proc (line (stmt.Fill 0 (Literal (pos 5))) ∷ []) ∷
          proc (line (stmt.Print (Local 1)) ∷ line (stmt.Print (Local 0)) ∷ []) ∷
          []) 0;
      config = usual;
      replies = empty 11 (Done ∷ []);
      trace = (entry.Enq 0 false ∷ entry.Cycle ∷ entry.Job 0 ∷ entry.Fill 0 (pos 0) ∷ entry.Enq 1 false ∷
          entry.Enq 2 false ∷ entry.Job 1 ∷ entry.Join 3 1 ∷ entry.Job 2 ∷ entry.Fill 2 (pos 5) ∷ entry.Enq 3 false ∷
          entry.Enq 4 false ∷ entry.Job 3 ∷ entry.Fill 3 (pos 5) ∷ entry.Enq 5 false ∷ entry.Enq 6 false ∷
          entry.Enq 7 false ∷ entry.Fill 6 (pos 0) ∷ entry.Job 4 ∷ entry.Fill 7 (pos 0) ∷ entry.Job 5 ∷
          entry.Fill 4 (pos 5) ∷ entry.Enq 8 false ∷ entry.Job 6 ∷ entry.Fill 5 (pos 1) ∷ entry.Enq 9 false ∷
          entry.Job 7 ∷ entry.Job 8 ∷ entry.Print (pos 1) ∷ entry.Print (pos 5) ∷ entry.Job 9 ∷ entry.Print (pos 2) ∷
          entry.Print (pos 1) ∷ entry.End ending.Idle ∷ []);
      asks = drains 11 (ask.Close ∷ []);
    }

-- a connection renames a next error and the args of an error handler:
-- proc main; monitor m; detach m; ivar g; ivar i; bind a g P m; bind b g I i; onerror m C i; upon a O 1; fill g 0;
-- sched Q m; end; proc P v:num m:mon; nexterr r m; ret r; end; proc I v:num i:ivar; ret i; end; proc C e:num i:ivar;
-- fill i e; end; proc Q m:mon; send m 5; end; proc O v:num w:num; print w; print v; end
abbrev pub renaming_reaches_monitors : Row
renaming_reaches_monitors =
    record {
      program = without_ask (
          proc (line (stmt.Monitor 0) ∷ line (stmt.Detach 0) ∷ line (stmt.Ivar 1) ∷ line (stmt.Ivar 2) ∷ line (stmt.Bind 3 1 1 ((Local 0) ∷ [])) ∷
          line (stmt.Bind 4 1 2 ((Local 2) ∷ [])) ∷ line (stmt.OnError 0 3 ((Local 2) ∷ [])) ∷ line (stmt.Upon 3 5 ((Literal (pos 1)) ∷ [])) ∷
          line (stmt.Fill 1 (Literal (pos 0))) ∷ line (stmt.Sched 4 ((Local 0) ∷ [])) ∷ []) ∷
          proc (line (stmt.NextError 2 1) ∷ line (stmt.Ret (Local 2)) ∷ []) ∷
          proc (line (stmt.Ret (Local 1)) ∷ []) ∷
          proc (line (stmt.Fill 1 (Local 0)) ∷ []) ∷
          proc (line (stmt.Send 0 (Literal (pos 5))) ∷ []) ∷
          proc (line (stmt.Print (Local 1)) ∷ line (stmt.Print (Local 0)) ∷ []) ∷
          []) 0;
      config = usual;
      replies = empty 7 (Done ∷ []);
      trace = (entry.Enq 0 false ∷ entry.Cycle ∷ entry.Job 0 ∷ entry.Monitor 1 0 ∷ entry.Detach 1 ∷ entry.Fill 0 (pos 0) ∷
          entry.Enq 1 false ∷ entry.Enq 2 false ∷ entry.Enq 3 false ∷ entry.Job 1 ∷ entry.Join 2 4 ∷
          entry.Job 2 ∷ entry.Join 3 1 ∷ entry.Job 3 ∷ entry.Error (pos 5) 1 ∷ entry.Caught 1 ∷ entry.Fill 2 (pos 5) ∷
          entry.Enq 4 false ∷ entry.Enq 5 false ∷ entry.Job 4 ∷ entry.Print (pos 1) ∷ entry.Print (pos 5) ∷
          entry.Job 5 ∷ entry.Fill 3 (pos 5) ∷ entry.End ending.Idle ∷ []);
      asks = drains 7 (ask.Close ∷ []);
    }

-- a connection renames a pushback, a flush, and the results of reads that wait for an item and for the end:
-- proc main; ivar g; pipe p 0; pipe q 0; pipe s 0; bind a g W p; bind b g F p; bind c g R q; bind d g R s; upon a O
-- 1; upon b O 2; upon c O 3; upon d O 4; fill g 0; sched X p q s; end; proc W v:num p:pipe; write r p 7; ret r; end;
-- proc F v:num p:pipe; flushed r p; ret r; end; proc R v:num p:pipe; rd r p G else H; ret r; end; proc G v:num; ret
-- v; end; proc H; ret 9; end; proc X p:pipe q:pipe s:pipe; rd x p G else H; put q 5; close s; end; proc O v:num
-- w:num; print w; print v; end
abbrev pub renaming_reaches_pipes : Row
renaming_reaches_pipes =
    record {
      program = without_ask (
          proc (line (stmt.Ivar 0) ∷ line (stmt.Pipe 1 0) ∷ line (stmt.Pipe 2 0) ∷ line (stmt.Pipe 3 0) ∷ line (stmt.Bind 4 0 1 ((Local 1) ∷ [])) ∷
          line (stmt.Bind 5 0 2 ((Local 1) ∷ [])) ∷ line (stmt.Bind 6 0 3 ((Local 2) ∷ [])) ∷ line (stmt.Bind 7 0 3 ((Local 3) ∷ [])) ∷
          line (stmt.Upon 4 7 ((Literal (pos 1)) ∷ [])) ∷ line (stmt.Upon 5 7 ((Literal (pos 2)) ∷ [])) ∷
          line (stmt.Upon 6 7 ((Literal (pos 3)) ∷ [])) ∷ line (stmt.Upon 7 7 ((Literal (pos 4)) ∷ [])) ∷
          line (stmt.Fill 0 (Literal (pos 0))) ∷ line (stmt.Sched 6 ((Local 1) ∷ (Local 2) ∷ (Local 3) ∷ [])) ∷
          []) ∷
          proc (line (stmt.Write 2 1 (Literal (pos 7))) ∷ line (stmt.Ret (Local 2)) ∷ []) ∷
          proc (line (stmt.Flushed 2 1) ∷ line (stmt.Ret (Local 2)) ∷ []) ∷
          proc (line (stmt.Read 2 1 4 [] 5 []) ∷ line (stmt.Ret (Local 2)) ∷ []) ∷
          proc (line (stmt.Ret (Local 0)) ∷ []) ∷
          proc (line (stmt.Ret (Literal (pos 9))) ∷ []) ∷
          proc (line (stmt.Read 3 0 4 [] 5 []) ∷ line (stmt.Put 1 (Literal (pos 5))) ∷ line (stmt.Close 2) ∷
          []) ∷
          proc (line (stmt.Print (Local 1)) ∷ line (stmt.Print (Local 0)) ∷ []) ∷
          []) 0;
      config = usual;
      replies = empty 14 (Done ∷ []);
      trace = (entry.Enq 0 false ∷ entry.Cycle ∷ entry.Job 0 ∷ entry.Fill 0 (pos 0) ∷ entry.Enq 1 false ∷
          entry.Enq 2 false ∷ entry.Enq 3 false ∷ entry.Enq 4 false ∷ entry.Enq 5 false ∷ entry.Job 1 ∷
          entry.Join 1 5 ∷ entry.Job 2 ∷ entry.Join 2 6 ∷ entry.Job 3 ∷ entry.Join 3 7 ∷ entry.Job 4 ∷
          entry.Join 4 8 ∷ entry.Job 5 ∷ entry.Fill 1 (pos 0) ∷ entry.Enq 6 false ∷ entry.Fill 2 (pos 0) ∷
          entry.Enq 7 false ∷ entry.Enq 8 false ∷ entry.Enq 9 false ∷ entry.Enq 10 false ∷ entry.Job 6 ∷
          entry.Print (pos 1) ∷ entry.Print (pos 0) ∷ entry.Job 7 ∷ entry.Print (pos 2) ∷ entry.Print (pos 0) ∷
          entry.Job 8 ∷ entry.Fill 9 (pos 7) ∷ entry.Job 9 ∷ entry.Fill 3 (pos 5) ∷ entry.Enq 11 false ∷
          entry.Job 10 ∷ entry.Fill 4 (pos 9) ∷ entry.Enq 12 false ∷ entry.Job 11 ∷ entry.Print (pos 3) ∷
          entry.Print (pos 5) ∷ entry.Job 12 ∷ entry.Print (pos 4) ∷ entry.Print (pos 9) ∷ entry.End ending.Idle ∷
          []);
      asks = drains 14 (ask.Close ∷ []);
    }

-- a connection renames the result that an enqueued job returns to:
-- proc main; ivar i; yield y; bind r y P i; upon r O; end; proc P v:num i:ivar; fill i 1; bind s i Z; ret s; end;
-- proc Z v:num; ret 4; end; proc O v:num; print v; end
abbrev pub renaming_reaches_queued_results : Row
renaming_reaches_queued_results =
    record {
      program = without_ask (
          proc (line (stmt.Ivar 0) ∷ line (stmt.Yield 1) ∷ line (stmt.Bind 2 1 1 ((Local 0) ∷ [])) ∷ line (stmt.Upon 2 3 []) ∷
          []) ∷
          proc (line (stmt.Fill 1 (Literal (pos 1))) ∷ line (stmt.Bind 2 1 2 []) ∷ line (stmt.Ret (Local 2)) ∷
          []) ∷
          proc (line (stmt.Ret (Literal (pos 4))) ∷ []) ∷
          proc (line (stmt.Print (Local 0)) ∷ []) ∷
          []) 0;
      config = usual;
      replies = empty 6 (Done ∷ []);
      trace = (entry.Enq 0 false ∷ entry.Cycle ∷ entry.Job 0 ∷ entry.Cycle ∷ entry.Fill 1 (pos 0) ∷ entry.Enq 1 false ∷
          entry.Job 1 ∷ entry.Fill 0 (pos 1) ∷ entry.Enq 2 false ∷ entry.Join 2 3 ∷ entry.Job 2 ∷ entry.Fill 2 (pos 4) ∷
          entry.Enq 3 false ∷ entry.Job 3 ∷ entry.Print (pos 4) ∷ entry.End ending.Idle ∷ []);
      asks = drains 6 (ask.Close ∷ []);
    }

-- a connection renames the results of all, any and choose:
-- proc main; ivar g; ivar j; bind b g A j; bind c g B j; bind d g C j; upon b O 1; upon c O 2; upon d O 3; fill g 0;
-- sched F j; end; proc A v:num j:ivar; all r j then T; ret r; end; proc B v:num j:ivar; any r j; ret r; end; proc C
-- v:num j:ivar; choose r j T with; ret r; end; proc T x:num; ret x; end; proc F j:ivar; fill j 5; end; proc O v:num
-- w:num; print w; print v; end
abbrev pub renaming_reaches_results_of_groups : Row
renaming_reaches_results_of_groups =
    record {
      program = without_ask (
          proc (line (stmt.Ivar 0) ∷ line (stmt.Ivar 1) ∷ line (stmt.Bind 2 0 1 ((Local 1) ∷ [])) ∷ line (stmt.Bind 3 0 2 ((Local 1) ∷ [])) ∷
          line (stmt.Bind 4 0 3 ((Local 1) ∷ [])) ∷ line (stmt.Upon 2 6 ((Literal (pos 1)) ∷ [])) ∷ line (stmt.Upon 3 6 ((Literal (pos 2)) ∷ [])) ∷
          line (stmt.Upon 4 6 ((Literal (pos 3)) ∷ [])) ∷ line (stmt.Fill 0 (Literal (pos 0))) ∷ line (stmt.Sched 5 ((Local 1) ∷ [])) ∷
          []) ∷
          proc (line (stmt.All 2 (1 ∷ []) 4 []) ∷ line (stmt.Ret (Local 2)) ∷ []) ∷
          proc (line (stmt.Any 2 (1 ∷ [])) ∷ line (stmt.Ret (Local 2)) ∷ []) ∷
          proc (line (stmt.Choose 2 (choice 1 4 ∷ []) []) ∷ line (stmt.Ret (Local 2)) ∷ []) ∷
          proc (line (stmt.Ret (Local 0)) ∷ []) ∷
          proc (line (stmt.Fill 0 (Literal (pos 5))) ∷ []) ∷
          proc (line (stmt.Print (Local 1)) ∷ line (stmt.Print (Local 0)) ∷ []) ∷
          []) 0;
      config = usual;
      replies = empty 12 (Done ∷ []);
      trace = (entry.Enq 0 false ∷ entry.Cycle ∷ entry.Job 0 ∷ entry.Fill 0 (pos 0) ∷ entry.Enq 1 false ∷
          entry.Enq 2 false ∷ entry.Enq 3 false ∷ entry.Enq 4 false ∷ entry.Job 1 ∷ entry.Join 2 5 ∷
          entry.Job 2 ∷ entry.Join 3 6 ∷ entry.Job 3 ∷ entry.Join 4 7 ∷ entry.Job 4 ∷ entry.Fill 1 (pos 5) ∷
          entry.Enq 5 false ∷ entry.Enq 6 false ∷ entry.Enq 7 false ∷ entry.Job 5 ∷ entry.Fill 2 (pos 5) ∷
          entry.Enq 8 false ∷ entry.Job 6 ∷ entry.Fill 3 (pos 5) ∷ entry.Enq 9 false ∷ entry.Job 7 ∷
          entry.Fill 4 (pos 5) ∷ entry.Enq 10 false ∷ entry.Job 8 ∷ entry.Print (pos 1) ∷ entry.Print (pos 5) ∷
          entry.Job 9 ∷ entry.Print (pos 2) ∷ entry.Print (pos 5) ∷ entry.Job 10 ∷ entry.Print (pos 3) ∷
          entry.Print (pos 5) ∷ entry.End ending.Idle ∷ []);
      asks = drains 12 (ask.Close ∷ []);
    }

-- a connection renames the results of bodies that run and that wait, the args of one that waits, and a mark:
-- proc main; ivar g; ivar k; ivar i; throttle t 1 go; bind a g P t k; bind b g Q t i; bind c g M t; bind e g I i;
-- upon a O 1; upon b O 2; upon c O 3; fill g 0; sched F k; end; proc P v:num t:thr k:ivar; enqueue r t W k; ret r;
-- end; proc Q v:num t:thr i:ivar; enqueue r t B i; ret r; end; proc M v:num t:thr; tdone r t; ret r; end; proc I
-- v:num i:ivar; ret i; end; proc W k:def; ret k; end; proc B i:ivar; fill i 6; end; proc F k:ivar; fill k 5; end;
-- proc O v:num w:num; print w; print v; end
abbrev pub renaming_reaches_throttles : Row
renaming_reaches_throttles =
    record {
      program = without_ask (
          proc (line (stmt.Ivar 0) ∷ line (stmt.Ivar 1) ∷ line (stmt.Ivar 2) ∷ line (stmt.Throttle 3 1 false) ∷
          line (stmt.Bind 4 0 1 ((Local 3) ∷ (Local 1) ∷ [])) ∷ line (stmt.Bind 5 0 2 ((Local 3) ∷ (Local 2) ∷ [])) ∷
          line (stmt.Bind 6 0 3 ((Local 3) ∷ [])) ∷ line (stmt.Bind 7 0 4 ((Local 2) ∷ [])) ∷ line (stmt.Upon 4 8 ((Literal (pos 1)) ∷ [])) ∷
          line (stmt.Upon 5 8 ((Literal (pos 2)) ∷ [])) ∷ line (stmt.Upon 6 8 ((Literal (pos 3)) ∷ [])) ∷
          line (stmt.Fill 0 (Literal (pos 0))) ∷ line (stmt.Sched 7 ((Local 1) ∷ [])) ∷ []) ∷
          proc (line (stmt.Enqueue 3 1 5 ((Local 2) ∷ [])) ∷ line (stmt.Ret (Local 3)) ∷ []) ∷
          proc (line (stmt.Enqueue 3 1 6 ((Local 2) ∷ [])) ∷ line (stmt.Ret (Local 3)) ∷ []) ∷
          proc (line (stmt.ThrottleDone 2 1) ∷ line (stmt.Ret (Local 2)) ∷ []) ∷
          proc (line (stmt.Ret (Local 1)) ∷ []) ∷
          proc (line (stmt.Ret (Local 0)) ∷ []) ∷
          proc (line (stmt.Fill 0 (Literal (pos 6))) ∷ []) ∷
          proc (line (stmt.Fill 0 (Literal (pos 5))) ∷ []) ∷
          proc (line (stmt.Print (Local 1)) ∷ line (stmt.Print (Local 0)) ∷ []) ∷
          []) 0;
      config = usual;
      replies = empty 13 (Done ∷ []);
      trace = (entry.Enq 0 false ∷ entry.Cycle ∷ entry.Job 0 ∷ entry.Fill 0 (pos 0) ∷ entry.Enq 1 false ∷
          entry.Enq 2 false ∷ entry.Enq 3 false ∷ entry.Enq 4 false ∷ entry.Enq 5 false ∷ entry.Job 1 ∷
          entry.Monitor 1 0 ∷ entry.Detach 1 ∷ entry.Enq 6 false ∷ entry.Join 3 7 ∷ entry.Job 2 ∷ entry.Join 4 8 ∷
          entry.Job 3 ∷ entry.Join 5 9 ∷ entry.Job 4 ∷ entry.Join 6 2 ∷ entry.Job 5 ∷ entry.Fill 1 (pos 5) ∷
          entry.Job 6 ∷ entry.Enq 7 false ∷ entry.Job 7 ∷ entry.Fill 3 (pos 5) ∷ entry.Enq 8 false ∷
          entry.Monitor 2 0 ∷ entry.Detach 2 ∷ entry.Enq 9 false ∷ entry.Job 8 ∷ entry.Print (pos 1) ∷
          entry.Print (pos 5) ∷ entry.Job 9 ∷ entry.Fill 6 (pos 6) ∷ entry.Fill 4 (pos 0) ∷ entry.Enq 10 false ∷
          entry.Fill 5 (pos 0) ∷ entry.Enq 11 false ∷ entry.Job 10 ∷ entry.Print (pos 2) ∷ entry.Print (pos 0) ∷
          entry.Job 11 ∷ entry.Print (pos 3) ∷ entry.Print (pos 0) ∷ entry.End ending.Idle ∷ []);
      asks = drains 13 (ask.Close ∷ []);
    }

-- a connection renames the result of a try, for its number, its deferred and its error:
-- proc main; ivar g; bind a g P; bind b g Q; bind c g R; upon a O 1; upon b O 2; upon c O 3; fill g 0; end; proc P
-- v:num; try r B else K; ret r; end; proc Q v:num; try r D else K; ret r; end; proc R v:num; try r E else K; ret r;
-- end; proc B; ret 4; end; proc D; yield y; ret y; end; proc E; raise 6; end; proc K e:num; ret e; end; proc O v:num
-- w:num; print w; print v; end
abbrev pub renaming_reaches_tries : Row
renaming_reaches_tries =
    record {
      program = without_ask (
          proc (line (stmt.Ivar 0) ∷ line (stmt.Bind 1 0 1 []) ∷ line (stmt.Bind 2 0 2 []) ∷ line (stmt.Bind 3 0 3 []) ∷
          line (stmt.Upon 1 8 ((Literal (pos 1)) ∷ [])) ∷ line (stmt.Upon 2 8 ((Literal (pos 2)) ∷ [])) ∷
          line (stmt.Upon 3 8 ((Literal (pos 3)) ∷ [])) ∷ line (stmt.Fill 0 (Literal (pos 0))) ∷ []) ∷
          proc (line (stmt.Try 1 4 [] 7 [] mode.Drop) ∷ line (stmt.Ret (Local 1)) ∷ []) ∷
          proc (line (stmt.Try 1 5 [] 7 [] mode.Drop) ∷ line (stmt.Ret (Local 1)) ∷ []) ∷
          proc (line (stmt.Try 1 6 [] 7 [] mode.Drop) ∷ line (stmt.Ret (Local 1)) ∷ []) ∷
          proc (line (stmt.Ret (Literal (pos 4))) ∷ []) ∷
          proc (line (stmt.Yield 0) ∷ line (stmt.Ret (Local 0)) ∷ []) ∷
          proc (line (stmt.Raise (Literal (pos 6))) ∷ []) ∷
          proc (line (stmt.Ret (Local 0)) ∷ []) ∷
          proc (line (stmt.Print (Local 1)) ∷ line (stmt.Print (Local 0)) ∷ []) ∷
          []) 0;
      config = usual;
      replies = empty 14 (Done ∷ []);
      trace = (entry.Enq 0 false ∷ entry.Cycle ∷ entry.Job 0 ∷ entry.Fill 0 (pos 0) ∷ entry.Enq 1 false ∷
          entry.Enq 2 false ∷ entry.Enq 3 false ∷ entry.Job 1 ∷ entry.Monitor 1 0 ∷ entry.Detach 1 ∷
          entry.Enq 4 false ∷ entry.Join 1 4 ∷ entry.Job 2 ∷ entry.Monitor 2 0 ∷ entry.Detach 2 ∷ entry.Enq 5 false ∷
          entry.Join 2 5 ∷ entry.Job 3 ∷ entry.Monitor 3 0 ∷ entry.Detach 3 ∷ entry.Enq 6 false ∷ entry.Join 3 6 ∷
          entry.Job 4 ∷ entry.Fill 1 (pos 4) ∷ entry.Enq 7 false ∷ entry.Job 5 ∷ entry.Job 6 ∷ entry.Error (pos 6) 3 ∷
          entry.Caught 3 ∷ entry.Enq 8 false ∷ entry.Job 7 ∷ entry.Print (pos 1) ∷ entry.Print (pos 4) ∷
          entry.Job 8 ∷ entry.Fill 3 (pos 6) ∷ entry.Enq 9 false ∷ entry.Job 9 ∷ entry.Print (pos 3) ∷
          entry.Print (pos 6) ∷ entry.Cycle ∷ entry.Fill 7 (pos 0) ∷ entry.Enq 10 false ∷ entry.Job 10 ∷
          entry.Fill 2 (pos 0) ∷ entry.Enq 11 false ∷ entry.Job 11 ∷ entry.Print (pos 2) ∷ entry.Print (pos 0) ∷
          entry.End ending.Idle ∷ []);
      asks = drains 14 (ask.Close ∷ []);
    }

-- a connection renames the result of a work:
-- proc main; ivar g; bind a g P; upon a O; fill g 0; end; proc P v:num; work r square 3; ret r; end; proc O v:num;
-- print v; end
abbrev pub renaming_reaches_works : Row
renaming_reaches_works =
    record {
      program = without_ask (
          proc (line (stmt.Ivar 0) ∷ line (stmt.Bind 1 0 1 []) ∷ line (stmt.Upon 1 2 []) ∷ line (stmt.Fill 0 (Literal (pos 0))) ∷
          []) ∷
          proc (line (stmt.Work 1 kind.Square (Literal (pos 3))) ∷ line (stmt.Ret (Local 1)) ∷ []) ∷
          proc (line (stmt.Print (Local 0)) ∷ []) ∷
          []) 0;
      config = usual;
      replies = empty 2 (Done ∷ brings ((0, (outcome.Good (pos 9))) ∷ []) ∷ empty 1 (Done ∷ []));
      trace = (entry.Enq 0 false ∷ entry.Cycle ∷ entry.Job 0 ∷ entry.Fill 0 (pos 0) ∷ entry.Enq 1 false ∷
          entry.Job 1 ∷ entry.Submit 0 kind.Square (pos 3) ∷ entry.Join 1 2 ∷ entry.Arrive 0 (outcome.Good (pos 9)) ∷
          entry.Fill 1 (pos 9) ∷ entry.Enq 2 false ∷ entry.Job 2 ∷ entry.Print (pos 9) ∷ entry.End ending.Idle ∷
          []);
      asks = drains 2 (ask.Submit 0 (work kind.Square (pos 3)) None ∷ drains 2 (ask.Close ∷ []));
    }

-- a connection renames a yield, an alarm and an event:
-- proc main; ivar g; bind a g P; bind b g Q; bind c g R; upon a O 1; upon b O 2; upon c O 3; fill g 0; end; proc P
-- v:num; yield r; ret r; end; proc Q v:num; after r 0; ret r; end; proc R v:num; event e r 5; sched X e; ret r; end;
-- proc X e:event; abort e; end; proc O v:num w:num; print w; print v; end
abbrev pub renaming_reaches_yields_and_alarms : Row
renaming_reaches_yields_and_alarms =
    record {
      program = without_ask (
          proc (line (stmt.Ivar 0) ∷ line (stmt.Bind 1 0 1 []) ∷ line (stmt.Bind 2 0 2 []) ∷ line (stmt.Bind 3 0 3 []) ∷
          line (stmt.Upon 1 5 ((Literal (pos 1)) ∷ [])) ∷ line (stmt.Upon 2 5 ((Literal (pos 2)) ∷ [])) ∷
          line (stmt.Upon 3 5 ((Literal (pos 3)) ∷ [])) ∷ line (stmt.Fill 0 (Literal (pos 0))) ∷ []) ∷
          proc (line (stmt.Yield 1) ∷ line (stmt.Ret (Local 1)) ∷ []) ∷
          proc (line (stmt.After 1 (Literal (pos 0))) ∷ line (stmt.Ret (Local 1)) ∷ []) ∷
          proc (line (stmt.Event 1 2 (Literal (pos 5))) ∷ line (stmt.Sched 4 ((Local 1) ∷ [])) ∷ line (stmt.Ret (Local 2)) ∷
          []) ∷
          proc (line (stmt.Abort 0) ∷ []) ∷
          proc (line (stmt.Print (Local 1)) ∷ line (stmt.Print (Local 0)) ∷ []) ∷
          []) 0;
      config = usual;
      replies = empty 10 (Done ∷ []);
      trace = (entry.Enq 0 false ∷ entry.Cycle ∷ entry.Job 0 ∷ entry.Fill 0 (pos 0) ∷ entry.Enq 1 false ∷
          entry.Enq 2 false ∷ entry.Enq 3 false ∷ entry.Job 1 ∷ entry.Join 1 4 ∷ entry.Job 2 ∷ entry.Join 2 5 ∷
          entry.Job 3 ∷ entry.Enq 4 false ∷ entry.Join 3 6 ∷ entry.Job 4 ∷ entry.Fill 3 (pos 1) ∷ entry.Enq 5 false ∷
          entry.Job 5 ∷ entry.Print (pos 3) ∷ entry.Print (pos 1) ∷ entry.Cycle ∷ entry.Fill 1 (pos 0) ∷
          entry.Enq 6 false ∷ entry.Fill 2 (pos 0) ∷ entry.Enq 7 false ∷ entry.Job 6 ∷ entry.Print (pos 1) ∷
          entry.Print (pos 0) ∷ entry.Job 7 ∷ entry.Print (pos 2) ∷ entry.Print (pos 0) ∷ entry.End ending.Idle ∷
          []);
      asks = drains 10 (ask.Close ∷ []);
    }

-- two results that are connected with one deferred are one:
-- proc main; ivar i; yield y; bind a y P i; bind b y P i; upon b O; yield z; upon z B i a b; end; proc P v:num
-- x:ivar; ret x; end; proc B v:num i:ivar a:def b:def; bind r a G; upon r O; fill i 4; end; proc G v:num; ret v; end;
-- proc O v:num; print v; end
abbrev pub two_results_of_one_deferred : Row
two_results_of_one_deferred =
    record {
      program = without_ask (
          proc (line (stmt.Ivar 0) ∷ line (stmt.Yield 1) ∷ line (stmt.Bind 2 1 1 ((Local 0) ∷ [])) ∷ line (stmt.Bind 3 1 1 ((Local 0) ∷ [])) ∷
          line (stmt.Upon 3 4 []) ∷ line (stmt.Yield 4) ∷ line (stmt.Upon 4 2 ((Local 0) ∷ (Local 2) ∷ (Local 3) ∷ [])) ∷
          []) ∷
          proc (line (stmt.Ret (Local 1)) ∷ []) ∷
          proc (line (stmt.Bind 4 2 3 []) ∷ line (stmt.Upon 4 4 []) ∷ line (stmt.Fill 1 (Literal (pos 4))) ∷
          []) ∷
          proc (line (stmt.Ret (Local 0)) ∷ []) ∷
          proc (line (stmt.Print (Local 0)) ∷ []) ∷
          []) 0;
      config = usual;
      replies = empty 9 (Done ∷ []);
      trace = (entry.Enq 0 false ∷ entry.Cycle ∷ entry.Job 0 ∷ entry.Cycle ∷ entry.Fill 1 (pos 0) ∷ entry.Enq 1 false ∷
          entry.Enq 2 false ∷ entry.Fill 4 (pos 0) ∷ entry.Enq 3 false ∷ entry.Job 1 ∷ entry.Join 2 0 ∷
          entry.Job 2 ∷ entry.Join 3 2 ∷ entry.Job 3 ∷ entry.Fill 3 (pos 4) ∷ entry.Enq 4 false ∷ entry.Enq 5 false ∷
          entry.Job 4 ∷ entry.Print (pos 4) ∷ entry.Job 5 ∷ entry.Fill 5 (pos 4) ∷ entry.Enq 6 false ∷
          entry.Job 6 ∷ entry.Print (pos 4) ∷ entry.End ending.Idle ∷ []);
      asks = drains 9 (ask.Close ∷ []);
    }
