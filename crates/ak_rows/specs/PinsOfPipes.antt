-- Pins of pipes: short scripts, each about one rule, with the runs that another implementation gives.
use Rattle.std.specs.Prelude.{pos, negsuc, [], ◌∷◌, true, false}
use Rattle.ak_labor.specs.declared.ask.Ask.TheVariants as ask
use Rattle.ak_labor.specs.Calls.{Done}
use Rattle.ak_script.specs.declared.statement.Operator.TheVariants as operator
use Rattle.ak_program.specs.declared.statement.NumAtom.TheVariants.{Literal, Local}
use Rattle.ak_program.specs.declared.statement.NumStmt.TheVariants as stmt
use Rattle.ak_program.specs.declared.program.NumPrefix.TheVariants.{If, Unless}
use Rattle.ak_trace.specs.declared.entry.Entry.TheVariants as entry
use Rattle.ak_trace.specs.declared.entry.Ending.TheVariants as ending
use Rattle.ak_rows.specs.Row.{Row, usual, without_ask, proc, line, line_when, empty, drains}

-- close gives each waiting read its other procedure in its own context, oldest first, and a second close does nothing:
-- proc main; pipe p 0; rd w p G else H 0; monitor m; detach m; within m A p 1; low A p 2; yield y; upon y F p; end;
-- proc A p:pipe n:num; rd x p G else H n; upon x O; end; proc F v:num p:pipe; close p; close p; print 6; end; proc G
-- v:num; end; proc H n:num; if n raise n; end; proc O v:num; print v; end
abbrev pub close_ends_waiting_reads : Row
close_ends_waiting_reads =
    record {
      program = without_ask (
          proc (line (stmt.Pipe 0 0) ∷ line (stmt.Read 1 0 3 [] 4 ((Literal (pos 0)) ∷ [])) ∷ line (stmt.Monitor 2) ∷
          line (stmt.Detach 2) ∷ line (stmt.Within 2 1 ((Local 0) ∷ (Literal (pos 1)) ∷ [])) ∷ line (stmt.Low 1 ((Local 0) ∷ (Literal (pos 2)) ∷ [])) ∷
          line (stmt.Yield 3) ∷ line (stmt.Upon 3 2 ((Local 0) ∷ [])) ∷ []) ∷
          proc (line (stmt.Read 2 0 3 [] 4 ((Local 1) ∷ [])) ∷ line (stmt.Upon 2 5 []) ∷ []) ∷
          proc (line (stmt.Close 1) ∷ line (stmt.Close 1) ∷ line (stmt.Print (Literal (pos 6))) ∷ []) ∷
          proc [] ∷
          proc (line_when (If (Local 0)) (stmt.Raise (Local 0)) ∷ []) ∷
          proc (line (stmt.Print (Local 0)) ∷ []) ∷
          []) 0;
      config = usual;
      replies = empty 8 (Done ∷ []);
      trace = (entry.Enq 0 false ∷ entry.Cycle ∷ entry.Job 0 ∷ entry.Monitor 1 0 ∷ entry.Detach 1 ∷ entry.Enq 1 false ∷
          entry.Enq 2 true ∷ entry.Job 1 ∷ entry.Job 2 ∷ entry.Cycle ∷ entry.Fill 1 (pos 0) ∷ entry.Enq 3 false ∷
          entry.Job 3 ∷ entry.Enq 4 false ∷ entry.Enq 5 false ∷ entry.Enq 6 true ∷ entry.Print (pos 6) ∷
          entry.Job 4 ∷ entry.Fill 0 (pos 0) ∷ entry.Job 5 ∷ entry.Error (pos 1) 1 ∷ entry.Caught 1 ∷
          entry.Job 6 ∷ entry.Error (pos 2) 0 ∷ entry.Unhandled (pos 2) ∷ entry.End ending.Unhandled ∷
          []);
      asks = drains 8 (ask.Close ∷ []);
    }

-- closeread drops the items and fills pushbacks with 0 and flushes with 1, oldest first; after it a flush is filled
-- with 1 and a read ends:
-- proc main; pipe p 0; write a p 1; flushed f p; write b p 2; flushed g p; closeread p; print 9; closeread p; flushed
-- h p; rd x p G else H; pipe q 0; rd y q G else H; rd z q G else H; closeread q; write c p 3; end; proc G v:num; end;
-- proc H; print 4; end
abbrev pub close_read : Row
close_read =
    record {
      program = without_ask (
          proc (line (stmt.Pipe 0 0) ∷ line (stmt.Write 1 0 (Literal (pos 1))) ∷ line (stmt.Flushed 2 0) ∷
          line (stmt.Write 3 0 (Literal (pos 2))) ∷ line (stmt.Flushed 4 0) ∷ line (stmt.CloseRead 0) ∷
          line (stmt.Print (Literal (pos 9))) ∷ line (stmt.CloseRead 0) ∷ line (stmt.Flushed 5 0) ∷ line (stmt.Read 6 0 1 [] 2 []) ∷
          line (stmt.Pipe 7 0) ∷ line (stmt.Read 8 7 1 [] 2 []) ∷ line (stmt.Read 9 7 1 [] 2 []) ∷ line (stmt.CloseRead 7) ∷
          line (stmt.Write 10 0 (Literal (pos 3))) ∷ []) ∷
          proc [] ∷
          proc (line (stmt.Print (Literal (pos 4))) ∷ []) ∷
          []) 0;
      config = usual;
      replies = empty 1 (Done ∷ []);
      trace = (entry.Enq 0 false ∷ entry.Cycle ∷ entry.Job 0 ∷ entry.Fill 0 (pos 0) ∷ entry.Fill 2 (pos 0) ∷
          entry.Fill 1 (pos 1) ∷ entry.Fill 3 (pos 1) ∷ entry.Print (pos 9) ∷ entry.Fill 4 (pos 1) ∷
          entry.Enq 1 false ∷ entry.Enq 2 false ∷ entry.Enq 3 false ∷ entry.Error (negsuc 3) 0 ∷ entry.Unhandled (negsuc 3) ∷
          entry.End ending.Unhandled ∷ []);
      asks = drains 1 (ask.Close ∷ []);
    }

-- closeread after close acts on what is left:
-- proc main; pipe p 0; write a p 1; flushed f p; close p; print 9; closeread p; rd x p G else H; flushed g p; pipe q
-- 0; close q; rd y q G else H; closeread q; end; proc G v:num; end; proc H; print 4; end
abbrev pub close_read_after_close : Row
close_read_after_close =
    record {
      program = without_ask (
          proc (line (stmt.Pipe 0 0) ∷ line (stmt.Write 1 0 (Literal (pos 1))) ∷ line (stmt.Flushed 2 0) ∷
          line (stmt.Close 0) ∷ line (stmt.Print (Literal (pos 9))) ∷ line (stmt.CloseRead 0) ∷ line (stmt.Read 3 0 1 [] 2 []) ∷
          line (stmt.Flushed 4 0) ∷ line (stmt.Pipe 5 0) ∷ line (stmt.Close 5) ∷ line (stmt.Read 6 5 1 [] 2 []) ∷
          line (stmt.CloseRead 5) ∷ []) ∷
          proc [] ∷
          proc (line (stmt.Print (Literal (pos 4))) ∷ []) ∷
          []) 0;
      config = usual;
      replies = empty 4 (Done ∷ []);
      trace = (entry.Enq 0 false ∷ entry.Cycle ∷ entry.Job 0 ∷ entry.Print (pos 9) ∷ entry.Fill 0 (pos 0) ∷
          entry.Fill 1 (pos 1) ∷ entry.Enq 1 false ∷ entry.Fill 3 (pos 1) ∷ entry.Enq 2 false ∷ entry.Job 1 ∷
          entry.Print (pos 4) ∷ entry.Fill 2 (pos 0) ∷ entry.Job 2 ∷ entry.Print (pos 4) ∷ entry.Fill 4 (pos 0) ∷
          entry.End ending.Idle ∷ []);
      asks = drains 4 (ask.Close ∷ []);
    }

-- items of a closed pipe are read, then its reads end; the job that reads gives the context:
-- proc main; pipe p 0; put p 7; close p; rd x p G else H 1; low A p; monitor m; detach m; monitor z; within m B p;
-- end; proc A p:pipe; rd x p G else H 2; upon x O; end; proc B p:pipe; rd x p G else R; end; proc G v:num; print v;
-- end; proc H n:num; print n; ret n; end; proc R; raise 5; end; proc O v:num; print v; end
abbrev pub closed_pipe_still_gives_its_items : Row
closed_pipe_still_gives_its_items =
    record {
      program = without_ask (
          proc (line (stmt.Pipe 0 0) ∷ line (stmt.Put 0 (Literal (pos 7))) ∷ line (stmt.Close 0) ∷ line (stmt.Read 1 0 3 [] 4 ((Literal (pos 1)) ∷ [])) ∷
          line (stmt.Low 1 ((Local 0) ∷ [])) ∷ line (stmt.Monitor 2) ∷ line (stmt.Detach 2) ∷ line (stmt.Monitor 3) ∷
          line (stmt.Within 2 2 ((Local 0) ∷ [])) ∷ []) ∷
          proc (line (stmt.Read 1 0 3 [] 4 ((Literal (pos 2)) ∷ [])) ∷ line (stmt.Upon 1 6 []) ∷ []) ∷
          proc (line (stmt.Read 1 0 3 [] 5 []) ∷ []) ∷
          proc (line (stmt.Print (Local 0)) ∷ []) ∷
          proc (line (stmt.Print (Local 0)) ∷ line (stmt.Ret (Local 0)) ∷ []) ∷
          proc (line (stmt.Raise (Literal (pos 5))) ∷ []) ∷
          proc (line (stmt.Print (Local 0)) ∷ []) ∷
          []) 0;
      config = usual;
      replies = empty 8 (Done ∷ []);
      trace = (entry.Enq 0 false ∷ entry.Cycle ∷ entry.Job 0 ∷ entry.Enq 1 false ∷ entry.Enq 2 true ∷ entry.Monitor 1 0 ∷
          entry.Detach 1 ∷ entry.Monitor 2 0 ∷ entry.Enq 3 false ∷ entry.Job 1 ∷ entry.Print (pos 7) ∷
          entry.Fill 0 (pos 0) ∷ entry.Job 3 ∷ entry.Enq 4 false ∷ entry.Job 4 ∷ entry.Error (pos 5) 1 ∷
          entry.Caught 1 ∷ entry.Job 2 ∷ entry.Enq 5 true ∷ entry.Job 5 ∷ entry.Print (pos 2) ∷ entry.Fill 2 (pos 2) ∷
          entry.Enq 6 true ∷ entry.Job 6 ∷ entry.Print (pos 2) ∷ entry.End ending.Idle ∷ []);
      asks = drains 8 (ask.Close ∷ []);
    }

-- a number that a waiting read takes counts as written and as consumed:
-- proc main; pipe p 0; rd a p G else H; rd b p G else H; put p 1; put p 2; put p 3; put p 4; flushed f p; upon f O;
-- put p 5; rd c p G else H; print 8; rd d p G else H; print 9; rd e p G else H; end; proc G v:num; end; proc H; end;
-- proc O v:num; print v; end
abbrev pub consumed_by_waiting_reads : Row
consumed_by_waiting_reads =
    record {
      program = without_ask (
          proc (line (stmt.Pipe 0 0) ∷ line (stmt.Read 1 0 1 [] 2 []) ∷ line (stmt.Read 2 0 1 [] 2 []) ∷ line (stmt.Put 0 (Literal (pos 1))) ∷
          line (stmt.Put 0 (Literal (pos 2))) ∷ line (stmt.Put 0 (Literal (pos 3))) ∷ line (stmt.Put 0 (Literal (pos 4))) ∷
          line (stmt.Flushed 3 0) ∷ line (stmt.Upon 3 3 []) ∷ line (stmt.Put 0 (Literal (pos 5))) ∷ line (stmt.Read 4 0 1 [] 2 []) ∷
          line (stmt.Print (Literal (pos 8))) ∷ line (stmt.Read 5 0 1 [] 2 []) ∷ line (stmt.Print (Literal (pos 9))) ∷
          line (stmt.Read 6 0 1 [] 2 []) ∷ []) ∷
          proc [] ∷
          proc [] ∷
          proc (line (stmt.Print (Local 0)) ∷ []) ∷
          []) 0;
      config = usual;
      replies = empty 8 (Done ∷ []);
      trace = (entry.Enq 0 false ∷ entry.Cycle ∷ entry.Job 0 ∷ entry.Enq 1 false ∷ entry.Enq 2 false ∷ entry.Enq 3 false ∷
          entry.Print (pos 8) ∷ entry.Fill 2 (pos 0) ∷ entry.Enq 4 false ∷ entry.Enq 5 false ∷ entry.Print (pos 9) ∷
          entry.Enq 6 false ∷ entry.Job 1 ∷ entry.Fill 0 (pos 0) ∷ entry.Job 2 ∷ entry.Fill 1 (pos 0) ∷
          entry.Job 3 ∷ entry.Fill 3 (pos 0) ∷ entry.Job 4 ∷ entry.Print (pos 0) ∷ entry.Job 5 ∷ entry.Fill 4 (pos 0) ∷
          entry.Job 6 ∷ entry.Fill 5 (pos 0) ∷ entry.End ending.Idle ∷ []);
      asks = drains 8 (ask.Close ∷ []);
    }

-- a read of an item: pushbacks, then flushes, then its call:
-- proc main; pipe p 0; write a p 1; flushed f p; flushed e p; write b p 2; flushed g p; upon a O 1; upon b O 2; upon
-- e O 5; upon f O 3; upon g O 4; rd x p G else H; print 9; rd y p G else H; end; proc G v:num; ret v; end; proc H;
-- end; proc O v:num w:num; print w; print v; end
abbrev pub rd_order_of_effects : Row
rd_order_of_effects =
    record {
      program = without_ask (
          proc (line (stmt.Pipe 0 0) ∷ line (stmt.Write 1 0 (Literal (pos 1))) ∷ line (stmt.Flushed 2 0) ∷
          line (stmt.Flushed 3 0) ∷ line (stmt.Write 4 0 (Literal (pos 2))) ∷ line (stmt.Flushed 5 0) ∷
          line (stmt.Upon 1 3 ((Literal (pos 1)) ∷ [])) ∷ line (stmt.Upon 4 3 ((Literal (pos 2)) ∷ [])) ∷
          line (stmt.Upon 3 3 ((Literal (pos 5)) ∷ [])) ∷ line (stmt.Upon 2 3 ((Literal (pos 3)) ∷ [])) ∷
          line (stmt.Upon 5 3 ((Literal (pos 4)) ∷ [])) ∷ line (stmt.Read 6 0 1 [] 2 []) ∷ line (stmt.Print (Literal (pos 9))) ∷
          line (stmt.Read 7 0 1 [] 2 []) ∷ []) ∷
          proc (line (stmt.Ret (Local 0)) ∷ []) ∷
          proc [] ∷
          proc (line (stmt.Print (Local 1)) ∷ line (stmt.Print (Local 0)) ∷ []) ∷
          []) 0;
      config = usual;
      replies = empty 9 (Done ∷ []);
      trace = (entry.Enq 0 false ∷ entry.Cycle ∷ entry.Job 0 ∷ entry.Fill 1 (pos 0) ∷ entry.Enq 1 false ∷
          entry.Fill 2 (pos 0) ∷ entry.Enq 2 false ∷ entry.Enq 3 false ∷ entry.Print (pos 9) ∷ entry.Fill 0 (pos 0) ∷
          entry.Enq 4 false ∷ entry.Fill 3 (pos 0) ∷ entry.Enq 5 false ∷ entry.Fill 4 (pos 0) ∷ entry.Enq 6 false ∷
          entry.Enq 7 false ∷ entry.Job 1 ∷ entry.Print (pos 3) ∷ entry.Print (pos 0) ∷ entry.Job 2 ∷
          entry.Print (pos 5) ∷ entry.Print (pos 0) ∷ entry.Job 3 ∷ entry.Fill 5 (pos 1) ∷ entry.Job 4 ∷
          entry.Print (pos 1) ∷ entry.Print (pos 0) ∷ entry.Job 5 ∷ entry.Print (pos 2) ∷ entry.Print (pos 0) ∷
          entry.Job 6 ∷ entry.Print (pos 4) ∷ entry.Print (pos 0) ∷ entry.Job 7 ∷ entry.Fill 6 (pos 2) ∷
          entry.End ending.Idle ∷ []);
      asks = drains 9 (ask.Close ∷ []);
    }

-- a read of an item calls its procedure in the monitor and priority of the job:
-- proc main; pipe p 5; put p 1; put p 2; monitor m; detach m; monitor z; within m A p; low B p; end; proc A p:pipe;
-- rd x p R else H; end; proc B p:pipe; rd x p T 10 else H; end; proc R v:num; raise v; end; proc H; end; proc T v:num
-- w:num; print v; print w; end
abbrev pub read_of_an_item_in_its_context : Row
read_of_an_item_in_its_context =
    record {
      program = without_ask (
          proc (line (stmt.Pipe 0 5) ∷ line (stmt.Put 0 (Literal (pos 1))) ∷ line (stmt.Put 0 (Literal (pos 2))) ∷
          line (stmt.Monitor 1) ∷ line (stmt.Detach 1) ∷ line (stmt.Monitor 2) ∷ line (stmt.Within 1 1 ((Local 0) ∷ [])) ∷
          line (stmt.Low 2 ((Local 0) ∷ [])) ∷ []) ∷
          proc (line (stmt.Read 1 0 3 [] 4 []) ∷ []) ∷
          proc (line (stmt.Read 1 0 5 ((Literal (pos 10)) ∷ []) 4 []) ∷ []) ∷
          proc (line (stmt.Raise (Local 0)) ∷ []) ∷
          proc [] ∷
          proc (line (stmt.Print (Local 0)) ∷ line (stmt.Print (Local 1)) ∷ []) ∷
          []) 0;
      config = usual;
      replies = empty 6 (Done ∷ []);
      trace = (entry.Enq 0 false ∷ entry.Cycle ∷ entry.Job 0 ∷ entry.Monitor 1 0 ∷ entry.Detach 1 ∷ entry.Monitor 2 0 ∷
          entry.Enq 1 false ∷ entry.Enq 2 true ∷ entry.Job 1 ∷ entry.Enq 3 false ∷ entry.Job 3 ∷ entry.Error (pos 1) 1 ∷
          entry.Caught 1 ∷ entry.Job 2 ∷ entry.Enq 4 true ∷ entry.Job 4 ∷ entry.Print (pos 2) ∷ entry.Print (pos 10) ∷
          entry.Fill 1 (pos 0) ∷ entry.End ending.Idle ∷ []);
      asks = drains 6 (ask.Close ∷ []);
    }

-- a number goes to the oldest read that waits, in the context of that read:
-- proc main; pipe p 0; monitor m; detach m; within m A p; low A p; yield y; upon y F p; end; proc A p:pipe; rd x p R
-- else H; upon x O 5; end; proc F v:num p:pipe; write a p 3; put p 4; upon a O 1; end; proc R v:num; set z v - 3; if
-- z raise v; unless z raise 8; end; proc H; end; proc O v:num w:num; print w; print v; end
abbrev pub reads_wait_in_order : Row
reads_wait_in_order =
    record {
      program = without_ask (
          proc (line (stmt.Pipe 0 0) ∷ line (stmt.Monitor 1) ∷ line (stmt.Detach 1) ∷ line (stmt.Within 1 1 ((Local 0) ∷ [])) ∷
          line (stmt.Low 1 ((Local 0) ∷ [])) ∷ line (stmt.Yield 2) ∷ line (stmt.Upon 2 2 ((Local 0) ∷ [])) ∷
          []) ∷
          proc (line (stmt.Read 1 0 3 [] 4 []) ∷ line (stmt.Upon 1 5 ((Literal (pos 5)) ∷ [])) ∷ []) ∷
          proc (line (stmt.Write 2 1 (Literal (pos 3))) ∷ line (stmt.Put 1 (Literal (pos 4))) ∷ line (stmt.Upon 2 5 ((Literal (pos 1)) ∷ [])) ∷
          []) ∷
          proc (line (stmt.Set 1 (Local 0) operator.Sub (Literal (pos 3))) ∷ line_when (If (Local 1)) (stmt.Raise (Local 0)) ∷
          line_when (Unless (Local 1)) (stmt.Raise (Literal (pos 8))) ∷ []) ∷
          proc [] ∷
          proc (line (stmt.Print (Local 1)) ∷ line (stmt.Print (Local 0)) ∷ []) ∷
          []) 0;
      config = usual;
      replies = empty 8 (Done ∷ []);
      trace = (entry.Enq 0 false ∷ entry.Cycle ∷ entry.Job 0 ∷ entry.Monitor 1 0 ∷ entry.Detach 1 ∷ entry.Enq 1 false ∷
          entry.Enq 2 true ∷ entry.Job 1 ∷ entry.Job 2 ∷ entry.Cycle ∷ entry.Fill 0 (pos 0) ∷ entry.Enq 3 false ∷
          entry.Job 3 ∷ entry.Enq 4 false ∷ entry.Fill 3 (pos 0) ∷ entry.Enq 5 true ∷ entry.Enq 6 false ∷
          entry.Job 4 ∷ entry.Error (pos 8) 1 ∷ entry.Caught 1 ∷ entry.Job 6 ∷ entry.Print (pos 1) ∷
          entry.Print (pos 0) ∷ entry.Job 5 ∷ entry.Error (pos 4) 0 ∷ entry.Unhandled (pos 4) ∷ entry.End ending.Unhandled ∷
          []);
      asks = drains 8 (ask.Close ∷ []);
    }

-- write and put to a closed pipe raise -4:
-- proc main; pipe p 5; close p; monitor m; detach m; within m A p; within m B p; sched C p; end; proc A p:pipe; write
-- a p 1; print 1; end; proc B p:pipe; put p 1; print 2; end; proc C p:pipe; flushed f p; rd x p D else E; end; proc D
-- v:num; print v; end; proc E; print 3; end
abbrev pub write_to_a_closed_pipe : Row
write_to_a_closed_pipe =
    record {
      program = without_ask (
          proc (line (stmt.Pipe 0 5) ∷ line (stmt.Close 0) ∷ line (stmt.Monitor 1) ∷ line (stmt.Detach 1) ∷
          line (stmt.Within 1 1 ((Local 0) ∷ [])) ∷ line (stmt.Within 1 2 ((Local 0) ∷ [])) ∷ line (stmt.Sched 3 ((Local 0) ∷ [])) ∷
          []) ∷
          proc (line (stmt.Write 1 0 (Literal (pos 1))) ∷ line (stmt.Print (Literal (pos 1))) ∷ []) ∷
          proc (line (stmt.Put 0 (Literal (pos 1))) ∷ line (stmt.Print (Literal (pos 2))) ∷ []) ∷
          proc (line (stmt.Flushed 1 0) ∷ line (stmt.Read 2 0 4 [] 5 []) ∷ []) ∷
          proc (line (stmt.Print (Local 0)) ∷ []) ∷
          proc (line (stmt.Print (Literal (pos 3))) ∷ []) ∷
          []) 0;
      config = usual;
      replies = empty 6 (Done ∷ []);
      trace = (entry.Enq 0 false ∷ entry.Cycle ∷ entry.Job 0 ∷ entry.Monitor 1 0 ∷ entry.Detach 1 ∷ entry.Enq 1 false ∷
          entry.Enq 2 false ∷ entry.Enq 3 false ∷ entry.Job 1 ∷ entry.Error (negsuc 3) 1 ∷ entry.Caught 1 ∷
          entry.Job 2 ∷ entry.Error (negsuc 3) 1 ∷ entry.Caught 1 ∷ entry.Job 3 ∷ entry.Fill 0 (pos 0) ∷
          entry.Enq 4 false ∷ entry.Job 4 ∷ entry.Print (pos 3) ∷ entry.Fill 1 (pos 0) ∷ entry.End ending.Idle ∷
          []);
      asks = drains 6 (ask.Close ∷ []);
    }
