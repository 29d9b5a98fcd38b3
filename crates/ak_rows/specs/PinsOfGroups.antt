-- Pins of `all`, `any` and `choose`: short scripts, each about one rule, with the runs that another implementation gives.
use Rattle.std.specs.Prelude.{pos, negsuc, [], ◌∷◌, true, false}
use Rattle.ak_labor.specs.declared.ask.Ask.TheVariants as ask
use Rattle.ak_labor.specs.Calls.{Done}
use Rattle.ak_script.specs.declared.statement.Operator.TheVariants as operator
use Rattle.ak_program.specs.declared.statement.NumAtom.TheVariants.{Literal, Local}
use Rattle.ak_program.specs.declared.statement.NumStmt.TheVariants as stmt
use Rattle.ak_trace.specs.declared.entry.Entry.TheVariants as entry
use Rattle.ak_trace.specs.declared.entry.Ending.TheVariants as ending
use Rattle.ak_rows.specs.Row.{Row, usual, without_ask, proc, line, choice, empty, drains}

-- the procedure of an all runs in the context of the all:
-- proc main; ivar a; monitor m; detach m; within m A a; low A a; yield y; upon y F a; end; proc A a:ivar; all r a a
-- then S; upon r O; end; proc S x:num y:num; raise y; end; proc F v:num a:ivar; fill a 4; end; proc O v:num; print v;
-- end
abbrev pub all_in_its_context : Row
all_in_its_context =
    record {
      program = without_ask (
          proc (line (stmt.Ivar 0) ∷ line (stmt.Monitor 1) ∷ line (stmt.Detach 1) ∷ line (stmt.Within 1 1 ((Local 0) ∷ [])) ∷
          line (stmt.Low 1 ((Local 0) ∷ [])) ∷ line (stmt.Yield 2) ∷ line (stmt.Upon 2 3 ((Local 0) ∷ [])) ∷
          []) ∷
          proc (line (stmt.All 1 (0 ∷ 0 ∷ []) 2 []) ∷ line (stmt.Upon 1 4 []) ∷ []) ∷
          proc (line (stmt.Raise (Local 1)) ∷ []) ∷
          proc (line (stmt.Fill 1 (Literal (pos 4))) ∷ []) ∷
          proc (line (stmt.Print (Local 0)) ∷ []) ∷
          []) 0;
      config = usual;
      replies = empty 9 (Done ∷ []);
      trace = (entry.Enq 0 false ∷ entry.Cycle ∷ entry.Job 0 ∷ entry.Monitor 1 0 ∷ entry.Detach 1 ∷ entry.Enq 1 false ∷
          entry.Enq 2 true ∷ entry.Job 1 ∷ entry.Job 2 ∷ entry.Cycle ∷ entry.Fill 1 (pos 0) ∷ entry.Enq 3 false ∷
          entry.Job 3 ∷ entry.Fill 0 (pos 4) ∷ entry.Enq 4 false ∷ entry.Enq 5 false ∷ entry.Enq 6 true ∷
          entry.Enq 7 true ∷ entry.Job 4 ∷ entry.Job 5 ∷ entry.Error (pos 4) 1 ∷ entry.Caught 1 ∷ entry.Job 6 ∷
          entry.Job 7 ∷ entry.Error (pos 4) 0 ∷ entry.Unhandled (pos 4) ∷ entry.End ending.Unhandled ∷
          []);
      asks = drains 9 (ask.Close ∷ []);
    }

-- all calls its procedure once each part is full, with the values in list order and then the args, in the job of the
-- last one:
-- proc main; ivar a; ivar b; all r a b a then S 100; upon r O; fill b 2; yield y; upon y F a; end; proc S x:num y:num
-- z:num w:num; print x; print y; print z; print w; ret 5; end; proc F v:num a:ivar; fill a 1; end; proc O v:num;
-- print v; end
abbrev pub all_in_list_order : Row
all_in_list_order =
    record {
      program = without_ask (
          proc (line (stmt.Ivar 0) ∷ line (stmt.Ivar 1) ∷ line (stmt.All 2 (0 ∷ 1 ∷ 0 ∷ []) 1 ((Literal (pos 100)) ∷ [])) ∷
          line (stmt.Upon 2 3 []) ∷ line (stmt.Fill 1 (Literal (pos 2))) ∷ line (stmt.Yield 3) ∷ line (stmt.Upon 3 2 ((Local 0) ∷ [])) ∷
          []) ∷
          proc (line (stmt.Print (Local 0)) ∷ line (stmt.Print (Local 1)) ∷ line (stmt.Print (Local 2)) ∷ line (stmt.Print (Local 3)) ∷
          line (stmt.Ret (Literal (pos 5))) ∷ []) ∷
          proc (line (stmt.Fill 1 (Literal (pos 1))) ∷ []) ∷
          proc (line (stmt.Print (Local 0)) ∷ []) ∷
          []) 0;
      config = usual;
      replies = empty 8 (Done ∷ []);
      trace = (entry.Enq 0 false ∷ entry.Cycle ∷ entry.Job 0 ∷ entry.Fill 1 (pos 2) ∷ entry.Enq 1 false ∷
          entry.Job 1 ∷ entry.Cycle ∷ entry.Fill 3 (pos 0) ∷ entry.Enq 2 false ∷ entry.Job 2 ∷ entry.Fill 0 (pos 1) ∷
          entry.Enq 3 false ∷ entry.Enq 4 false ∷ entry.Job 3 ∷ entry.Job 4 ∷ entry.Print (pos 1) ∷ entry.Print (pos 2) ∷
          entry.Print (pos 1) ∷ entry.Print (pos 100) ∷ entry.Fill 2 (pos 5) ∷ entry.Enq 5 false ∷ entry.Job 5 ∷
          entry.Print (pos 5) ∷ entry.End ending.Idle ∷ []);
      asks = drains 8 (ask.Close ∷ []);
    }

-- an any gives a job for each deferred that is full already:
-- proc main; ivar a; ivar b; fill a 1; fill b 2; any r a b a; upon r O; choose s b C a C with; end; proc C v:num;
-- print 7; ret v; end; proc O v:num; print v; end
abbrev pub any_of_two_full_ones : Row
any_of_two_full_ones =
    record {
      program = without_ask (
          proc (line (stmt.Ivar 0) ∷ line (stmt.Ivar 1) ∷ line (stmt.Fill 0 (Literal (pos 1))) ∷ line (stmt.Fill 1 (Literal (pos 2))) ∷
          line (stmt.Any 2 (0 ∷ 1 ∷ 0 ∷ [])) ∷ line (stmt.Upon 2 2 []) ∷ line (stmt.Choose 3 (choice 1 1 ∷ choice 0 1 ∷ []) []) ∷
          []) ∷
          proc (line (stmt.Print (Literal (pos 7))) ∷ line (stmt.Ret (Local 0)) ∷ []) ∷
          proc (line (stmt.Print (Local 0)) ∷ []) ∷
          []) 0;
      config = usual;
      replies = empty 8 (Done ∷ []);
      trace = (entry.Enq 0 false ∷ entry.Cycle ∷ entry.Job 0 ∷ entry.Fill 0 (pos 1) ∷ entry.Fill 1 (pos 2) ∷
          entry.Enq 1 false ∷ entry.Enq 2 false ∷ entry.Enq 3 false ∷ entry.Enq 4 false ∷ entry.Enq 5 false ∷
          entry.Job 1 ∷ entry.Fill 2 (pos 1) ∷ entry.Enq 6 false ∷ entry.Job 2 ∷ entry.Job 3 ∷ entry.Job 4 ∷
          entry.Print (pos 7) ∷ entry.Fill 3 (pos 2) ∷ entry.Job 5 ∷ entry.Job 6 ∷ entry.Print (pos 1) ∷
          entry.End ending.Idle ∷ []);
      asks = drains 8 (ask.Close ∷ []);
    }

-- any takes the earliest of its list that is full when its job runs, not the one that woke it:
-- proc main; ivar a; ivar b; ivar c; any r a b c; upon r O; fill c 3; fill b 2; end; proc O v:num; print v; end
abbrev pub any_takes_the_earliest : Row
any_takes_the_earliest =
    record {
      program = without_ask (
          proc (line (stmt.Ivar 0) ∷ line (stmt.Ivar 1) ∷ line (stmt.Ivar 2) ∷ line (stmt.Any 3 (0 ∷ 1 ∷ 2 ∷ [])) ∷
          line (stmt.Upon 3 1 []) ∷ line (stmt.Fill 2 (Literal (pos 3))) ∷ line (stmt.Fill 1 (Literal (pos 2))) ∷
          []) ∷
          proc (line (stmt.Print (Local 0)) ∷ []) ∷
          []) 0;
      config = usual;
      replies = empty 5 (Done ∷ []);
      trace = (entry.Enq 0 false ∷ entry.Cycle ∷ entry.Job 0 ∷ entry.Fill 2 (pos 3) ∷ entry.Enq 1 false ∷
          entry.Fill 1 (pos 2) ∷ entry.Enq 2 false ∷ entry.Job 1 ∷ entry.Fill 3 (pos 2) ∷ entry.Enq 3 false ∷
          entry.Job 2 ∷ entry.Job 3 ∷ entry.Print (pos 2) ∷ entry.End ending.Idle ∷ []);
      asks = drains 5 (ask.Close ∷ []);
    }

-- a choice removes its own registrations, also that which is the last of all:
-- proc main; ivar a; ivar b; ivar c; yield y; upon y F b; fill a 1; upon a O; any r b c; fill c 3; end; proc F v:num
-- b:ivar; offer b 4; end; proc O v:num; print v; end
abbrev pub choice_removes_its_last_registration : Row
choice_removes_its_last_registration =
    record {
      program = without_ask (
          proc (line (stmt.Ivar 0) ∷ line (stmt.Ivar 1) ∷ line (stmt.Ivar 2) ∷ line (stmt.Yield 3) ∷ line (stmt.Upon 3 1 ((Local 1) ∷ [])) ∷
          line (stmt.Fill 0 (Literal (pos 1))) ∷ line (stmt.Upon 0 2 []) ∷ line (stmt.Any 4 (1 ∷ 2 ∷ [])) ∷
          line (stmt.Fill 2 (Literal (pos 3))) ∷ []) ∷
          proc (line (stmt.Offer 1 (Literal (pos 4))) ∷ []) ∷
          proc (line (stmt.Print (Local 0)) ∷ []) ∷
          []) 0;
      config = usual;
      replies = empty 6 (Done ∷ []);
      trace = (entry.Enq 0 false ∷ entry.Cycle ∷ entry.Job 0 ∷ entry.Fill 0 (pos 1) ∷ entry.Enq 1 false ∷
          entry.Fill 2 (pos 3) ∷ entry.Enq 2 false ∷ entry.Job 1 ∷ entry.Print (pos 1) ∷ entry.Job 2 ∷
          entry.Fill 4 (pos 3) ∷ entry.Cycle ∷ entry.Fill 3 (pos 0) ∷ entry.Enq 3 false ∷ entry.Job 3 ∷
          entry.Fill 1 (pos 4) ∷ entry.End ending.Idle ∷ []);
      asks = drains 6 (ask.Close ∷ []);
    }

-- the first job of a choice removes the other registrations, in any order of the list:
-- proc main; ivar a; ivar b; ivar c; any r a b c; upon b O; fill b 2; yield y; upon y F a c; end; proc F v:num a:ivar
-- c:ivar; fill a 1; fill c 3; upon c O; end; proc O v:num; print v; end
abbrev pub choice_removes_its_registrations : Row
choice_removes_its_registrations =
    record {
      program = without_ask (
          proc (line (stmt.Ivar 0) ∷ line (stmt.Ivar 1) ∷ line (stmt.Ivar 2) ∷ line (stmt.Any 3 (0 ∷ 1 ∷ 2 ∷ [])) ∷
          line (stmt.Upon 1 2 []) ∷ line (stmt.Fill 1 (Literal (pos 2))) ∷ line (stmt.Yield 4) ∷ line (stmt.Upon 4 1 ((Local 0) ∷ (Local 2) ∷ [])) ∷
          []) ∷
          proc (line (stmt.Fill 1 (Literal (pos 1))) ∷ line (stmt.Fill 2 (Literal (pos 3))) ∷ line (stmt.Upon 2 2 []) ∷
          []) ∷
          proc (line (stmt.Print (Local 0)) ∷ []) ∷
          []) 0;
      config = usual;
      replies = empty 7 (Done ∷ []);
      trace = (entry.Enq 0 false ∷ entry.Cycle ∷ entry.Job 0 ∷ entry.Fill 1 (pos 2) ∷ entry.Enq 1 false ∷
          entry.Enq 2 false ∷ entry.Job 1 ∷ entry.Fill 3 (pos 2) ∷ entry.Job 2 ∷ entry.Print (pos 2) ∷
          entry.Cycle ∷ entry.Fill 4 (pos 0) ∷ entry.Enq 3 false ∷ entry.Job 3 ∷ entry.Fill 0 (pos 1) ∷
          entry.Fill 2 (pos 3) ∷ entry.Enq 4 false ∷ entry.Job 4 ∷ entry.Print (pos 3) ∷ entry.End ending.Idle ∷
          []);
      asks = drains 7 (ask.Close ∷ []);
    }

-- the procedure of a choose runs in the context of the choose:
-- proc main; ivar a; monitor m; detach m; within m A a; low A a; yield y; upon y F a; end; proc A a:ivar; never n;
-- choose r n S a S with; any q n a; upon q O; end; proc S x:num; raise x; end; proc F v:num a:ivar; fill a 4; end;
-- proc O v:num; print v; end
abbrev pub choose_in_its_context : Row
choose_in_its_context =
    record {
      program = without_ask (
          proc (line (stmt.Ivar 0) ∷ line (stmt.Monitor 1) ∷ line (stmt.Detach 1) ∷ line (stmt.Within 1 1 ((Local 0) ∷ [])) ∷
          line (stmt.Low 1 ((Local 0) ∷ [])) ∷ line (stmt.Yield 2) ∷ line (stmt.Upon 2 3 ((Local 0) ∷ [])) ∷
          []) ∷
          proc (line (stmt.Never 1) ∷ line (stmt.Choose 2 (choice 1 2 ∷ choice 0 2 ∷ []) []) ∷ line (stmt.Any 3 (1 ∷ 0 ∷ [])) ∷
          line (stmt.Upon 3 4 []) ∷ []) ∷
          proc (line (stmt.Raise (Local 0)) ∷ []) ∷
          proc (line (stmt.Fill 1 (Literal (pos 4))) ∷ []) ∷
          proc (line (stmt.Print (Local 0)) ∷ []) ∷
          []) 0;
      config = usual;
      replies = empty 9 (Done ∷ []);
      trace = (entry.Enq 0 false ∷ entry.Cycle ∷ entry.Job 0 ∷ entry.Monitor 1 0 ∷ entry.Detach 1 ∷ entry.Enq 1 false ∷
          entry.Enq 2 true ∷ entry.Job 1 ∷ entry.Job 2 ∷ entry.Cycle ∷ entry.Fill 1 (pos 0) ∷ entry.Enq 3 false ∷
          entry.Job 3 ∷ entry.Fill 0 (pos 4) ∷ entry.Enq 4 false ∷ entry.Enq 5 false ∷ entry.Enq 6 true ∷
          entry.Enq 7 true ∷ entry.Job 4 ∷ entry.Error (pos 4) 1 ∷ entry.Caught 1 ∷ entry.Job 5 ∷ entry.Fill 4 (pos 4) ∷
          entry.Enq 8 false ∷ entry.Job 8 ∷ entry.Print (pos 4) ∷ entry.Job 6 ∷ entry.Error (pos 4) 0 ∷
          entry.Unhandled (pos 4) ∷ entry.End ending.Unhandled ∷ []);
      asks = drains 9 (ask.Close ∷ []);
    }

-- choose runs the procedure of the deferred that it takes, on its value and the args, in the same job:
-- proc main; ivar a; ivar b; choose r a A b B with 10; upon r O; fill b 2; fill a 1; end; proc A v:num w:num; set s v
-- - w; ret s; end; proc B v:num w:num; set s v + w; ret s; end; proc O v:num; print v; end
abbrev pub choose_runs_one : Row
choose_runs_one =
    record {
      program = without_ask (
          proc (line (stmt.Ivar 0) ∷ line (stmt.Ivar 1) ∷ line (stmt.Choose 2 (choice 0 1 ∷ choice 1 2 ∷ []) ((Literal (pos 10)) ∷ [])) ∷
          line (stmt.Upon 2 3 []) ∷ line (stmt.Fill 1 (Literal (pos 2))) ∷ line (stmt.Fill 0 (Literal (pos 1))) ∷
          []) ∷
          proc (line (stmt.Set 2 (Local 0) operator.Sub (Local 1)) ∷ line (stmt.Ret (Local 2)) ∷ []) ∷
          proc (line (stmt.Set 2 (Local 0) operator.Add (Local 1)) ∷ line (stmt.Ret (Local 2)) ∷ []) ∷
          proc (line (stmt.Print (Local 0)) ∷ []) ∷
          []) 0;
      config = usual;
      replies = empty 5 (Done ∷ []);
      trace = (entry.Enq 0 false ∷ entry.Cycle ∷ entry.Job 0 ∷ entry.Fill 1 (pos 2) ∷ entry.Enq 1 false ∷
          entry.Fill 0 (pos 1) ∷ entry.Enq 2 false ∷ entry.Job 1 ∷ entry.Fill 2 (negsuc 8) ∷ entry.Enq 3 false ∷
          entry.Job 2 ∷ entry.Job 3 ∷ entry.Print (negsuc 8) ∷ entry.End ending.Idle ∷ []);
      asks = drains 5 (ask.Close ∷ []);
    }
