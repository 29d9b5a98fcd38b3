-- Pins of jobs: their values, contexts, numbers and limits: short scripts, each about one rule, with the runs that another implementation gives.
use Rattle.std.specs.Prelude.{pos, negsuc, [], ◌∷◌, true, false}
use Rattle.ak_labor.specs.declared.ask.Ask.TheVariants as ask
use Rattle.ak_labor.specs.Calls.{Done}
use Rattle.ak_script.specs.declared.statement.Operator.TheVariants as operator
use Rattle.ak_script.specs.declared.statement.GuardMode.TheVariants as mode
use Rattle.ak_program.specs.declared.statement.NumAtom.TheVariants.{Literal, Local}
use Rattle.ak_program.specs.declared.statement.NumStmt.TheVariants as stmt
use Rattle.ak_program.specs.declared.program.NumPrefix.TheVariants.{If, Unless}
use Rattle.ak_trace.specs.declared.entry.Entry.TheVariants as entry
use Rattle.ak_trace.specs.declared.entry.Ending.TheVariants as ending
use Rattle.ak_rows.specs.Row.{Row, usual, without_ask, proc, line, line_when, choice, empty, drains}

-- args of a call are the values of the moment of the statement:
-- proc main; ivar i; set x 1 + 1; upon i T x; sched T 9 x; low T 8 x; set y x * x; upon i T y; fill i 0; end; proc T
-- a:num b:num; print a; print b; end
abbrev pub args_are_taken_at_registration : Row
args_are_taken_at_registration =
    record {
      program = without_ask (
          proc (line (stmt.Ivar 0) ∷ line (stmt.Set 1 (Literal (pos 1)) operator.Add (Literal (pos 1))) ∷ line (stmt.Upon 0 1 ((Local 1) ∷ [])) ∷
          line (stmt.Sched 1 ((Literal (pos 9)) ∷ (Local 1) ∷ [])) ∷ line (stmt.Low 1 ((Literal (pos 8)) ∷ (Local 1) ∷ [])) ∷
          line (stmt.Set 2 (Local 1) operator.Mul (Local 1)) ∷ line (stmt.Upon 0 1 ((Local 2) ∷ [])) ∷
          line (stmt.Fill 0 (Literal (pos 0))) ∷ []) ∷
          proc (line (stmt.Print (Local 0)) ∷ line (stmt.Print (Local 1)) ∷ []) ∷
          []) 0;
      config = usual;
      replies = empty 6 (Done ∷ []);
      trace = (entry.Enq 0 false ∷ entry.Cycle ∷ entry.Job 0 ∷ entry.Enq 1 false ∷ entry.Enq 2 true ∷ entry.Fill 0 (pos 0) ∷
          entry.Enq 3 false ∷ entry.Enq 4 false ∷ entry.Job 1 ∷ entry.Print (pos 9) ∷ entry.Print (pos 2) ∷
          entry.Job 3 ∷ entry.Print (pos 0) ∷ entry.Print (pos 2) ∷ entry.Job 4 ∷ entry.Print (pos 0) ∷
          entry.Print (pos 4) ∷ entry.Job 2 ∷ entry.Print (pos 8) ∷ entry.Print (pos 2) ∷ entry.End ending.Idle ∷
          []);
      asks = drains 6 (ask.Close ∷ []);
    }

-- quotients cut towards zero, a remainder has the sign of its left side:
-- proc main; set a 7 / 2; print a; set b -7 / 2; print b; set c 7 / -2; print c; set d -7 / -2; print d; set e 7 %
-- -2; print e; set f -7 % 2; print f; set g -7 % -2; print g; set h 6 % 3; print h; set i -9223372036854775808 % -1;
-- print i; set j -1 / 1; print j; set k 1 / -1; print k; set l 0 / -2; print l; end
abbrev pub division_cuts_and_remainder_has_the_sign_of_a : Row
division_cuts_and_remainder_has_the_sign_of_a =
    record {
      program = without_ask (
          proc (line (stmt.Set 0 (Literal (pos 7)) operator.Div (Literal (pos 2))) ∷ line (stmt.Print (Local 0)) ∷
          line (stmt.Set 1 (Literal (negsuc 6)) operator.Div (Literal (pos 2))) ∷ line (stmt.Print (Local 1)) ∷
          line (stmt.Set 2 (Literal (pos 7)) operator.Div (Literal (negsuc 1))) ∷ line (stmt.Print (Local 2)) ∷
          line (stmt.Set 3 (Literal (negsuc 6)) operator.Div (Literal (negsuc 1))) ∷ line (stmt.Print (Local 3)) ∷
          line (stmt.Set 4 (Literal (pos 7)) operator.Rem (Literal (negsuc 1))) ∷ line (stmt.Print (Local 4)) ∷
          line (stmt.Set 5 (Literal (negsuc 6)) operator.Rem (Literal (pos 2))) ∷ line (stmt.Print (Local 5)) ∷
          line (stmt.Set 6 (Literal (negsuc 6)) operator.Rem (Literal (negsuc 1))) ∷ line (stmt.Print (Local 6)) ∷
          line (stmt.Set 7 (Literal (pos 6)) operator.Rem (Literal (pos 3))) ∷ line (stmt.Print (Local 7)) ∷
          line (stmt.Set 8 (Literal (negsuc 9223372036854775807)) operator.Rem (Literal (negsuc 0))) ∷
          line (stmt.Print (Local 8)) ∷ line (stmt.Set 9 (Literal (negsuc 0)) operator.Div (Literal (pos 1))) ∷
          line (stmt.Print (Local 9)) ∷ line (stmt.Set 10 (Literal (pos 1)) operator.Div (Literal (negsuc 0))) ∷
          line (stmt.Print (Local 10)) ∷ line (stmt.Set 11 (Literal (pos 0)) operator.Div (Literal (negsuc 1))) ∷
          line (stmt.Print (Local 11)) ∷ []) ∷
          []) 0;
      config = usual;
      replies = empty 2 (Done ∷ []);
      trace = (entry.Enq 0 false ∷ entry.Cycle ∷ entry.Job 0 ∷ entry.Print (pos 3) ∷ entry.Print (negsuc 2) ∷
          entry.Print (negsuc 2) ∷ entry.Print (pos 3) ∷ entry.Print (pos 1) ∷ entry.Print (negsuc 0) ∷
          entry.Print (negsuc 0) ∷ entry.Print (pos 0) ∷ entry.Print (pos 0) ∷ entry.Print (negsuc 0) ∷
          entry.Print (negsuc 0) ∷ entry.Print (pos 0) ∷ entry.End ending.Idle ∷ []);
      asks = drains 2 (ask.Close ∷ []);
    }

-- each statement with a result draws one number, also where it is never used:
-- proc main; ivar g; never a; yield b; after c 9; event e d 9; bind f g P; all h g then P; any i g; choose j g P
-- with; monitor m; nexterr k m; pipe p 0; rd l p P else Q; pipe q 0; write n q 1; write o q 2; flushed r q; throttle
-- t 1 go; tdone s t; enqueue u t Q; tdone v t; try w Q else P; ivar z; fill z 1; stop; end; proc P v:num; end; proc
-- Q; end
abbrev pub each_result_draws_one_number : Row
each_result_draws_one_number =
    record {
      program = without_ask (
          proc (line (stmt.Ivar 0) ∷ line (stmt.Never 1) ∷ line (stmt.Yield 2) ∷ line (stmt.After 3 (Literal (pos 9))) ∷
          line (stmt.Event 4 5 (Literal (pos 9))) ∷ line (stmt.Bind 6 0 1 []) ∷ line (stmt.All 7 (0 ∷ []) 1 []) ∷
          line (stmt.Any 8 (0 ∷ [])) ∷ line (stmt.Choose 9 (choice 0 1 ∷ []) []) ∷ line (stmt.Monitor 10) ∷
          line (stmt.NextError 11 10) ∷ line (stmt.Pipe 12 0) ∷ line (stmt.Read 13 12 1 [] 2 []) ∷ line (stmt.Pipe 14 0) ∷
          line (stmt.Write 15 14 (Literal (pos 1))) ∷ line (stmt.Write 16 14 (Literal (pos 2))) ∷ line (stmt.Flushed 17 14) ∷
          line (stmt.Throttle 18 1 false) ∷ line (stmt.ThrottleDone 19 18) ∷ line (stmt.Enqueue 20 18 2 []) ∷
          line (stmt.ThrottleDone 21 18) ∷ line (stmt.Try 22 2 [] 1 [] mode.Drop) ∷ line (stmt.Ivar 23) ∷
          line (stmt.Fill 23 (Literal (pos 1))) ∷ line (stmt.Stop) ∷ []) ∷
          proc [] ∷
          proc [] ∷
          []) 0;
      config = usual;
      replies = empty 1 (Done ∷ []);
      trace = (entry.Enq 0 false ∷ entry.Cycle ∷ entry.Job 0 ∷ entry.Monitor 1 0 ∷ entry.Fill 14 (pos 0) ∷
          entry.Monitor 2 0 ∷ entry.Detach 2 ∷ entry.Enq 1 false ∷ entry.Monitor 3 0 ∷ entry.Detach 3 ∷
          entry.Enq 2 false ∷ entry.Fill 18 (pos 1) ∷ entry.End ending.Stopped ∷ []);
      asks = drains 1 (ask.Close ∷ []);
    }

-- a handler runs in the monitor and priority in which it was registered:
-- proc main; ivar i; ivar j; fill j 2; monitor m; detach m; monitor z; within m A i j; low L i j; yield y; upon y F
-- i; end; proc A i:ivar j:ivar; upon i R; upon j R; end; proc L i:ivar j:ivar; upon i O; upon j O; end; proc R v:num;
-- raise v; end; proc F v:num i:ivar; fill i 7; end; proc O v:num; print v; end
abbrev pub handlers_keep_their_context : Row
handlers_keep_their_context =
    record {
      program = without_ask (
          proc (line (stmt.Ivar 0) ∷ line (stmt.Ivar 1) ∷ line (stmt.Fill 1 (Literal (pos 2))) ∷ line (stmt.Monitor 2) ∷
          line (stmt.Detach 2) ∷ line (stmt.Monitor 3) ∷ line (stmt.Within 2 1 ((Local 0) ∷ (Local 1) ∷ [])) ∷
          line (stmt.Low 2 ((Local 0) ∷ (Local 1) ∷ [])) ∷ line (stmt.Yield 4) ∷ line (stmt.Upon 4 4 ((Local 0) ∷ [])) ∷
          []) ∷
          proc (line (stmt.Upon 0 3 []) ∷ line (stmt.Upon 1 3 []) ∷ []) ∷
          proc (line (stmt.Upon 0 5 []) ∷ line (stmt.Upon 1 5 []) ∷ []) ∷
          proc (line (stmt.Raise (Local 0)) ∷ []) ∷
          proc (line (stmt.Fill 1 (Literal (pos 7))) ∷ []) ∷
          proc (line (stmt.Print (Local 0)) ∷ []) ∷
          []) 0;
      config = usual;
      replies = empty 10 (Done ∷ []);
      trace = (entry.Enq 0 false ∷ entry.Cycle ∷ entry.Job 0 ∷ entry.Fill 1 (pos 2) ∷ entry.Monitor 1 0 ∷
          entry.Detach 1 ∷ entry.Monitor 2 0 ∷ entry.Enq 1 false ∷ entry.Enq 2 true ∷ entry.Job 1 ∷ entry.Enq 3 false ∷
          entry.Job 3 ∷ entry.Error (pos 2) 1 ∷ entry.Caught 1 ∷ entry.Job 2 ∷ entry.Enq 4 true ∷ entry.Job 4 ∷
          entry.Print (pos 2) ∷ entry.Cycle ∷ entry.Fill 2 (pos 0) ∷ entry.Enq 5 false ∷ entry.Job 5 ∷
          entry.Fill 0 (pos 7) ∷ entry.Enq 6 false ∷ entry.Enq 7 true ∷ entry.Job 6 ∷ entry.Error (pos 7) 1 ∷
          entry.Caught 1 ∷ entry.Job 7 ∷ entry.Print (pos 7) ∷ entry.End ending.Idle ∷ []);
      asks = drains 10 (ask.Close ∷ []);
    }

-- a run of exactly J jobs ends idle:
-- proc main; sched A; sched A; end; proc A; print 1; end
abbrev pub job_limit_just_met : Row
job_limit_just_met =
    record {
      program = without_ask (
          proc (line (stmt.Sched 1 []) ∷ line (stmt.Sched 1 []) ∷ []) ∷
          proc (line (stmt.Print (Literal (pos 1))) ∷ []) ∷
          []) 0;
      config = record usual { jobs = 3 };
      replies = empty 4 (Done ∷ []);
      trace = (entry.Enq 0 false ∷ entry.Cycle ∷ entry.Job 0 ∷ entry.Enq 1 false ∷ entry.Enq 2 false ∷ entry.Job 1 ∷
          entry.Print (pos 1) ∷ entry.Job 2 ∷ entry.Print (pos 1) ∷ entry.End ending.Idle ∷ []);
      asks = drains 4 (ask.Close ∷ []);
    }

-- the limit J counts over all cycles and both priorities, and a cycle begins without a pick:
-- proc main; low O 1; yield y; upon y O; sched O 2; end; proc O v:num; print v; end
abbrev pub job_limit_over_cycles : Row
job_limit_over_cycles =
    record {
      program = without_ask (
          proc (line (stmt.Low 1 ((Literal (pos 1)) ∷ [])) ∷ line (stmt.Yield 0) ∷ line (stmt.Upon 0 1 []) ∷
          line (stmt.Sched 1 ((Literal (pos 2)) ∷ [])) ∷ []) ∷
          proc (line (stmt.Print (Local 0)) ∷ []) ∷
          []) 0;
      config = record usual { limit = 1; jobs = 3 };
      replies = empty 6 (Done ∷ []);
      trace = (entry.Enq 0 false ∷ entry.Cycle ∷ entry.Job 0 ∷ entry.Enq 1 true ∷ entry.Enq 2 false ∷ entry.Job 1 ∷
          entry.Print (pos 1) ∷ entry.Cycle ∷ entry.Fill 0 (pos 0) ∷ entry.Enq 3 false ∷ entry.Job 2 ∷
          entry.Print (pos 2) ∷ entry.Cycle ∷ entry.End ending.Jobs ∷ []);
      asks = drains 6 (ask.Close ∷ []);
    }

-- what the procedures of upon, bind, all and choose enqueue has the priority of their statement:
-- proc main; sched L; low L; end; proc L; ivar i; upon i H; bind b i H; all a i then H; choose c i H with; fill i 1;
-- end; proc H v:num; monitor m; within m Q; end; proc Q; end
abbrev pub jobs_of_handlers_keep_their_priority : Row
jobs_of_handlers_keep_their_priority =
    record {
      program = without_ask (
          proc (line (stmt.Sched 1 []) ∷ line (stmt.Low 1 []) ∷ []) ∷
          proc (line (stmt.Ivar 0) ∷ line (stmt.Upon 0 2 []) ∷ line (stmt.Bind 1 0 2 []) ∷ line (stmt.All 2 (0 ∷ []) 2 []) ∷
          line (stmt.Choose 3 (choice 0 2 ∷ []) []) ∷ line (stmt.Fill 0 (Literal (pos 1))) ∷ []) ∷
          proc (line (stmt.Monitor 1) ∷ line (stmt.Within 1 3 []) ∷ []) ∷
          proc [] ∷
          []) 0;
      config = usual;
      replies = empty 20 (Done ∷ []);
      trace = (entry.Enq 0 false ∷ entry.Cycle ∷ entry.Job 0 ∷ entry.Enq 1 false ∷ entry.Enq 2 true ∷ entry.Job 1 ∷
          entry.Fill 0 (pos 1) ∷ entry.Enq 3 false ∷ entry.Enq 4 false ∷ entry.Enq 5 false ∷ entry.Enq 6 false ∷
          entry.Job 3 ∷ entry.Monitor 1 0 ∷ entry.Enq 7 false ∷ entry.Job 4 ∷ entry.Monitor 2 0 ∷ entry.Enq 8 false ∷
          entry.Fill 1 (pos 0) ∷ entry.Job 5 ∷ entry.Monitor 3 0 ∷ entry.Enq 9 false ∷ entry.Fill 2 (pos 0) ∷
          entry.Job 6 ∷ entry.Monitor 4 0 ∷ entry.Enq 10 false ∷ entry.Fill 3 (pos 0) ∷ entry.Job 7 ∷
          entry.Job 8 ∷ entry.Job 9 ∷ entry.Job 10 ∷ entry.Job 2 ∷ entry.Fill 4 (pos 1) ∷ entry.Enq 11 true ∷
          entry.Enq 12 true ∷ entry.Enq 13 true ∷ entry.Enq 14 true ∷ entry.Job 11 ∷ entry.Monitor 5 0 ∷
          entry.Enq 15 true ∷ entry.Job 12 ∷ entry.Monitor 6 0 ∷ entry.Enq 16 true ∷ entry.Fill 5 (pos 0) ∷
          entry.Job 13 ∷ entry.Monitor 7 0 ∷ entry.Enq 17 true ∷ entry.Fill 6 (pos 0) ∷ entry.Job 14 ∷
          entry.Monitor 8 0 ∷ entry.Enq 18 true ∷ entry.Fill 7 (pos 0) ∷ entry.Job 15 ∷ entry.Job 16 ∷
          entry.Job 17 ∷ entry.Job 18 ∷ entry.End ending.Idle ∷ []);
      asks = drains 20 (ask.Close ∷ []);
    }

-- in a cycle at most L jobs of each priority run, and a low one where the normal ones had their turn:
-- proc main; low B; sched A; sched A; end; proc A; print 1; end; proc B; print 2; sched A; end
abbrev pub limit_per_cycle : Row
limit_per_cycle =
    record {
      program = without_ask (
          proc (line (stmt.Low 2 []) ∷ line (stmt.Sched 1 []) ∷ line (stmt.Sched 1 []) ∷ []) ∷
          proc (line (stmt.Print (Literal (pos 1))) ∷ []) ∷
          proc (line (stmt.Print (Literal (pos 2))) ∷ line (stmt.Sched 1 []) ∷ []) ∷
          []) 0;
      config = record usual { limit = 2 };
      replies = empty 7 (Done ∷ []);
      trace = (entry.Enq 0 false ∷ entry.Cycle ∷ entry.Job 0 ∷ entry.Enq 1 true ∷ entry.Enq 2 false ∷ entry.Enq 3 false ∷
          entry.Job 2 ∷ entry.Print (pos 1) ∷ entry.Job 1 ∷ entry.Print (pos 2) ∷ entry.Enq 4 false ∷
          entry.Cycle ∷ entry.Job 3 ∷ entry.Print (pos 1) ∷ entry.Job 4 ∷ entry.Print (pos 1) ∷ entry.End ending.Idle ∷
          []);
      asks = drains 7 (ask.Close ∷ []);
    }

-- low jobs that wait begin the next cycle:
-- proc main; low O 1; low O 2; low O 3; end; proc O v:num; print v; end
abbrev pub low_jobs_alone_begin_a_cycle : Row
low_jobs_alone_begin_a_cycle =
    record {
      program = without_ask (
          proc (line (stmt.Low 1 ((Literal (pos 1)) ∷ [])) ∷ line (stmt.Low 1 ((Literal (pos 2)) ∷ [])) ∷ line (stmt.Low 1 ((Literal (pos 3)) ∷ [])) ∷
          []) ∷
          proc (line (stmt.Print (Local 0)) ∷ []) ∷
          []) 0;
      config = record usual { limit = 2 };
      replies = empty 6 (Done ∷ []);
      trace = (entry.Enq 0 false ∷ entry.Cycle ∷ entry.Job 0 ∷ entry.Enq 1 true ∷ entry.Enq 2 true ∷ entry.Enq 3 true ∷
          entry.Job 1 ∷ entry.Print (pos 1) ∷ entry.Job 2 ∷ entry.Print (pos 2) ∷ entry.Cycle ∷ entry.Job 3 ∷
          entry.Print (pos 3) ∷ entry.End ending.Idle ∷ []);
      asks = drains 6 (ask.Close ∷ []);
    }

-- a result outside 64 bits raises -1, the greatest and the least number do not:
-- proc main; monitor m; detach m; within m A; within m B; within m C; within m D; within m E; within m F; set x
-- 9223372036854775806 + 1; print x; set y -9223372036854775807 - 1; print y; end; proc E; set x 1 / 0; print x; end;
-- proc F; set x 0 % 0; print x; end; proc A; set x 9223372036854775807 + 1; print x; end; proc B; set x
-- -9223372036854775808 - 1; print x; end; proc C; set x 4294967296 * 2147483648; print x; end; proc D; set x
-- -9223372036854775808 / -1; print x; end
abbrev pub numbers_end_at_64_bits : Row
numbers_end_at_64_bits =
    record {
      program = without_ask (
          proc (line (stmt.Monitor 0) ∷ line (stmt.Detach 0) ∷ line (stmt.Within 0 3 []) ∷ line (stmt.Within 0 4 []) ∷
          line (stmt.Within 0 5 []) ∷ line (stmt.Within 0 6 []) ∷ line (stmt.Within 0 1 []) ∷ line (stmt.Within 0 2 []) ∷
          line (stmt.Set 1 (Literal (pos 9223372036854775806)) operator.Add (Literal (pos 1))) ∷ line (stmt.Print (Local 1)) ∷
          line (stmt.Set 2 (Literal (negsuc 9223372036854775806)) operator.Sub (Literal (pos 1))) ∷ line (stmt.Print (Local 2)) ∷
          []) ∷
          proc (line (stmt.Set 0 (Literal (pos 1)) operator.Div (Literal (pos 0))) ∷ line (stmt.Print (Local 0)) ∷
          []) ∷
          proc (line (stmt.Set 0 (Literal (pos 0)) operator.Rem (Literal (pos 0))) ∷ line (stmt.Print (Local 0)) ∷
          []) ∷
          proc (line (stmt.Set 0 (Literal (pos 9223372036854775807)) operator.Add (Literal (pos 1))) ∷ line (stmt.Print (Local 0)) ∷
          []) ∷
          proc (line (stmt.Set 0 (Literal (negsuc 9223372036854775807)) operator.Sub (Literal (pos 1))) ∷ line (stmt.Print (Local 0)) ∷
          []) ∷
          proc (line (stmt.Set 0 (Literal (pos 4294967296)) operator.Mul (Literal (pos 2147483648))) ∷ line (stmt.Print (Local 0)) ∷
          []) ∷
          proc (line (stmt.Set 0 (Literal (negsuc 9223372036854775807)) operator.Div (Literal (negsuc 0))) ∷
          line (stmt.Print (Local 0)) ∷ []) ∷
          []) 0;
      config = usual;
      replies = empty 8 (Done ∷ []);
      trace = (entry.Enq 0 false ∷ entry.Cycle ∷ entry.Job 0 ∷ entry.Monitor 1 0 ∷ entry.Detach 1 ∷ entry.Enq 1 false ∷
          entry.Enq 2 false ∷ entry.Enq 3 false ∷ entry.Enq 4 false ∷ entry.Enq 5 false ∷ entry.Enq 6 false ∷
          entry.Print (pos 9223372036854775807) ∷ entry.Print (negsuc 9223372036854775807) ∷ entry.Job 1 ∷
          entry.Error (negsuc 0) 1 ∷ entry.Caught 1 ∷ entry.Job 2 ∷ entry.Error (negsuc 0) 1 ∷ entry.Caught 1 ∷
          entry.Job 3 ∷ entry.Error (negsuc 0) 1 ∷ entry.Caught 1 ∷ entry.Job 4 ∷ entry.Error (negsuc 0) 1 ∷
          entry.Caught 1 ∷ entry.Job 5 ∷ entry.Error (negsuc 1) 1 ∷ entry.Caught 1 ∷ entry.Job 6 ∷ entry.Error (negsuc 1) 1 ∷
          entry.Caught 1 ∷ entry.End ending.Idle ∷ []);
      asks = drains 8 (ask.Close ∷ []);
    }

-- each operator on numbers where it differs from the others; if acts where its number is not 0, unless where it is 0:
-- proc main; if 0 print 90; if -1 print 91; unless 0 print 92; unless -1 print 93; set a 7 + 3; print a; set b 7 - 3;
-- print b; set c 7 * 3; print c; set d 2 < 3; print d; set e 3 < 3; print e; set f 3 <= 3; print f; set g 4 <= 3;
-- print g; set h 3 = 3; print h; set i 3 = 4; print i; set j 3 != 4; print j; set k 3 != 3; print k; set l 4 < 3;
-- print l; end
abbrev pub operators_and_prefixes : Row
operators_and_prefixes =
    record {
      program = without_ask (
          proc (line_when (If (Literal (pos 0))) (stmt.Print (Literal (pos 90))) ∷ line_when (If (Literal (negsuc 0))) (stmt.Print (Literal (pos 91))) ∷
          line_when (Unless (Literal (pos 0))) (stmt.Print (Literal (pos 92))) ∷ line_when (Unless (Literal (negsuc 0))) (stmt.Print (Literal (pos 93))) ∷
          line (stmt.Set 0 (Literal (pos 7)) operator.Add (Literal (pos 3))) ∷ line (stmt.Print (Local 0)) ∷
          line (stmt.Set 1 (Literal (pos 7)) operator.Sub (Literal (pos 3))) ∷ line (stmt.Print (Local 1)) ∷
          line (stmt.Set 2 (Literal (pos 7)) operator.Mul (Literal (pos 3))) ∷ line (stmt.Print (Local 2)) ∷
          line (stmt.Set 3 (Literal (pos 2)) operator.Less (Literal (pos 3))) ∷ line (stmt.Print (Local 3)) ∷
          line (stmt.Set 4 (Literal (pos 3)) operator.Less (Literal (pos 3))) ∷ line (stmt.Print (Local 4)) ∷
          line (stmt.Set 5 (Literal (pos 3)) operator.LessEq (Literal (pos 3))) ∷ line (stmt.Print (Local 5)) ∷
          line (stmt.Set 6 (Literal (pos 4)) operator.LessEq (Literal (pos 3))) ∷ line (stmt.Print (Local 6)) ∷
          line (stmt.Set 7 (Literal (pos 3)) operator.Equal (Literal (pos 3))) ∷ line (stmt.Print (Local 7)) ∷
          line (stmt.Set 8 (Literal (pos 3)) operator.Equal (Literal (pos 4))) ∷ line (stmt.Print (Local 8)) ∷
          line (stmt.Set 9 (Literal (pos 3)) operator.NotEqual (Literal (pos 4))) ∷ line (stmt.Print (Local 9)) ∷
          line (stmt.Set 10 (Literal (pos 3)) operator.NotEqual (Literal (pos 3))) ∷ line (stmt.Print (Local 10)) ∷
          line (stmt.Set 11 (Literal (pos 4)) operator.Less (Literal (pos 3))) ∷ line (stmt.Print (Local 11)) ∷
          []) ∷
          []) 0;
      config = usual;
      replies = empty 2 (Done ∷ []);
      trace = (entry.Enq 0 false ∷ entry.Cycle ∷ entry.Job 0 ∷ entry.Print (pos 91) ∷ entry.Print (pos 92) ∷
          entry.Print (pos 10) ∷ entry.Print (pos 4) ∷ entry.Print (pos 21) ∷ entry.Print (pos 1) ∷ entry.Print (pos 0) ∷
          entry.Print (pos 1) ∷ entry.Print (pos 0) ∷ entry.Print (pos 1) ∷ entry.Print (pos 0) ∷ entry.Print (pos 1) ∷
          entry.Print (pos 0) ∷ entry.Print (pos 0) ∷ entry.End ending.Idle ∷ []);
      asks = drains 2 (ask.Close ∷ []);
    }

-- each pipe, throttle and event is the one named:
-- proc main; pipe p 0; pipe q 1; pipe o 2; throttle t 1 go; throttle u 2 go; throttle v 3 go; event e r 5; event f s
-- 5; write a p 1; write b q 2; write k q 3; rd x p O else H; enqueue c t N 1; enqueue d t N 2; enqueue g u N 3;
-- enqueue h u N 4; enqueue i u N 5; abort e; upon r O; end; proc N n:num; print n; never r; ret r; end; proc H; end;
-- proc O v:num; print v; end
abbrev pub things_by_their_names : Row
things_by_their_names =
    record {
      program = without_ask (
          proc (line (stmt.Pipe 0 0) ∷ line (stmt.Pipe 1 1) ∷ line (stmt.Pipe 2 2) ∷ line (stmt.Throttle 3 1 false) ∷
          line (stmt.Throttle 4 2 false) ∷ line (stmt.Throttle 5 3 false) ∷ line (stmt.Event 6 7 (Literal (pos 5))) ∷
          line (stmt.Event 8 9 (Literal (pos 5))) ∷ line (stmt.Write 10 0 (Literal (pos 1))) ∷ line (stmt.Write 11 1 (Literal (pos 2))) ∷
          line (stmt.Write 12 1 (Literal (pos 3))) ∷ line (stmt.Read 13 0 3 [] 2 []) ∷ line (stmt.Enqueue 14 3 1 ((Literal (pos 1)) ∷ [])) ∷
          line (stmt.Enqueue 15 3 1 ((Literal (pos 2)) ∷ [])) ∷ line (stmt.Enqueue 16 4 1 ((Literal (pos 3)) ∷ [])) ∷
          line (stmt.Enqueue 17 4 1 ((Literal (pos 4)) ∷ [])) ∷ line (stmt.Enqueue 18 4 1 ((Literal (pos 5)) ∷ [])) ∷
          line (stmt.Abort 6) ∷ line (stmt.Upon 7 3 []) ∷ []) ∷
          proc (line (stmt.Print (Local 0)) ∷ line (stmt.Never 1) ∷ line (stmt.Ret (Local 1)) ∷ []) ∷
          proc [] ∷
          proc (line (stmt.Print (Local 0)) ∷ []) ∷
          []) 0;
      config = usual;
      replies = empty 7 (Done ∷ []);
      trace = (entry.Enq 0 false ∷ entry.Cycle ∷ entry.Job 0 ∷ entry.Fill 3 (pos 0) ∷ entry.Fill 2 (pos 0) ∷
          entry.Enq 1 false ∷ entry.Monitor 1 0 ∷ entry.Detach 1 ∷ entry.Enq 2 false ∷ entry.Monitor 2 0 ∷
          entry.Detach 2 ∷ entry.Enq 3 false ∷ entry.Monitor 3 0 ∷ entry.Detach 3 ∷ entry.Enq 4 false ∷
          entry.Fill 0 (pos 1) ∷ entry.Enq 5 false ∷ entry.Job 1 ∷ entry.Print (pos 1) ∷ entry.Fill 5 (pos 0) ∷
          entry.Job 2 ∷ entry.Print (pos 1) ∷ entry.Job 3 ∷ entry.Print (pos 3) ∷ entry.Job 4 ∷ entry.Print (pos 4) ∷
          entry.Job 5 ∷ entry.Print (pos 1) ∷ entry.End ending.Idle ∷ []);
      asks = drains 7 (ask.Close ∷ []);
    }
