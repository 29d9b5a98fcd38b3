-- Pins of works and helpers: short scripts, each about one rule, with the runs that another implementation gives.
use Rattle.std.specs.Prelude.{pos, negsuc, [], ◌∷◌, true, false, Some, None}
use Rattle.ak_labor.specs.declared.ask.Ask.TheVariants as ask
use Rattle.ak_labor.specs.declared.work.Outcome.TheVariants as outcome
use Rattle.ak_labor.specs.declared.work.WorkKind.TheVariants as kind
use Rattle.ak_labor.specs.Calls.{Granted, Done}
use Rattle.ak_program.specs.declared.statement.NumAtom.TheVariants.{Literal, Local}
use Rattle.ak_program.specs.declared.statement.NumStmt.TheVariants as stmt
use Rattle.ak_trace.specs.declared.entry.Entry.TheVariants as entry
use Rattle.ak_trace.specs.declared.entry.Ending.TheVariants as ending
use Rattle.ak_rows.specs.Row.{Row, usual, brings, without_ask, proc, line, empty, drains, work}

-- a bad work, of a helper too, sends its error to the monitor of the job that submitted it:
-- proc main; helper h x; monitor m; detach m; onerror m O 1; within m A h; monitor z; detach z; end; proc A h:helper;
-- hwork w h fail 4; work u fail 5; ivar i; fill i 1; end; proc O v:num w:num; print w; print v; end
abbrev pub bad_works_of_a_monitor : Row
bad_works_of_a_monitor =
    record {
      program = without_ask (
          proc (line (stmt.Helper 0 1) ∷ line (stmt.Monitor 2) ∷ line (stmt.Detach 2) ∷ line (stmt.OnError 2 2 ((Literal (pos 1)) ∷ [])) ∷
          line (stmt.Within 2 1 ((Local 0) ∷ [])) ∷ line (stmt.Monitor 3) ∷ line (stmt.Detach 3) ∷ []) ∷
          proc (line (stmt.HelperWork 1 0 kind.Fail (Literal (pos 4))) ∷ line (stmt.Work 2 kind.Fail (Literal (pos 5))) ∷
          line (stmt.Ivar 3) ∷ line (stmt.Fill 3 (Literal (pos 1))) ∷ []) ∷
          proc (line (stmt.Print (Local 1)) ∷ line (stmt.Print (Local 0)) ∷ []) ∷
          []) 0;
      config = usual;
      replies = empty 1 (Granted true ∷ empty 1 (Done ∷ Done
          ∷ brings ((1, (outcome.Bad (pos 5))) ∷ (0, (outcome.Bad (pos 4))) ∷ []) ∷ empty 2 (Done ∷ [])));
      trace = (entry.Enq 0 false ∷ entry.Cycle ∷ entry.Job 0 ∷ entry.Helper 0 true ∷ entry.Monitor 1 0 ∷ entry.Detach 1 ∷
          entry.Enq 1 false ∷ entry.Monitor 2 0 ∷ entry.Detach 2 ∷ entry.Job 1 ∷ entry.Submit 0 kind.Fail (pos 4) ∷
          entry.Submit 1 kind.Fail (pos 5) ∷ entry.Fill 2 (pos 1) ∷ entry.Arrive 1 (outcome.Bad (pos 5)) ∷
          entry.Error (pos 5) 1 ∷ entry.Caught 1 ∷ entry.Enq 2 false ∷ entry.Arrive 0 (outcome.Bad (pos 4)) ∷
          entry.Error (pos 4) 1 ∷ entry.Caught 1 ∷ entry.Enq 3 false ∷ entry.Job 2 ∷ entry.Print (pos 1) ∷
          entry.Print (pos 5) ∷ entry.Job 3 ∷ entry.Print (pos 1) ∷ entry.Print (pos 4) ∷ entry.End ending.Idle ∷
          []);
      asks = drains 1 (ask.HelperNew 0 ∷ drains 1 (ask.Submit 0 (work kind.Fail (pos 4)) (Some 0)
          ∷ ask.Submit 1 (work kind.Fail (pos 5)) None ∷ drains 3 (ask.Close ∷ [])));
    }

-- of helpers, those that are granted and not ended alone count for stuck, and all threads have to be theirs:
-- proc main; helper h x; helper k y; helper l z; hdone h; work r square 3; upon r O; end; proc O v:num; print v; end
abbrev pub ended_and_refused_helpers_are_not_stuck : Row
ended_and_refused_helpers_are_not_stuck =
    record {
      program = without_ask (
          proc (line (stmt.Helper 0 1) ∷ line (stmt.Helper 2 3) ∷ line (stmt.Helper 4 5) ∷ line (stmt.HelperDone 0) ∷
          line (stmt.Work 6 kind.Square (Literal (pos 3))) ∷ line (stmt.Upon 6 1 []) ∷ []) ∷
          proc (line (stmt.Print (Local 0)) ∷ []) ∷
          []) 0;
      config = record usual { threads = 2 };
      replies = empty 1 (Granted true ∷ Granted true ∷ Granted false ∷ Done ∷ Done
          ∷ empty 1 (brings ((0, (outcome.Good (pos 9))) ∷ []) ∷ empty 1 (Done ∷ [])));
      trace = (entry.Enq 0 false ∷ entry.Cycle ∷ entry.Job 0 ∷ entry.Helper 0 true ∷ entry.Helper 1 true ∷
          entry.Helper 2 false ∷ entry.Submit 0 kind.Square (pos 3) ∷ entry.Cycle ∷ entry.Arrive 0 (outcome.Good (pos 9)) ∷
          entry.Fill 0 (pos 9) ∷ entry.Enq 1 false ∷ entry.Job 1 ∷ entry.Print (pos 9) ∷ entry.End ending.Idle ∷
          []);
      asks = drains 1 (ask.HelperNew 0 ∷ ask.HelperNew 1 ∷ ask.HelperNew 2 ∷ ask.HelperEnd 0
          ∷ ask.Submit 0 (work kind.Square (pos 3)) None ∷ drains 3 (ask.Close ∷ []));
    }

-- hdone of a helper ends it once, of a refused one it asks nothing; hwork of either raises -7 and draws nothing:
-- proc main; helper h x; helper k y; hdone h; hdone h; hdone k; monitor m; detach m; within m A h; within m A k;
-- sched B; end; proc A h:helper; hwork a h square 3; end; proc B; ivar i; fill i 4; end
abbrev pub helper_ends_once : Row
helper_ends_once =
    record {
      program = without_ask (
          proc (line (stmt.Helper 0 1) ∷ line (stmt.Helper 2 3) ∷ line (stmt.HelperDone 0) ∷ line (stmt.HelperDone 0) ∷
          line (stmt.HelperDone 2) ∷ line (stmt.Monitor 4) ∷ line (stmt.Detach 4) ∷ line (stmt.Within 4 1 ((Local 0) ∷ [])) ∷
          line (stmt.Within 4 1 ((Local 2) ∷ [])) ∷ line (stmt.Sched 2 []) ∷ []) ∷
          proc (line (stmt.HelperWork 1 0 kind.Square (Literal (pos 3))) ∷ []) ∷
          proc (line (stmt.Ivar 0) ∷ line (stmt.Fill 0 (Literal (pos 4))) ∷ []) ∷
          []) 0;
      config = record usual { threads = 1 };
      replies = empty 1 (Granted true ∷ Granted false ∷ Done ∷ empty 4 (Done ∷ []));
      trace = (entry.Enq 0 false ∷ entry.Cycle ∷ entry.Job 0 ∷ entry.Helper 0 true ∷ entry.Helper 1 false ∷
          entry.Monitor 1 0 ∷ entry.Detach 1 ∷ entry.Enq 1 false ∷ entry.Enq 2 false ∷ entry.Enq 3 false ∷
          entry.Job 1 ∷ entry.Error (negsuc 6) 1 ∷ entry.Caught 1 ∷ entry.Job 2 ∷ entry.Error (negsuc 6) 1 ∷
          entry.Caught 1 ∷ entry.Job 3 ∷ entry.Fill 0 (pos 4) ∷ entry.End ending.Idle ∷ []);
      asks = drains 1 (ask.HelperNew 0 ∷ ask.HelperNew 1 ∷ ask.HelperEnd 0 ∷ drains 4 (ask.Close ∷ []));
    }

-- an outstanding work of a helper: the run waits:
-- proc main; helper h x; hwork r h square 3; work s square 2; upon r O; end; proc O v:num; print v; end
abbrev pub helpers_work_is_not_stuck : Row
helpers_work_is_not_stuck =
    record {
      program = without_ask (
          proc (line (stmt.Helper 0 1) ∷ line (stmt.HelperWork 2 0 kind.Square (Literal (pos 3))) ∷ line (stmt.Work 3 kind.Square (Literal (pos 2))) ∷
          line (stmt.Upon 2 1 []) ∷ []) ∷
          proc (line (stmt.Print (Local 0)) ∷ []) ∷
          []) 0;
      config = record usual { threads = 1 };
      replies = empty 1 (Granted true ∷ Done ∷ Done ∷ empty 1 (brings ((0, (outcome.Good (pos 9))) ∷ [])
          ∷ empty 1 (Done ∷ [])));
      trace = (entry.Enq 0 false ∷ entry.Cycle ∷ entry.Job 0 ∷ entry.Helper 0 true ∷ entry.Submit 0 kind.Square (pos 3) ∷
          entry.Submit 1 kind.Square (pos 2) ∷ entry.Cycle ∷ entry.Arrive 0 (outcome.Good (pos 9)) ∷
          entry.Fill 0 (pos 9) ∷ entry.Enq 1 false ∷ entry.Job 1 ∷ entry.Print (pos 9) ∷ entry.End ending.Stuck ∷
          []);
      asks = drains 1 (ask.HelperNew 0 ∷ ask.Submit 0 (work kind.Square (pos 3)) (Some 0)
          ∷ ask.Submit 1 (work kind.Square (pos 2)) None ∷ drains 3 (ask.Close ∷ []));
    }

-- a finished work is outstanding until its arrival: the run waits and begins a cycle:
-- proc main; work a square 2; work b square 3; end
abbrev pub outstanding_until_arrival : Row
outstanding_until_arrival =
    record {
      program = without_ask (
          proc (line (stmt.Work 0 kind.Square (Literal (pos 2))) ∷ line (stmt.Work 1 kind.Square (Literal (pos 3))) ∷
          []) ∷
          []) 0;
      config = record usual { threads = 1 };
      replies = empty 1 (Done ∷ Done ∷ empty 1 (brings ((0, (outcome.Good (pos 4))) ∷ [])
          ∷ brings ((1, (outcome.Good (pos 9))) ∷ []) ∷ Done ∷ []));
      trace = (entry.Enq 0 false ∷ entry.Cycle ∷ entry.Job 0 ∷ entry.Submit 0 kind.Square (pos 2) ∷ entry.Submit 1 kind.Square (pos 3) ∷
          entry.Cycle ∷ entry.Arrive 0 (outcome.Good (pos 4)) ∷ entry.Fill 0 (pos 4) ∷ entry.Cycle ∷
          entry.Arrive 1 (outcome.Good (pos 9)) ∷ entry.Fill 1 (pos 9) ∷ entry.End ending.Idle ∷ []);
      asks = drains 1 (ask.Submit 0 (work kind.Square (pos 2)) None
          ∷ ask.Submit 1 (work kind.Square (pos 3)) None ∷ drains 3 (ask.Close ∷ []));
    }

-- the run is stuck where each thread is reserved and only general works are outstanding:
-- proc main; helper h x; work r square 2; end
abbrev pub stuck_with_a_general_work : Row
stuck_with_a_general_work =
    record {
      program = without_ask (
          proc (line (stmt.Helper 0 1) ∷ line (stmt.Work 2 kind.Square (Literal (pos 2))) ∷ []) ∷
          []) 0;
      config = record usual { threads = 1 };
      replies = empty 1 (Granted true ∷ Done ∷ empty 1 (Done ∷ []));
      trace = (entry.Enq 0 false ∷ entry.Cycle ∷ entry.Job 0 ∷ entry.Helper 0 true ∷ entry.Submit 0 kind.Square (pos 2) ∷
          entry.End ending.Stuck ∷ []);
      asks = drains 1 (ask.HelperNew 0 ∷ ask.Submit 0 (work kind.Square (pos 2)) None
          ∷ drains 1 (ask.Close ∷ []));
    }
