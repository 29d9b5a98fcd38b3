-- Works and helpers.
use Rattle.std.specs.Prelude.{pos, negsuc, List, [], ◌∷◌, true, false}
use Rattle.ak_labor.specs.declared.ask.Ask.TheVariants as ask
use Rattle.ak_labor.specs.declared.work.Outcome.TheVariants as outcome
use Rattle.ak_labor.specs.declared.work.WorkKind.TheVariants as kind
use Rattle.ak_labor.specs.Calls.{Granted, Done}
use Rattle.ak_program.specs.declared.statement.NumAtom.TheVariants.{Literal, Local}
use Rattle.ak_program.specs.declared.statement.NumStmt.TheVariants as stmt
use Rattle.ak_program.specs.declared.program.NumProc.{NumProc}
use Rattle.ak_trace.specs.declared.entry.Entry.{Entry}
use Rattle.ak_trace.specs.declared.entry.Entry.TheVariants as entry
use Rattle.ak_trace.specs.declared.entry.Ending.TheVariants as ending
use Rattle.ak_rows.specs.Row.{Row, brings, without_ask, proc, line, usual, empty, drains, general, for_helper}

-- A helper is granted and one refused; works of the helper and general ones arrive.
-- proc main; helper h x; helper k y; print x; print y; work r square 3; hwork s h square 4; hdone h; upon r O;
-- monitor m; detach m; within m W h; end; proc W h:helper; hwork q h square 5; end; proc O v:num; print v; end
abbrev pub helpers_and_works_program : List NumProc
helpers_and_works_program =
    proc
    (line (stmt.Helper 0 1) ∷
    line (stmt.Helper 2 3) ∷
    line (stmt.Print (Local 1)) ∷
    line (stmt.Print (Local 3)) ∷
    line (stmt.Work 4 kind.Square (Literal (pos 3))) ∷
    line (stmt.HelperWork 5 0 kind.Square (Literal (pos 4))) ∷
    line (stmt.HelperDone 0) ∷
    line (stmt.Upon 4 2 []) ∷
    line (stmt.Monitor 6) ∷
    line (stmt.Detach 6) ∷
    line (stmt.Within 6 1 (Local 0 ∷ [])) ∷
    []) ∷
    proc (line (stmt.HelperWork 1 0 kind.Square (Literal (pos 5))) ∷ []) ∷
    proc (line (stmt.Print (Local 0)) ∷ []) ∷
    []

abbrev pub helpers_and_works_trace : List Entry
helpers_and_works_trace =
    entry.Enq 0 false ∷ entry.Cycle ∷ entry.Job 0 ∷ entry.Helper 0 true ∷ entry.Helper 1 false ∷
    entry.Print (pos 1) ∷ entry.Print (pos 0) ∷ entry.Submit 0 kind.Square (pos 3) ∷
    entry.Submit 1 kind.Square (pos 4) ∷ entry.Monitor 1 0 ∷ entry.Detach 1 ∷ entry.Enq 1 false ∷ entry.Job 1 ∷
    entry.Error (negsuc 6) 1 ∷ entry.Caught 1 ∷ entry.Cycle ∷ entry.Arrive 1 (outcome.Good (pos 16)) ∷
    entry.Fill 1 (pos 16) ∷ entry.Arrive 0 (outcome.Good (pos 9)) ∷ entry.Fill 0 (pos 9) ∷ entry.Enq 2 false ∷
    entry.Job 2 ∷ entry.Print (pos 9) ∷ entry.End ending.Idle ∷ []

abbrev pub helpers_and_works : Row
helpers_and_works =
    record {
      program = without_ask helpers_and_works_program 0;
      config = record usual { threads = 1 };
      replies =
          empty 1 (Granted true ∷ Granted false ∷ Done ∷ Done ∷ Done ∷ (empty 2 (brings ((1, outcome.Good (pos 16)) ∷
          (0, outcome.Good (pos 9)) ∷ []) ∷ (empty 1 (Done ∷ [])))));
      trace = helpers_and_works_trace;
      asks =
          drains 1 (ask.HelperNew 0 ∷ ask.HelperNew 1 ∷ general 0 kind.Square (pos 3) ∷
          for_helper 0 1 kind.Square (pos 4) ∷ ask.HelperEnd 0 ∷ (drains 2 (ask.Drain ∷ (drains 1 (ask.Close ∷ [])))));
    }

-- A general work that no thread can do, since the only one is reserved.
-- proc main; helper h x; work r square 2; end
abbrev pub stuck_with_a_general_work_program : List NumProc
stuck_with_a_general_work_program =
    proc (line (stmt.Helper 0 1) ∷ line (stmt.Work 2 kind.Square (Literal (pos 2))) ∷ []) ∷
    []

abbrev pub stuck_with_a_general_work_trace : List Entry
stuck_with_a_general_work_trace =
    entry.Enq 0 false ∷ entry.Cycle ∷ entry.Job 0 ∷ entry.Helper 0 true ∷ entry.Submit 0 kind.Square (pos 2) ∷
    entry.End ending.Stuck ∷ []

abbrev pub stuck_with_a_general_work : Row
stuck_with_a_general_work =
    record {
      program = without_ask stuck_with_a_general_work_program 0;
      config = record usual { threads = 1 };
      replies =
          empty 1 (Granted true ∷ Done ∷ (empty 1 (Done ∷ [])));
      trace = stuck_with_a_general_work_trace;
      asks =
          drains 1 (ask.HelperNew 0 ∷ general 0 kind.Square (pos 2) ∷ (drains 1 (ask.Close ∷ [])));
    }

-- A work arrives after a wait and fills its deferred.
-- proc main; work r square 3; upon r O; end; proc O v:num; print v; end
abbrev pub work_arrives_program : List NumProc
work_arrives_program =
    proc (line (stmt.Work 0 kind.Square (Literal (pos 3))) ∷ line (stmt.Upon 0 1 []) ∷ []) ∷
    proc (line (stmt.Print (Local 0)) ∷ []) ∷
    []

abbrev pub work_arrives_trace : List Entry
work_arrives_trace =
    entry.Enq 0 false ∷ entry.Cycle ∷ entry.Job 0 ∷ entry.Submit 0 kind.Square (pos 3) ∷ entry.Cycle ∷
    entry.Arrive 0 (outcome.Good (pos 9)) ∷ entry.Fill 0 (pos 9) ∷ entry.Enq 1 false ∷ entry.Job 1 ∷
    entry.Print (pos 9) ∷ entry.End ending.Idle ∷ []

abbrev pub work_arrives : Row
work_arrives =
    record {
      program = without_ask work_arrives_program 0;
      config = usual;
      replies =
          empty 1 (Done ∷ (empty 1 (brings ((0, outcome.Good (pos 9)) ∷ []) ∷ (empty 1 (Done ∷ [])))));
      trace = work_arrives_trace;
      asks =
          drains 1 (general 0 kind.Square (pos 3) ∷ (drains 1 (ask.Drain ∷ (drains 1 (ask.Close ∷ [])))));
    }

-- Of a drain whose first work ends the run the second does not arrive.
-- proc main; work a fail 3; work b square 2; end
abbrev pub works_behind_an_unhandled_error_program : List NumProc
works_behind_an_unhandled_error_program =
    proc (line (stmt.Work 0 kind.Fail (Literal (pos 3))) ∷ line (stmt.Work 1 kind.Square (Literal (pos 2))) ∷ []) ∷
    []

abbrev pub works_behind_an_unhandled_error_trace : List Entry
works_behind_an_unhandled_error_trace =
    entry.Enq 0 false ∷ entry.Cycle ∷ entry.Job 0 ∷ entry.Submit 0 kind.Fail (pos 3) ∷
    entry.Submit 1 kind.Square (pos 2) ∷ entry.Cycle ∷ entry.Arrive 0 (outcome.Bad (pos 3)) ∷
    entry.Error (pos 3) 0 ∷ entry.Unhandled (pos 3) ∷ entry.End ending.Unhandled ∷ []

abbrev pub works_behind_an_unhandled_error : Row
works_behind_an_unhandled_error =
    record {
      program = without_ask works_behind_an_unhandled_error_program 0;
      config = usual;
      replies =
          empty 1 (Done ∷ Done ∷ (empty 1 (brings ((0, outcome.Bad (pos 3)) ∷ (1, outcome.Good (pos 4)) ∷ []) ∷ Done ∷
          [])));
      trace = works_behind_an_unhandled_error_trace;
      asks =
          drains 1 (general 0 kind.Fail (pos 3) ∷ general 1 kind.Square (pos 2) ∷ (drains 1 (ask.Drain ∷ ask.Close ∷
          [])));
    }
