-- Pins of runs beside their histories: short scripts, each about one rule, with the runs that another implementation gives.
use Rattle.std.specs.Prelude.{pos, negsuc, List, [], ◌∷◌, true, false, Some, None}
use Rattle.ak_labor.specs.declared.ask.Ask.TheVariants as ask
use Rattle.ak_labor.specs.declared.work.Outcome.TheVariants as outcome
use Rattle.ak_labor.specs.declared.work.WorkKind.TheVariants as kind
use Rattle.ak_labor.specs.Calls.{Granted, Done}
use Rattle.ak_program.specs.declared.statement.NumAtom.TheVariants.{Literal, Local}
use Rattle.ak_program.specs.declared.statement.NumStmt.TheVariants as stmt
use Rattle.ak_trace.specs.declared.entry.Entry.TheVariants as entry
use Rattle.ak_trace.specs.declared.entry.Ending.TheVariants as ending
use Rattle.ak_history.specs.declared.event.Event.{Event}
use Rattle.ak_history.specs.declared.event.Event.TheVariants as event
use Rattle.ak_rows.specs.Row.{Row, usual, brings, without_ask, proc, line, empty, drains, work}

-- works of an ended helper are done all the same:
-- proc main; helper h x; hwork a h square 2; hwork b h square 3; hdone h; work c square 4; helper k y; print y; upon
-- a O; upon b O; upon c O; end; proc O v:num; print v; end
abbrev pub helper_ended_with_works_left : Row
helper_ended_with_works_left =
    record {
      program = without_ask (
          proc (line (stmt.Helper 0 1) ∷ line (stmt.HelperWork 2 0 kind.Square (Literal (pos 2))) ∷ line (stmt.HelperWork 3 0 kind.Square (Literal (pos 3))) ∷
          line (stmt.HelperDone 0) ∷ line (stmt.Work 4 kind.Square (Literal (pos 4))) ∷ line (stmt.Helper 5 6) ∷
          line (stmt.Print (Local 6)) ∷ line (stmt.Upon 2 1 []) ∷ line (stmt.Upon 3 1 []) ∷ line (stmt.Upon 4 1 []) ∷
          []) ∷
          proc (line (stmt.Print (Local 0)) ∷ []) ∷
          []) 0;
      config = record usual { threads = 2 };
      replies = empty 1 (Granted true ∷ Done ∷ Done ∷ Done ∷ Done ∷ Granted false
          ∷ brings ((2, (outcome.Good (pos 16))) ∷ (0, (outcome.Good (pos 4))) ∷ [])
          ∷ brings ((1, (outcome.Good (pos 9))) ∷ []) ∷ empty 2 (Done ∷ []));
      trace = (entry.Enq 0 false ∷ entry.Cycle ∷ entry.Job 0 ∷ entry.Helper 0 true ∷ entry.Submit 0 kind.Square (pos 2) ∷
          entry.Submit 1 kind.Square (pos 3) ∷ entry.Submit 2 kind.Square (pos 4) ∷ entry.Helper 1 false ∷
          entry.Print (pos 0) ∷ entry.Arrive 2 (outcome.Good (pos 16)) ∷ entry.Fill 2 (pos 16) ∷ entry.Enq 1 false ∷
          entry.Arrive 0 (outcome.Good (pos 4)) ∷ entry.Fill 0 (pos 4) ∷ entry.Enq 2 false ∷ entry.Job 1 ∷
          entry.Print (pos 16) ∷ entry.Arrive 1 (outcome.Good (pos 9)) ∷ entry.Fill 1 (pos 9) ∷ entry.Enq 3 false ∷
          entry.Job 2 ∷ entry.Print (pos 4) ∷ entry.Job 3 ∷ entry.Print (pos 9) ∷ entry.End ending.Idle ∷
          []);
      asks = drains 1 (ask.HelperNew 0 ∷ ask.Submit 0 (work kind.Square (pos 2)) (Some 0)
          ∷ ask.Submit 1 (work kind.Square (pos 3)) (Some 0) ∷ ask.HelperEnd 0
          ∷ ask.Submit 2 (work kind.Square (pos 4)) None ∷ ask.HelperNew 1
          ∷ drains 4 (ask.Close ∷ []));
    }

abbrev pub helper_ended_with_works_left_history : List Event
helper_ended_with_works_left_history = (event.Drain [] [] ∷ event.HelperNew 0 (Some 0) ∷ event.Submit 0 (work kind.Square (pos 2)) (Some 0) ∷
    event.Submit 1 (work kind.Square (pos 3)) (Some 0) ∷ event.HelperEnd 0 ∷
    event.Submit 2 (work kind.Square (pos 4)) None ∷ event.HelperNew 1 None ∷
    event.Start 1 2 ∷ event.Start 0 0 ∷ event.Finish 1 2 (outcome.Good (pos 16)) ∷ event.Finish 0 0 (outcome.Good (pos 4)) ∷
    event.Drain (2 ∷ 0 ∷ []) [] ∷ event.Start 0 1 ∷ event.Finish 0 1 (outcome.Good (pos 9)) ∷ event.Drain (1 ∷ []) [] ∷
    event.Drain [] [] ∷ event.Drain [] [] ∷ event.Close ∷ [])

-- a helper is granted and one refused; works of the helper and general ones arrive:
-- proc main; helper h x; helper k y; print x; print y; work r square 3; hwork s h square 4; hdone h; upon r O;
-- monitor m; detach m; within m W h; end; proc W h:helper; hwork q h square 5; end; proc O v:num; print v; end
abbrev pub one_helper_refused : Row
one_helper_refused =
    record {
      program = without_ask (
          proc (line (stmt.Helper 0 1) ∷ line (stmt.Helper 2 3) ∷ line (stmt.Print (Local 1)) ∷ line (stmt.Print (Local 3)) ∷
          line (stmt.Work 4 kind.Square (Literal (pos 3))) ∷ line (stmt.HelperWork 5 0 kind.Square (Literal (pos 4))) ∷
          line (stmt.HelperDone 0) ∷ line (stmt.Upon 4 2 []) ∷ line (stmt.Monitor 6) ∷ line (stmt.Detach 6) ∷
          line (stmt.Within 6 1 ((Local 0) ∷ [])) ∷ []) ∷
          proc (line (stmt.HelperWork 1 0 kind.Square (Literal (pos 5))) ∷ []) ∷
          proc (line (stmt.Print (Local 0)) ∷ []) ∷
          []) 0;
      config = record usual { threads = 1 };
      replies = empty 1 (Granted true ∷ Granted false ∷ Done ∷ Done ∷ Done
          ∷ empty 2 (brings ((1, (outcome.Good (pos 16))) ∷ (0, (outcome.Good (pos 9))) ∷ [])
          ∷ empty 1 (Done ∷ [])));
      trace = (entry.Enq 0 false ∷ entry.Cycle ∷ entry.Job 0 ∷ entry.Helper 0 true ∷ entry.Helper 1 false ∷
          entry.Print (pos 1) ∷ entry.Print (pos 0) ∷ entry.Submit 0 kind.Square (pos 3) ∷ entry.Submit 1 kind.Square (pos 4) ∷
          entry.Monitor 1 0 ∷ entry.Detach 1 ∷ entry.Enq 1 false ∷ entry.Job 1 ∷ entry.Error (negsuc 6) 1 ∷
          entry.Caught 1 ∷ entry.Cycle ∷ entry.Arrive 1 (outcome.Good (pos 16)) ∷ entry.Fill 1 (pos 16) ∷
          entry.Arrive 0 (outcome.Good (pos 9)) ∷ entry.Fill 0 (pos 9) ∷ entry.Enq 2 false ∷ entry.Job 2 ∷
          entry.Print (pos 9) ∷ entry.End ending.Idle ∷ []);
      asks = drains 1 (ask.HelperNew 0 ∷ ask.HelperNew 1
          ∷ ask.Submit 0 (work kind.Square (pos 3)) None
          ∷ ask.Submit 1 (work kind.Square (pos 4)) (Some 0) ∷ ask.HelperEnd 0
          ∷ drains 4 (ask.Close ∷ []));
    }

abbrev pub one_helper_refused_history : List Event
one_helper_refused_history = (event.Drain [] [] ∷ event.HelperNew 0 (Some 0) ∷ event.HelperNew 1 None ∷ event.Submit 0 (work kind.Square (pos 3)) None ∷
    event.Submit 1 (work kind.Square (pos 4)) (Some 0) ∷ event.HelperEnd 0 ∷
    event.Drain [] [] ∷ event.Drain [] [] ∷ event.Start 0 1 ∷ event.Finish 0 1 (outcome.Good (pos 16)) ∷
    event.Start 0 0 ∷ event.Finish 0 0 (outcome.Good (pos 9)) ∷ event.Drain (1 ∷ 0 ∷ []) [] ∷ event.Drain [] [] ∷
    event.Close ∷ [])

-- a work draws one number for its result, and helpers draw none:
-- proc main; helper h x; helper k y; work a square 1; hwork b h square 2; ivar z; fill z 1; stop; end
abbrev pub works_draw_one_number : Row
works_draw_one_number =
    record {
      program = without_ask (
          proc (line (stmt.Helper 0 1) ∷ line (stmt.Helper 2 3) ∷ line (stmt.Work 4 kind.Square (Literal (pos 1))) ∷
          line (stmt.HelperWork 5 0 kind.Square (Literal (pos 2))) ∷ line (stmt.Ivar 6) ∷ line (stmt.Fill 6 (Literal (pos 1))) ∷
          line (stmt.Stop) ∷ []) ∷
          []) 0;
      config = record usual { threads = 1 };
      replies = empty 1 (Granted true ∷ Granted false ∷ Done ∷ Done ∷ Done ∷ []);
      trace = (entry.Enq 0 false ∷ entry.Cycle ∷ entry.Job 0 ∷ entry.Helper 0 true ∷ entry.Helper 1 false ∷
          entry.Submit 0 kind.Square (pos 1) ∷ entry.Submit 1 kind.Square (pos 2) ∷ entry.Fill 2 (pos 1) ∷
          entry.End ending.Stopped ∷ []);
      asks = drains 1 (ask.HelperNew 0 ∷ ask.HelperNew 1
          ∷ ask.Submit 0 (work kind.Square (pos 1)) None
          ∷ ask.Submit 1 (work kind.Square (pos 2)) (Some 0) ∷ ask.Close ∷ []);
    }

abbrev pub works_draw_one_number_history : List Event
works_draw_one_number_history = (event.Drain [] [] ∷ event.HelperNew 0 (Some 0) ∷ event.HelperNew 1 None ∷ event.Submit 0 (work kind.Square (pos 1)) None ∷
    event.Submit 1 (work kind.Square (pos 2)) (Some 0) ∷ event.Close ∷ [])
