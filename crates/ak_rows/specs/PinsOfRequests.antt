-- Pins of requests from outside: short scripts, each about one rule, with the runs that another implementation gives and the
-- histories beside them.
use Rattle.std.specs.Prelude.{pos, List, [], ◌∷◌, true, false, Some, None}
use Rattle.ak_labor.specs.declared.ask.Ask.TheVariants as ask
use Rattle.ak_labor.specs.declared.work.Outcome.TheVariants as outcome
use Rattle.ak_labor.specs.declared.work.WorkKind.TheVariants as kind
use Rattle.ak_labor.specs.Calls.{Granted, Done}
use Rattle.ak_script.specs.declared.statement.Operator.TheVariants as operator
use Rattle.ak_program.specs.declared.statement.NumAtom.TheVariants.{Literal, Local}
use Rattle.ak_program.specs.declared.statement.NumStmt.TheVariants as stmt
use Rattle.ak_program.specs.declared.program.NumPrefix.TheVariants.{If}
use Rattle.ak_trace.specs.declared.entry.Entry.TheVariants as entry
use Rattle.ak_trace.specs.declared.entry.Ending.TheVariants as ending
use Rattle.ak_history.specs.declared.event.Event.{Event}
use Rattle.ak_history.specs.declared.event.Event.TheVariants as event
use Rattle.ak_rows.specs.Row.{Row, usual, with_ask, proc, line, line_when, brings_left, empty, empty_left, drains, work}

-- a request may be answered before an earlier one:
-- proc main; end; proc ask v:num; if v ret v; yield y; ret y; end
abbrev pub answers_in_another_order : Row
answers_in_another_order =
    record {
      program = with_ask (
          proc [] ∷
          proc (line_when (If (Local 0)) (stmt.Ret (Local 0)) ∷ line (stmt.Yield 1) ∷ line (stmt.Ret (Local 1)) ∷
          []) ∷
          []) 0 1;
      config = record usual { threads = 1; askers = 2 };
      replies = brings_left [] ((0, pos 1000) ∷ (1, pos 0) ∷ []) 2 ∷ empty_left 2 3 (Done ∷ empty_left 1 2 (Done
          ∷ empty 1 (Done ∷ [])));
      trace = (entry.Enq 0 false ∷ entry.Cycle ∷ entry.Request 0 (pos 1000) 0 ∷ entry.Enq 1 false ∷ entry.Request 1 (pos 0) 1 ∷
          entry.Enq 2 false ∷ entry.Job 0 ∷ entry.Job 1 ∷ entry.Fill 0 (pos 1000) ∷ entry.Enq 3 false ∷
          entry.Job 2 ∷ entry.Join 1 2 ∷ entry.Job 3 ∷ entry.Answer 0 (pos 1000) ∷ entry.Cycle ∷ entry.Fill 1 (pos 0) ∷
          entry.Enq 4 false ∷ entry.Job 4 ∷ entry.Answer 1 (pos 0) ∷ entry.End ending.Idle ∷ []);
      asks = drains 4 (ask.Answer 0 (pos 1000) ∷ drains 2 (ask.Answer 1 (pos 0) ∷ drains 1 (ask.Close ∷ [])));
    }

abbrev pub answers_in_another_order_history : List Event
answers_in_another_order_history = (event.Request 0 1 (pos 1000) ∷ event.Request 1 0 (pos 0) ∷ event.Drain [] (0 ∷ 1 ∷ []) ∷ event.Drain [] [] ∷
    event.Drain [] [] ∷ event.Drain [] [] ∷ event.Answered 0 (pos 1000) ∷ event.AskerEnd 1 ∷ event.Drain [] [] ∷
    event.Drain [] [] ∷ event.Answered 1 (pos 0) ∷ event.AskerEnd 0 ∷ event.Drain [] [] ∷ event.Close ∷
    [])

-- a work outstanding while askers wait:
-- proc main; end; proc ask v:num; work w square v; ret w; end
abbrev pub askers_and_works : Row
askers_and_works =
    record {
      program = with_ask (
          proc [] ∷
          proc (line (stmt.Work 1 kind.Square (Local 0)) ∷ line (stmt.Ret (Local 1)) ∷ []) ∷
          []) 0 1;
      config = record usual { askers = 1 };
      replies = brings_left [] ((0, pos 0) ∷ []) 1 ∷ empty_left 1 1 (Done
          ∷ brings_left ((0, (outcome.Good (pos 0))) ∷ []) [] 1 ∷ Done ∷ brings_left [] ((1, pos 1) ∷ []) 1 ∷ Done
          ∷ brings_left ((1, (outcome.Good (pos 1))) ∷ []) [] 1 ∷ Done ∷ empty 1 (Done ∷ []));
      trace = (entry.Enq 0 false ∷ entry.Cycle ∷ entry.Request 0 (pos 0) 0 ∷ entry.Enq 1 false ∷ entry.Job 0 ∷
          entry.Job 1 ∷ entry.Submit 0 kind.Square (pos 0) ∷ entry.Join 0 1 ∷ entry.Arrive 0 (outcome.Good (pos 0)) ∷
          entry.Fill 0 (pos 0) ∷ entry.Enq 2 false ∷ entry.Job 2 ∷ entry.Answer 0 (pos 0) ∷ entry.Request 1 (pos 1) 2 ∷
          entry.Enq 3 false ∷ entry.Job 3 ∷ entry.Submit 1 kind.Square (pos 1) ∷ entry.Join 2 3 ∷ entry.Arrive 1 (outcome.Good (pos 1)) ∷
          entry.Fill 2 (pos 1) ∷ entry.Enq 4 false ∷ entry.Job 4 ∷ entry.Answer 1 (pos 1) ∷ entry.End ending.Idle ∷
          []);
      asks = drains 2 (ask.Submit 0 (work kind.Square (pos 0)) None
          ∷ drains 1 (ask.Answer 0 (pos 0)
          ∷ drains 1 (ask.Submit 1 (work kind.Square (pos 1)) None
          ∷ drains 1 (ask.Answer 1 (pos 1) ∷ drains 1 (ask.Close ∷ [])))));
    }

abbrev pub askers_and_works_history : List Event
askers_and_works_history = (event.Request 0 0 (pos 0) ∷ event.Drain [] (0 ∷ []) ∷ event.Drain [] [] ∷ event.Submit 0 (work kind.Square (pos 0)) None ∷
    event.Start 0 0 ∷ event.Finish 0 0 (outcome.Good (pos 0)) ∷ event.Drain (0 ∷ []) [] ∷ event.Answered 0 (pos 0) ∷
    event.Request 1 0 (pos 1) ∷ event.Drain [] (1 ∷ []) ∷ event.Submit 1 (work kind.Square (pos 1)) None ∷
    event.Start 0 1 ∷ event.Finish 0 1 (outcome.Good (pos 1)) ∷ event.Drain (1 ∷ []) [] ∷ event.Answered 1 (pos 1) ∷
    event.AskerEnd 0 ∷ event.Drain [] [] ∷ event.Close ∷ [])

-- stuck with an unanswered request:
-- proc main; helper h x; work r square 2; end; proc ask v:num; never n; ret n; end
abbrev pub askers_stuck_unanswered : Row
askers_stuck_unanswered =
    record {
      program = with_ask (
          proc (line (stmt.Helper 0 1) ∷ line (stmt.Work 2 kind.Square (Literal (pos 2))) ∷ []) ∷
          proc (line (stmt.Never 1) ∷ line (stmt.Ret (Local 1)) ∷ []) ∷
          []) 0 1;
      config = record usual { threads = 1; askers = 1 };
      replies = empty_left 1 1 (Granted true ∷ Done ∷ empty_left 1 1 (brings_left [] ((0, pos 0) ∷ []) 1
          ∷ empty_left 1 1 (Done ∷ [])));
      trace = (entry.Enq 0 false ∷ entry.Cycle ∷ entry.Job 0 ∷ entry.Helper 0 true ∷ entry.Submit 0 kind.Square (pos 2) ∷
          entry.Cycle ∷ entry.Request 0 (pos 0) 1 ∷ entry.Enq 1 false ∷ entry.Job 1 ∷ entry.Join 1 2 ∷
          entry.End ending.Stuck ∷ []);
      asks = drains 1 (ask.HelperNew 0 ∷ ask.Submit 0 (work kind.Square (pos 2)) None
          ∷ drains 3 (ask.Close ∷ []));
    }

abbrev pub askers_stuck_unanswered_history : List Event
askers_stuck_unanswered_history = (event.Drain [] [] ∷ event.HelperNew 0 (Some 0) ∷ event.Submit 0 (work kind.Square (pos 2)) None ∷
    event.Drain [] [] ∷ event.Request 0 0 (pos 0) ∷ event.Drain [] (0 ∷ []) ∷ event.Drain [] [] ∷
    event.Close ∷ [])

-- an error in ask is unhandled:
-- proc main; monitor m; detach m; end; proc ask v:num; raise v; end
abbrev pub error_in_ask : Row
error_in_ask =
    record {
      program = with_ask (
          proc (line (stmt.Monitor 0) ∷ line (stmt.Detach 0) ∷ []) ∷
          proc (line (stmt.Raise (Local 0)) ∷ []) ∷
          []) 0 1;
      config = record usual { askers = 1 };
      replies = empty_left 1 1 (brings_left [] ((0, pos 0) ∷ []) 1 ∷ Done ∷ []);
      trace = (entry.Enq 0 false ∷ entry.Cycle ∷ entry.Job 0 ∷ entry.Monitor 1 0 ∷ entry.Detach 1 ∷ entry.Request 0 (pos 0) 0 ∷
          entry.Enq 1 false ∷ entry.Job 1 ∷ entry.Error (pos 0) 0 ∷ entry.Unhandled (pos 0) ∷ entry.End ending.Unhandled ∷
          []);
      asks = drains 2 (ask.Close ∷ []);
    }

abbrev pub error_in_ask_history : List Event
error_in_ask_history = (event.Drain [] [] ∷ event.Request 0 0 (pos 0) ∷ event.Drain [] (0 ∷ []) ∷ event.Close ∷ [])

-- a run ends idle where all askers that are left wait for answers:
-- proc main; end; proc ask v:num; never r; if v ret r; ret 7; end
abbrev pub unanswered_requests_do_not_hold : Row
unanswered_requests_do_not_hold =
    record {
      program = with_ask (
          proc [] ∷
          proc (line (stmt.Never 1) ∷ line_when (If (Local 0)) (stmt.Ret (Local 1)) ∷ line (stmt.Ret (Literal (pos 7))) ∷
          []) ∷
          []) 0 1;
      config = record usual { askers = 2 };
      replies = brings_left [] ((0, pos 1000) ∷ (1, pos 0) ∷ []) 2 ∷ empty_left 2 3 (Done
          ∷ empty_left 2 1 (empty_left 1 1 (Done ∷ [])));
      trace = (entry.Enq 0 false ∷ entry.Cycle ∷ entry.Request 0 (pos 1000) 0 ∷ entry.Enq 1 false ∷ entry.Request 1 (pos 0) 1 ∷
          entry.Enq 2 false ∷ entry.Job 0 ∷ entry.Job 1 ∷ entry.Join 0 2 ∷ entry.Job 2 ∷ entry.Fill 1 (pos 7) ∷
          entry.Enq 3 false ∷ entry.Job 3 ∷ entry.Answer 1 (pos 7) ∷ entry.Cycle ∷ entry.End ending.Idle ∷
          []);
      asks = drains 4 (ask.Answer 1 (pos 7) ∷ drains 2 (ask.Close ∷ []));
    }

abbrev pub unanswered_requests_do_not_hold_history : List Event
unanswered_requests_do_not_hold_history = (event.Request 0 1 (pos 1000) ∷ event.Request 1 0 (pos 0) ∷ event.Drain [] (0 ∷ 1 ∷ []) ∷ event.Drain [] [] ∷
    event.Drain [] [] ∷ event.Drain [] [] ∷ event.Answered 1 (pos 7) ∷ event.Drain [] [] ∷ event.AskerEnd 0 ∷
    event.Drain [] [] ∷ event.Close ∷ [])

-- in one drain the works arrive before the requests:
-- proc main; work a square 2; upon a O; end; proc ask v:num; ret v; end; proc O v:num; print v; end
abbrev pub works_before_requests : Row
works_before_requests =
    record {
      program = with_ask (
          proc (line (stmt.Work 0 kind.Square (Literal (pos 2))) ∷ line (stmt.Upon 0 2 []) ∷ []) ∷
          proc (line (stmt.Ret (Local 0)) ∷ []) ∷
          proc (line (stmt.Print (Local 0)) ∷ []) ∷
          []) 0 1;
      config = record usual { threads = 1; askers = 1 };
      replies = empty_left 1 1 (Done
          ∷ empty_left 1 1 (brings_left ((0, (outcome.Good (pos 4))) ∷ []) ((0, pos 0) ∷ []) 1
          ∷ empty_left 1 2 (Done ∷ empty 1 (Done ∷ []))));
      trace = (entry.Enq 0 false ∷ entry.Cycle ∷ entry.Job 0 ∷ entry.Submit 0 kind.Square (pos 2) ∷ entry.Cycle ∷
          entry.Arrive 0 (outcome.Good (pos 4)) ∷ entry.Fill 0 (pos 4) ∷ entry.Enq 1 false ∷ entry.Request 0 (pos 0) 1 ∷
          entry.Enq 2 false ∷ entry.Job 1 ∷ entry.Print (pos 4) ∷ entry.Job 2 ∷ entry.Fill 1 (pos 0) ∷
          entry.Enq 3 false ∷ entry.Job 3 ∷ entry.Answer 0 (pos 0) ∷ entry.End ending.Idle ∷ []);
      asks = drains 1 (ask.Submit 0 (work kind.Square (pos 2)) None
          ∷ drains 4 (ask.Answer 0 (pos 0) ∷ drains 1 (ask.Close ∷ [])));
    }

abbrev pub works_before_requests_history : List Event
works_before_requests_history = (event.Drain [] [] ∷ event.Submit 0 (work kind.Square (pos 2)) None ∷ event.Drain [] [] ∷
    event.Request 0 0 (pos 0) ∷ event.Start 0 0 ∷ event.Finish 0 0 (outcome.Good (pos 4)) ∷ event.Drain (0 ∷ []) (0 ∷ []) ∷
    event.Drain [] [] ∷ event.Drain [] [] ∷ event.Answered 0 (pos 0) ∷ event.AskerEnd 0 ∷ event.Drain [] [] ∷
    event.Close ∷ [])

-- an asker may end before the first drain:
-- proc main; end; proc ask v:num; set w v + 1; ret w; end
abbrev pub asker_ends_first : Row
asker_ends_first =
    record {
      program = with_ask (
          proc [] ∷
          proc (line (stmt.Set 1 (Local 0) operator.Add (Literal (pos 1))) ∷ line (stmt.Ret (Local 1)) ∷ []) ∷
          []) 0 1;
      config = record usual { threads = 1; askers = 1 };
      replies = empty 2 (Done ∷ []);
      trace = (entry.Enq 0 false ∷ entry.Cycle ∷ entry.Job 0 ∷ entry.End ending.Idle ∷ []);
      asks = drains 2 (ask.Close ∷ []);
    }

abbrev pub asker_ends_first_history : List Event
asker_ends_first_history = (event.AskerEnd 0 ∷ event.Drain [] [] ∷ event.Drain [] [] ∷ event.Close ∷ [])

-- in one drain the works arrive before the requests:
-- proc main; work a square 2; upon a O; end; proc ask v:num; ret v; end; proc O v:num; print v; end
abbrev pub works_before_requests_again : Row
works_before_requests_again =
    record {
      program = with_ask (
          proc (line (stmt.Work 0 kind.Square (Literal (pos 2))) ∷ line (stmt.Upon 0 2 []) ∷ []) ∷
          proc (line (stmt.Ret (Local 0)) ∷ []) ∷
          proc (line (stmt.Print (Local 0)) ∷ []) ∷
          []) 0 1;
      config = record usual { threads = 1; askers = 1 };
      replies = brings_left [] ((0, pos 0) ∷ []) 1 ∷ Done ∷ empty_left 1 2 (Done
          ∷ empty_left 1 1 (brings_left ((0, (outcome.Good (pos 4))) ∷ []) [] 0 ∷ empty 1 (Done ∷ [])));
      trace = (entry.Enq 0 false ∷ entry.Cycle ∷ entry.Request 0 (pos 0) 0 ∷ entry.Enq 1 false ∷ entry.Job 0 ∷
          entry.Submit 0 kind.Square (pos 2) ∷ entry.Job 1 ∷ entry.Fill 0 (pos 0) ∷ entry.Enq 2 false ∷
          entry.Job 2 ∷ entry.Answer 0 (pos 0) ∷ entry.Cycle ∷ entry.Arrive 0 (outcome.Good (pos 4)) ∷
          entry.Fill 1 (pos 4) ∷ entry.Enq 3 false ∷ entry.Job 3 ∷ entry.Print (pos 4) ∷ entry.End ending.Idle ∷
          []);
      asks = drains 1 (ask.Submit 0 (work kind.Square (pos 2)) None
          ∷ drains 2 (ask.Answer 0 (pos 0) ∷ drains 3 (ask.Close ∷ [])));
    }

abbrev pub works_before_requests_again_history : List Event
works_before_requests_again_history = (event.Request 0 0 (pos 0) ∷ event.Drain [] (0 ∷ []) ∷ event.Submit 0 (work kind.Square (pos 2)) None ∷
    event.Drain [] [] ∷ event.Start 0 0 ∷ event.Drain [] [] ∷ event.Answered 0 (pos 0) ∷ event.Drain [] [] ∷
    event.AskerEnd 0 ∷ event.Finish 0 0 (outcome.Good (pos 4)) ∷ event.Drain (0 ∷ []) [] ∷ event.Drain [] [] ∷
    event.Close ∷ [])
