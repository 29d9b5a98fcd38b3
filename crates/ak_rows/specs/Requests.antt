-- Requests from outside: worked scripts with their histories.
use Rattle.std.specs.Prelude.{ℕ, pos, List, [], ◌∷◌, ◌++◌, false}
use Rattle.ak_labor.specs.declared.ask.Ask.TheVariants as ask
use Rattle.ak_labor.specs.Calls.{Reply, Done}
use Rattle.ak_script.specs.declared.statement.Operator.TheVariants as operator
use Rattle.ak_program.specs.declared.statement.NumAtom.TheVariants.{Literal, Local}
use Rattle.ak_program.specs.declared.statement.NumStmt.TheVariants as stmt
use Rattle.ak_program.specs.Programs.{NumProgram}
use Rattle.ak_trace.specs.declared.entry.Entry.TheVariants as entry
use Rattle.ak_trace.specs.declared.entry.Ending.TheVariants as ending
use Rattle.ak_history.specs.declared.event.Event.{Event}
use Rattle.ak_history.specs.declared.event.Event.TheVariants as event
use Rattle.ak_labor.specs.declared.config.Config.{Config}
use Rattle.ak_rows.specs.Row.{Row, usual, proc, line, with_ask, brings_left, empty, empty_left, drains}

-- the settings with one asker
abbrev pub one_asker : Config
one_asker = record usual { askers = 1 }

-- A script that answers with the next number.
-- proc main; end; proc ask v:num; set w v + 1; ret w; end
abbrev pub next_number_program : NumProgram
next_number_program =
    with_ask (
    proc [] ∷
    proc (line (stmt.Set 1 (Local 0) operator.Add (Literal (pos 1))) ∷ line (stmt.Ret (Local 1)) ∷ []) ∷
    []) 0 1

-- a drain brings a request of this number with the number 5, and the one asker is left
abbrev pub brings_five : ℕ → Reply
brings_five q = brings_left [] ((q, pos 5) ∷ []) 1

-- A request is answered, and then its asker ends.
abbrev pub request_answered : Row
request_answered =
    record {
      program = next_number_program;
      config = one_asker;
      replies = empty_left 1 2 (brings_five 0 ∷ empty_left 1 1 (Done ∷ empty_left 1 1 (empty 1 (Done ∷ []))));
      trace =
          entry.Enq 0 false ∷ entry.Cycle ∷ entry.Job 0 ∷ entry.Cycle ∷ entry.Request 0 (pos 5) 0 ∷ entry.Enq 1 false ∷
          entry.Job 1 ∷ entry.Fill 0 (pos 6) ∷ entry.Enq 2 false ∷ entry.Job 2 ∷ entry.Answer 0 (pos 6) ∷ entry.Cycle ∷
          entry.End ending.Idle ∷ [];
      asks = drains 4 (ask.Answer 0 (pos 6) ∷ drains 2 (ask.Close ∷ []));
    }

-- what stands in its history before the answer
abbrev pub before_the_answer : List Event
before_the_answer =
    event.Drain [] [] ∷ event.Drain [] [] ∷ event.Request 0 0 (pos 5) ∷ event.Drain [] (0 ∷ []) ∷ event.Drain [] [] ∷ []

abbrev pub request_answered_history : List Event
request_answered_history =
    before_the_answer
    ++ event.Answered 0 (pos 6) ∷ event.Drain [] [] ∷ event.AskerEnd 0 ∷ event.Drain [] [] ∷ event.Close ∷ []

-- A run ends idle though a request waits for its answer.
-- proc main; end; proc ask v:num; never r; ret r; end
abbrev pub request_never_answered : Row
request_never_answered =
    record {
      program =
          with_ask (
          proc [] ∷
          proc (line (stmt.Never 1) ∷ line (stmt.Ret (Local 1)) ∷ []) ∷
          []) 0 1;
      config = one_asker;
      replies = empty_left 1 2 (brings_left [] ((0, pos 0) ∷ []) 1 ∷ empty_left 1 1 (Done ∷ []));
      trace =
          entry.Enq 0 false ∷ entry.Cycle ∷ entry.Job 0 ∷ entry.Cycle ∷ entry.Request 0 (pos 0) 0 ∷ entry.Enq 1 false ∷
          entry.Job 1 ∷ entry.Join 0 1 ∷ entry.End ending.Idle ∷ [];
      asks = drains 4 (ask.Close ∷ []);
    }

abbrev pub request_never_answered_history : List Event
request_never_answered_history =
    event.Drain [] [] ∷ event.Drain [] [] ∷ event.Request 0 0 (pos 0) ∷ event.Drain [] (0 ∷ []) ∷ event.Drain [] [] ∷
    event.Close ∷ []
