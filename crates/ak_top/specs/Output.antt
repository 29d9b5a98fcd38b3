-- The output of a command. Own.
use Rattle.std.specs.Prelude.{ℕ, List, [], ◌∷◌, ◌++◌, codes}
use Rattle.ak_print.specs.Line.{line_text}
use Rattle.ak_trace.specs.declared.entry.Entry.{Entry}
use Rattle.ak_trace.specs.Text.{trace_text}
use Rattle.ak_history.specs.declared.event.Event.{Event}
use Rattle.ak_history.specs.Text.{history_text}
use Rattle.ak_words.specs.declared.command.Command.{Command}
use Rattle.ak_words.specs.declared.command.Command.TheVariants.{Run, Replay, Check}

-- the line between the trace and the history
abbrev pub pool_line : List ℕ
pool_line = line_text (codes "%pool" ∷ [])

-- the text of the trace, the line `%pool`, and the text of the history
abbrev pub output : List Entry → List Event → List ℕ
output trace history = trace_text trace ++ pool_line ++ history_text history

-- the line of a test that found no fault
abbrev pub valid_line : List ℕ
valid_line = line_text (codes "valid" ∷ [])

-- the output of a command
abbrev pub output_of : Command → List Entry → List Event → List ℕ
output_of (Run config) trace history = output trace history
output_of (Replay config) trace history = output trace history
output_of Check trace history = valid_line
