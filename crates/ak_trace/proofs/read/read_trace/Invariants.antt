use Rattle.ak_text.specs.Lines.{text_lines}
use Rattle.ak_row.proofs.Fitting.{AreRead}
use Rattle.ak_trace.specs.Reading.{IsEntry}
use Rattle.ak_trace.proofs.read.read_trace.Given as goal

-- the entries so far are those of the lines before
abbrev pub invariant-loop-line : goal.invariant-loop-line
invariant-loop-line l = AreRead IsEntry l.entries l.line-iterator (text_lines l.bytes)
