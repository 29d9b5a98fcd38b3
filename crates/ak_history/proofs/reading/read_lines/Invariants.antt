use Rattle.std.proofs.Common.{◌+◌, length}
use Rattle.ak_text.specs.Lines.{numbered, lines_of}
use Rattle.ak_history.specs.Taking.{walked, nothing_read}
use Rattle.ak_history.proofs.Going.{IsOn}
use Rattle.ak_history.proofs.reading.read_lines.Given as goal

abbrev pub invariant-loop-line : goal.invariant-loop-line
invariant-loop-line l = IsOn l.line-iterator l.number l.recorded (walked nothing_read (numbered l.first (lines_of l.bytes))) (l.first + length l.bytes)
