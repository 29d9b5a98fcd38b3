use Rattle.std.proofs.Common.{◌≡◌}
use Rattle.ak_text.specs.Lines.{text_lines}
use Rattle.ak_syntax.proofs.Scanned.{AreNumbered}
use Rattle.ak_let_syntax.specs.Lines.{no_lines, taking}
use Rattle.ak_syntax.specs.Takings.{scanned}
use Rattle.ak_let_syntax.proofs.parse.parse_lines.Given as goal

-- what the lines that are left give behind those that were read is what all lines give
abbrev pub invariant-loop-line : goal.invariant-loop-line
invariant-loop-line l = record {
  same : scanned taking l.reader l.last l.line-iterator ≡ scanned taking no_lines 0 (text_lines l.bytes);
  numbered : AreNumbered l.last l.line-iterator l.bytes;
}
