use Rattle.std.proofs.Common.{◌≡◌, ◌+◌, ◌≤◌, drop}
use Rattle.ak_let.specs.Compile.{awaits}
use Rattle.ak_let_compile.proofs.entries.count_awaits.Given as goal

abbrev pub invariant-loop-line : goal.invariant-loop-line
invariant-loop-line l = record { few : l.count ≤ l.line-index; rest : l.count + awaits (drop l.line-index l.lines) ≡ awaits l.lines }
