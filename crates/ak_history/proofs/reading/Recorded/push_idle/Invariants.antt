use Rattle.std.proofs.Common.{◌≡◌}
use Rattle.ak_history.specs.declared.line.HistoryLine.TheVariants.{Idle}
use Rattle.ak_history.specs.Taking.{with_line}
use Rattle.ak_history.proofs.reading.Recorded.push_idle.Given as goal

-- so many drains are put last
abbrev pub invariant-loop : goal.invariant-loop
invariant-loop l = l.self ≡ with_line l.fn.self l.number (Idle l.counter)
