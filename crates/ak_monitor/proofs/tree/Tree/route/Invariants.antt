use Rattle.std.proofs.Common.{◌≡◌, ◌+◌, ◌<◌, ◌≤◌, length}
use Rattle.ak_monitor.specs.Monitors as plain
use Rattle.ak_monitor.proofs.tree.Tree.route.Given as goal

-- the error goes on from here as from where it came, and passed so many monitors, this one counted
abbrev pub invariant-loop-at : goal.invariant-loop-at
invariant-loop-at g l = record {
  exists : l.at < length l.self;
  small : l.passed + l.at ≤ l.fn.m + 1;
  caught : (plain.route l.self l.fn.m).caught ≡ (plain.route l.self l.at).caught;
  passed : (plain.route l.self l.fn.m).passed + 1 ≡ (plain.route l.self l.at).passed + l.passed;
}

abbrev pub decreases-loop-at : goal.decreases-loop-at
decreases-loop-at g l = l.at
