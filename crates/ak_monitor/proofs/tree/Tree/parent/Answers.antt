use Rattle.ak_monitor.proofs.Paths.{path_root}
use Rattle.std.proofs.Common.{rules}
use Rattle.ak_monitor.proofs.tree.Tree.parent.Goals as goal

pub returns-then-number-eq0-clause-path : goal.returns-then-number-eq0-clause-path
returns-then-number-eq0-clause-path g c = path_root _ _ c.requires (search rules)
