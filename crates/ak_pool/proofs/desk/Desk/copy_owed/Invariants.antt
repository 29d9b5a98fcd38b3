use Rattle.std.proofs.Common.{◌≡◌, ◌++◌, take}
use Rattle.ak_pool.proofs.desk.Desk.copy_owed.Given as goal

abbrev pub invariant-loop-pair : goal.invariant-loop-pair
invariant-loop-pair l =
    l.into ≡ record l.initial.into { works = l.initial.into.works ++ take l.pair-index l.pair-items }
