use Rattle.std.proofs.Common.{◌≡◌, ◌++◌, take, map}
use Rattle.ak_pool.specs.Askers.{pair_of}
use Rattle.ak_pool.proofs.requests.Requests.copy_unfetched.Given as goal

abbrev pub invariant-loop-made : goal.invariant-loop-made
invariant-loop-made l =
    l.into ≡ record l.initial.into { requests = l.initial.into.requests ++ map pair_of (take l.made-index l.made-items) }
