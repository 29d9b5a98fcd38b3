use Rattle.std.proofs.Common.{◌≡◌, take, map}
use Rattle.ak_pool.proofs.check.are_requests.Given as goal

abbrev pub invariant-loop-k : goal.invariant-loop-k
invariant-loop-k l = take l.k l.ids ≡ take l.k (map (λ r. r.no) l.made)
