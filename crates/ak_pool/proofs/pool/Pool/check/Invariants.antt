use Rattle.std.proofs.Common.{take}
use Rattle.ak_pool.proofs.Checks.{AreJudged}
use Rattle.ak_pool.proofs.pool.Pool.check.Given as goal

abbrev pub invariant-loop-place : goal.invariant-loop-place
invariant-loop-place l = AreJudged l.threads l.askers (take l.place l.event-items) l.desk l.requests
