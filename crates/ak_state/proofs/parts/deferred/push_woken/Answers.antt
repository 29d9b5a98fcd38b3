use Rattle.std.proofs.Common.{rules}
use Rattle.ak_state.proofs.parts.deferred.push_woken.Goals as goal

pub returns : goal.returns
returns c = λ s. rw (c.in_ok-push_job.ensures s) (search rules)
