use Rattle.ak_laws.proofs.Laws.{jobs_of_run}
use Rattle.ak_laws.proofs.law.jobs_in_order.Goals as goal

pub returns : goal.returns
returns c = λ program config replies ended. (jobs_of_run program config replies ended).0
