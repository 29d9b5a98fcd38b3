use Rattle.ak_laws.proofs.Laws.{jobs_of_run}
use Rattle.ak_laws.proofs.law.cycles_are_limited.Goals as goal

pub returns : goal.returns
returns c = λ program config replies ended. (jobs_of_run program config replies ended).1
