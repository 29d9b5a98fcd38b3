use Rattle.ak_laws.proofs.RoutingRun.{errors_go_up}
use Rattle.ak_laws.proofs.law.errors_go_up.Goals as goal

pub returns : goal.returns
returns c = errors_go_up
