use Rattle.ak_laws.proofs.Served.{requests_are_served}
use Rattle.ak_laws.proofs.law.requests_are_served.Goals as goal

pub returns : goal.returns
returns c = requests_are_served
