use Rattle.ak_laws.proofs.Worked.{works_arrive_once}
use Rattle.ak_laws.proofs.law.works_arrive_once.Goals as goal

pub returns : goal.returns
returns c = works_arrive_once
