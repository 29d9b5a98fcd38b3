use Rattle.ak_laws.proofs.PathSteps.{path_has_steps}
use Rattle.ak_laws.proofs.law.path_has_its_steps.Goals as goal

pub returns : goal.returns
returns c = path_has_steps
