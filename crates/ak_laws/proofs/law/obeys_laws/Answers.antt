use Rattle.ak_laws.proofs.Laws.{run_obeys}
use Rattle.ak_laws.proofs.law.obeys_laws.Goals as goal

pub returns : goal.returns
returns c = λ program sound config replies ended. run_obeys program sound config replies ended (c.fills_once.ensures program sound config replies)
