use Rattle.ak_again.proofs.Meeting.{own_history}
use Rattle.ak_again.proofs.law.meets_its_history.Goals as goal

pub returns : goal.returns
returns c = own_history c.has_called.ensures
