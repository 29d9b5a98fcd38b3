use Rattle.ak_laws.proofs.Jobs.{in_order_obeys}
use Rattle.ak_laws.proofs.Back.{obeys_in_order}
use Rattle.ak_laws.proofs.law.in_order_is_both_laws.Goals as goal

pub returns : goal.returns
returns c = record { laws = in_order_obeys; order = obeys_in_order }
