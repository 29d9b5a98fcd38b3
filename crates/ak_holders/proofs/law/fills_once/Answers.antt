use Rattle.ak_holders.proofs.Filling.{fills_once}
use Rattle.ak_holders.proofs.law.fills_once.Goals as goal

pub returns : goal.returns
returns c = fills_once
