use Rattle.ak_state.proofs.Stands.{drawn_seen}
use Rattle.ak_state.proofs.parts.Parts.check_drawn.Goals as goal

pub returns : goal.returns
returns c = rw (← c.self.view_is) (drawn_seen c.self.inside.cells.named c.self.invariant.named c.args.i)
