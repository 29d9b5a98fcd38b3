use Rattle.ak_exec.proofs.Throttled.{they_hold}
use Rattle.ak_exec.proofs.world.throttles_hold.Goals as goal

pub returns : goal.returns
returns c = rw (← c.world.view_is) (they_hold c.world.inside.program.procs c.world.inside.parts.plain c.world.invariant.fits)
