use Rattle.ak_exec.proofs.Whole.{cycle_whole, emptied_whole}
use Rattle.ak_exec.proofs.world.begin_cycle.Goals as goal

pub begin_cycle-requires : goal.begin_cycle-requires
begin_cycle-requires c = record { fits = record { program = c.world.inside.program.procs; fits = c.world.invariant.fits } }

pub invariant_of-world : goal.invariant_of-world
invariant_of-world c =
    cycle_whole c.world.inside.program c.world.inside.config c.world.inside.picked c.world.inside.ran c.world.inside.parts c.begin_cycle.new.self
    c.in-Ok.ensures.begun c.world.invariant

pub invariant_of-world-in-Err : goal.invariant_of-world-in-Err
invariant_of-world-in-Err c =
    emptied_whole c.world.inside.program c.world.inside.config c.world.inside.picked c.world.inside.ran c.world.inside.parts c.reset.new.self
    c.reset.ensures c.world.invariant
