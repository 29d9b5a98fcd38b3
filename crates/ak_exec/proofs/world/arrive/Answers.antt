use Rattle.std.proofs.Common.{◌≡◌, None}
use Rattle.std.specs.Option.{option_map}
use Rattle.ak_cells.specs.Names.{name_in}
use Rattle.ak_machine.specs.Mapped.{job_mapped}
use Rattle.ak_exec.proofs.Whole.{arrived_whole, emptied_whole, none_picked}
use Rattle.ak_exec.proofs.world.arrive.Goals as goal

pub arrive-requires-clause-fits : goal.arrive-requires-clause-fits
arrive-requires-clause-fits c = record { program = c.world.inside.program.procs; fits = c.world.invariant.fits }

pub invariant_of-world : goal.invariant_of-world
invariant_of-world c =
    let free : option_map (job_mapped (name_in c.world.inside.parts.names)) c.world.inside.picked ≡ None = rw (← c.world.view_is) at c.requires.free
    in arrived_whole c.world.inside.program c.world.inside.config c.world.inside.picked c.world.inside.ran c.world.inside.parts c.arrive.new.self
    c.args.work c.args.outcome c.in-Ok.flow free c.in-Ok.ensures.names c.in-Ok.ensures.arrived c.world.invariant

pub invariant_of-world-in-Err : goal.invariant_of-world-in-Err
invariant_of-world-in-Err c =
    let free : option_map (job_mapped (name_in c.world.inside.parts.names)) c.world.inside.picked ≡ None = rw (← c.world.view_is) at c.requires.free
    in let none : c.world.inside.picked ≡ None = none_picked _ _ free
    in rw none (emptied_whole c.world.inside.program c.world.inside.config c.world.inside.picked c.world.inside.ran c.world.inside.parts c.reset.new.self
    c.reset.ensures c.world.invariant)
