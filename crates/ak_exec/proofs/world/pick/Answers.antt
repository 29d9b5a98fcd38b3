use Rattle.std.proofs.Common.{◌≡◌, ◌+◌, ◌∙◌, Some, None}
use Rattle.std.specs.Option.{option_map}
use Rattle.ak_cells.specs.Names.{name_in}
use Rattle.ak_machine.specs.Mapped.{job_mapped}
use Rattle.ak_exec.proofs.Whole.{picked_whole, without_whole}
use Rattle.ak_exec.proofs.world.pick.Goals as goal

pub invariant_of-world : goal.invariant_of-world
invariant_of-world c =
    let free : option_map (job_mapped (name_in c.world.inside.parts.names)) c.world.inside.picked ≡ None = rw (← c.world.view_is) at c.requires.free
    in picked_whole c.world.inside.program c.world.inside.config (Some c.in-Some.job) c.world.inside.ran
    (c.world.inside.ran + 1) c.world.inside.parts c.pick.new.self c.in-Some.ensures.parts c.in-Some.ensures.job
    (without_whole c.world.inside.program c.world.inside.config c.world.inside.picked c.world.inside.ran c.world.inside.parts free c.world.invariant)

pub invariant_of-world-in-None : goal.invariant_of-world-in-None
invariant_of-world-in-None c =
    let free : option_map (job_mapped (name_in c.world.inside.parts.names)) c.world.inside.picked ≡ None = rw (← c.world.view_is) at c.requires.free
    in picked_whole c.world.inside.program c.world.inside.config c.world.inside.picked c.world.inside.ran c.world.inside.ran c.world.inside.parts
    c.pick.new.self c.in-None.ensures.parts (free ∙ c.in-None.ensures.job)
    (without_whole c.world.inside.program c.world.inside.config c.world.inside.picked c.world.inside.ran c.world.inside.parts free c.world.invariant)
