use Rattle.ak_exec.proofs.Whole.{noted_whole}
use Rattle.ak_exec.proofs.world.finish.Goals as goal

pub invariant_of-world-2 : goal.invariant_of-world-2
invariant_of-world-2 c =
    noted_whole c.world.inside.program c.world.inside.config c.world.inside.picked c.world.inside.ran c.world.inside.parts c.note.new.self _ tt
    c.in_ok-note.ensures.ok c.world.invariant
