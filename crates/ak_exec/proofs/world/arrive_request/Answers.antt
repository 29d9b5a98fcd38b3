use Rattle.std.proofs.Common.{◌≡◌, ◌∙◌, length, sym, None}
use Rattle.std.specs.Option.{option_map}
use Rattle.ak_cells.specs.Names.{name_in}
use Rattle.ak_machine.specs.Mapped.{job_mapped}
use Rattle.ak_exec.proofs.Whole.{request_whole, emptied_whole, none_picked}
use Rattle.ak_exec.proofs.world.arrive_request.Goals as goal

pub invariant_of-world : goal.invariant_of-world
invariant_of-world c =
    let free : option_map (job_mapped (name_in c.world.inside.parts.names)) c.world.inside.picked ≡ None = rw (← c.world.view_is) at c.requires.free
    in let next : c.args.no ≡ length c.world.inside.parts.plain.requests = rw (← c.world.view_is) at c.requires.next
    in request_whole c.world.inside.program c.world.inside.config c.world.inside.picked c.world.inside.ran c.world.inside.parts c.arrive_request.new.self
    c.in-Some.ask c.args.no _ c.ask.ensures.sound (sym c.ask.ensures.value ∙ c.in-Some.is) next free
    c.in-Ok.ensures c.world.invariant

pub invariant_of-world-in-Err : goal.invariant_of-world-in-Err
invariant_of-world-in-Err c =
    let free : option_map (job_mapped (name_in c.world.inside.parts.names)) c.world.inside.picked ≡ None = rw (← c.world.view_is) at c.requires.free
    in let none : c.world.inside.picked ≡ None = none_picked _ _ free
    in rw none (emptied_whole c.world.inside.program c.world.inside.config c.world.inside.picked c.world.inside.ran c.world.inside.parts c.reset.new.self
    c.reset.ensures c.world.invariant)
