use Rattle.std.proofs.Common.{◌≡◌, Some, None, rules}
use Rattle.ak_cells.specs.Names.{name_in}
use Rattle.ak_machine.specs.Mapped.{job_mapped}
use Rattle.ak_holders.specs.Held.{JobWaits}
use Rattle.ak_exec.proofs.Whole.{emptied_whole}
use Rattle.ak_exec.proofs.world.run_frame.Goals as goal

pub run_through-requires-clause-waits : goal.run_through-requires-clause-waits
run_through-requires-clause-waits g c =
    let procs = c.world.inside.program.procs
    in let e : c.world.inside.picked ≡ Some c.in-Some.job = search rules
    in let w : JobWaits procs (job_mapped (name_in c.world.inside.parts.names) c.in-Some.job) c.world.inside.parts.plain = rw e at c.world.invariant.held
    in w

pub invariant_of-world : goal.invariant_of-world
invariant_of-world g c =
    let n : c.take.new.self ≡ None = search rules
    in record {
      limit = search rules;
      askers = search rules;
      fits = c.in-Ok.ensures.fits;
      picked = rw n tt;
      held = rw n c.in-Ok.ensures.held;
      owed = rw n c.in-Ok.ensures.owed;
    }

pub invariant_of-world-in-Err : goal.invariant_of-world-in-Err
invariant_of-world-in-Err g c =
    let n : c.take.new.self ≡ None = search rules
    in rw n (emptied_whole c.world.inside.program c.world.inside.config c.world.inside.picked c.world.inside.ran c.world.inside.parts c.reset.new.self
    c.reset.ensures c.world.invariant)
