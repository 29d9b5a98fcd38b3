use Rattle.std.proofs.Common.{◌≡◌, rules, Some}
use Rattle.ak_cells.specs.Names.{name_in, trimmed}
use Rattle.ak_cells.specs.Rooms.{NamedCells, registered, number_of, placed_at}
use Rattle.ak_cells.specs.declared.registration.Placed.TheVariants.{Kept, Full}
use Rattle.ak_frames.specs.declared.frame.Frame.{Frame}
use Rattle.ak_machine.specs.Deferred.{enqueue}
use Rattle.ak_machine.specs.Mapped.{task_mapped}
use Rattle.ak_state.specs.Seen.{other_lists, seen, doing}
use Rattle.ak_state.proofs.Stands.{seen_kept, seen_full, waits_kept, waits_full}
use Rattle.ak_state.proofs.parts.Parts.register.Goals as goal

pub returns-in-Kept-clause-registered : goal.returns-in-Kept-clause-registered
returns-in-Kept-clause-registered c =
    let cells : NamedCells Frame = c.self.inside.cells.named
    in let placed : placed_at (number_of c.args.i cells) c.args.frame cells.cells ≡ Kept c.in-Kept.registration = search rules
    in rw (← c.self.view_is, c.register.ensures.named, c.reserve.ensures.named)
    (seen_kept cells c.self.inside.queues.queues c.self.inside.trace (other_lists c.self.inside.lists) c.args.i c.args.ctx c.args.frame c.in-Kept.registration
    placed)

pub returns-in_ok-enqueue-in-Full-clause-registered : goal.returns-in_ok-enqueue-in-Full-clause-registered
returns-in_ok-enqueue-in-Full-clause-registered c =
    let cells : NamedCells Frame = c.self.inside.cells.named
    in let placed : placed_at (number_of c.args.i cells) c.args.frame cells.cells ≡ Full c.in-Full.num c.in-Full.frame = search rules
    in let after : NamedCells Frame = registered c.args.i c.args.ctx c.args.frame cells
    in let queued : c.enqueue.new.self ≡ doing
    (enqueue c.args.ctx (task_mapped (name_in (trimmed after.names)) (record { frame = c.in-Full.frame; value = Some c.in-Full.num })))
    (seen after c.self.inside.queues.queues c.self.inside.trace (other_lists c.self.inside.lists)) = rw
    (c.in_ok-enqueue-in-Full.ensures, c.register.ensures.named, c.reserve.ensures.named) (search rules)
    in rw (← c.self.view_is, queued)
    (seen_full cells c.self.inside.queues.queues c.self.inside.trace (other_lists c.self.inside.lists) c.args.i c.args.ctx c.args.frame c.in-Full.frame
    c.in-Full.num placed)

pub returns-in-Kept-clause-number : goal.returns-in-Kept-clause-number
returns-in-Kept-clause-number c =
    let cells : NamedCells Frame = c.self.inside.cells.named
    in let placed : placed_at (number_of c.args.i cells) c.args.frame cells.cells ≡ Kept c.in-Kept.registration = search rules
    in rw (← c.self.view_is)
    (waits_kept cells c.self.inside.queues.queues c.self.inside.trace (other_lists c.self.inside.lists) c.args.i c.args.frame c.in-Kept.registration
    placed)

pub returns-in_ok-enqueue-in-Full-clause-number : goal.returns-in_ok-enqueue-in-Full-clause-number
returns-in_ok-enqueue-in-Full-clause-number c =
    let cells : NamedCells Frame = c.self.inside.cells.named
    in let placed : placed_at (number_of c.args.i cells) c.args.frame cells.cells ≡ Full c.in-Full.num c.in-Full.frame = search rules
    in rw (← c.self.view_is)
    (waits_full cells c.self.inside.queues.queues c.self.inside.trace (other_lists c.self.inside.lists) c.args.i c.args.frame c.in-Full.frame
    c.in-Full.num placed)
