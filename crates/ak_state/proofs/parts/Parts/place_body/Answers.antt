use Rattle.std.proofs.Common.{ap, sym, ◌∙◌}
use Rattle.ak_throttle.specs.Throttle.{placed, enqueued}
use Rattle.ak_cells.specs.Names.{name_in, trimmed}
use Rattle.ak_machine.specs.Mapped.{body_mapped}
use Rattle.ak_streams.specs.Throttles.{throttle_in}
use Rattle.ak_state.specs.Seen.{other_lists}
use Rattle.ak_state.specs.Bodies.{placed_mapped}
use Rattle.ak_state.proofs.Throttles.{seen_stepped, throttle_seen, placed_same, enqueued_mapped}
use Rattle.ak_state.proofs.parts.Parts.place_body.Goals as goal

pub returns-clause-placed : goal.returns-clause-placed
returns-clause-placed c =
    let f = name_in (trimmed c.self.inside.cells.named.names)
    in let all = c.self.inside.lists.throttles
    in rw (← c.self.view_is)
    (ap (placed_mapped f) c.in_ok-placed.ensures.placed
    ∙ placed_same f c.args.body (throttle_in c.args.t all)
    ∙ ap (placed (body_mapped f c.args.body)) (sym (throttle_seen f all.throttles c.args.t)))

pub returns-clause-enqueued : goal.returns-clause-enqueued
returns-clause-enqueued c =
    let f = name_in (trimmed c.self.inside.cells.named.names)
    in rw (← c.self.view_is, c.in_ok-placed.ensures.enqueued)
    (seen_stepped c.self.inside.cells.named c.self.inside.queues.queues c.self.inside.trace (other_lists c.self.inside.lists) c.args.t
    (enqueued c.args.body) (enqueued (body_mapped f c.args.body)) (enqueued_mapped f c.args.body))
