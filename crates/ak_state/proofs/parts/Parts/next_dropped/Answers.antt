use Rattle.std.proofs.Common.{ap, sym, ◌∙◌}
use Rattle.ak_base.specs.Lists.{first_of}
use Rattle.ak_throttle.specs.Throttle.{dropped_taken}
use Rattle.ak_cells.specs.Names.{name_in, trimmed}
use Rattle.ak_machine.specs.Mapped.{body_mapped}
use Rattle.ak_streams.specs.Throttles.{throttle_in}
use Rattle.ak_state.specs.Seen.{other_lists}
use Rattle.ak_state.proofs.Throttles.{seen_stepped, throttle_seen, front_of_map, dropped_mapped}
use Rattle.ak_state.proofs.parts.Parts.next_dropped.Goals as goal

pub returns-clause-first : goal.returns-clause-first
returns-clause-first c =
    let f = name_in (trimmed c.self.inside.cells.named.names)
    in let all = c.self.inside.lists.throttles
    in rw (← c.self.view_is, c.next_dropped.ensures.front)
    (front_of_map (body_mapped f) (throttle_in c.args.t all).dropped
    ∙ ap (λ x. first_of x.dropped) (sym (throttle_seen f all.throttles c.args.t)))

pub returns-clause-rest : goal.returns-clause-rest
returns-clause-rest c =
    rw (← c.self.view_is, c.next_dropped.ensures.rest)
    (seen_stepped c.self.inside.cells.named c.self.inside.queues.queues c.self.inside.trace (other_lists c.self.inside.lists) c.args.t dropped_taken
    dropped_taken (dropped_mapped (name_in (trimmed c.self.inside.cells.named.names))))
