use Rattle.std.proofs.Common.{ap, sym, ◌∙◌}
use Rattle.ak_throttle.specs.Throttle.{awaited, is_done}
use Rattle.ak_cells.specs.Names.{name_in, trimmed}
use Rattle.ak_streams.specs.Throttles.{throttle_in}
use Rattle.ak_state.specs.Seen.{other_lists}
use Rattle.ak_state.proofs.Throttles.{seen_stepped, throttle_seen, done_mapped, awaited_mapped}
use Rattle.ak_state.proofs.parts.Parts.done_when.Goals as goal

pub returns-clause-done : goal.returns-clause-done
returns-clause-done c =
    let f = name_in (trimmed c.self.inside.cells.named.names)
    in let all = c.self.inside.lists.throttles
    in rw (← c.self.view_is)
    (c.in_ok-done.ensures.done
    ∙ sym (done_mapped f (throttle_in c.args.t all))
    ∙ ap is_done (sym (throttle_seen f all.throttles c.args.t)))

pub returns-clause-awaited : goal.returns-clause-awaited
returns-clause-awaited c =
    let f = name_in (trimmed c.self.inside.cells.named.names)
    in rw (← c.self.view_is, c.in_ok-done.ensures.awaited)
    (seen_stepped c.self.inside.cells.named c.self.inside.queues.queues c.self.inside.trace (other_lists c.self.inside.lists) c.args.t (awaited c.args.i)
    (awaited (f c.args.i)) (awaited_mapped f c.args.i))
