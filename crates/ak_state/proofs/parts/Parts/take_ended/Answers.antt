use Rattle.std.proofs.Common.{ap, sym, ◌∙◌}
use Rattle.ak_throttle.specs.Throttle.{started_by_end, after_end}
use Rattle.ak_cells.specs.Names.{name_in, trimmed}
use Rattle.ak_streams.specs.Throttles.{throttle_in}
use Rattle.ak_state.specs.Seen.{other_lists}
use Rattle.ak_state.proofs.Throttles.{seen_stepped, throttle_seen, end_front, end_mapped}
use Rattle.ak_state.proofs.parts.Parts.take_ended.Goals as goal

pub returns-clause-front : goal.returns-clause-front
returns-clause-front c =
    let f = name_in (trimmed c.self.inside.cells.named.names)
    in let all = c.self.inside.lists.throttles
    in rw (← c.self.view_is, c.end.ensures.front)
    (end_front f c.args.b.now.no (throttle_in c.args.b.now.throttle all)
    ∙ ap (started_by_end c.args.b.now.no) (sym (throttle_seen f all.throttles c.args.b.now.throttle)))

pub returns-clause-rest : goal.returns-clause-rest
returns-clause-rest c =
    rw (← c.self.view_is, c.end.ensures.ended)
    (seen_stepped c.self.inside.cells.named c.self.inside.queues.queues c.self.inside.trace (other_lists c.self.inside.lists) c.args.b.now.throttle
    (after_end c.args.b.now.no) (after_end c.args.b.now.no) (end_mapped (name_in (trimmed c.self.inside.cells.named.names)) c.args.b.now.no))
