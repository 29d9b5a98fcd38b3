use Rattle.std.proofs.Common.{◌<◌, subst}
use Rattle.ak_cells.specs.Names.{name_in, trimmed}
use Rattle.ak_state.specs.Seen.{other_lists}
use Rattle.ak_state.proofs.Throttles.{seen_fate, started_long}
use Rattle.ak_state.proofs.parts.Parts.set_fate.Goals as goal

pub returns : goal.returns
returns c =
    let f = name_in (trimmed c.self.inside.cells.named.names)
    in let all = c.self.inside.lists.throttles.started
    in rw (← c.self.view_is, c.set_fate.ensures)
    (seen_fate c.self.inside.cells.named c.self.inside.queues.queues c.self.inside.trace (other_lists c.self.inside.lists) c.args.b.now c.args.fate
    (subst (λ n. c.args.b.now.no < n) (started_long f all c.args.b.now.throttle) (rw (← c.self.view_is) at c.requires.started)))
