use Rattle.std.proofs.Common.{◌<◌, subst}
use Rattle.ak_cells.specs.Names.{name_in, trimmed}
use Rattle.ak_state.proofs.Errors.{handler_seen, handlers_long}
use Rattle.ak_state.proofs.parts.Parts.handler.Goals as goal

pub returns : goal.returns
returns c =
    let ms = c.self.inside.lists.monitors
    in let f = name_in (trimmed c.self.inside.cells.named.names)
    in let lt = subst (λ n. c.args.k < n) (handlers_long f ms c.args.c) (rw (← c.self.view_is) at c.requires.handler)
    in rw (← c.self.view_is) (handler_seen f ms c.args.c c.args.k c.index-handlers-k.result lt (rw c.handlers.ensures at c.index-handlers-k.is))
