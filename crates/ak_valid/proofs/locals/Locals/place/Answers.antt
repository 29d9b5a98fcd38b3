use Rattle.ak_valid.proofs.Tables.{local_placed}
use Rattle.std.proofs.Common.{◌∙◌}
use Rattle.ak_valid.proofs.locals.Locals.place.Goals as goal

pub returns : goal.returns
returns c = c.unwrap_or.ensures ∙ local_placed c.self.inside.kinds.entries c.args.name.now c.args.self.now c.get_index_of.result
    c.len.result c.self.view_is c.get_index_of.ensures.index c.len.ensures.len
