use Rattle.ak_valid.proofs.Tables.{proc_placed}
use Rattle.std.proofs.Common.{◌∙◌}
use Rattle.ak_valid.proofs.procs.Procs.place.Goals as goal

pub returns : goal.returns
returns c = c.unwrap_or.ensures ∙ proc_placed c.self.inside.procs.entries c.args.name.now c.args.self.now c.get_index_of.result
    c.len.result c.self.invariant c.self.view_is c.get_index_of.ensures.index c.len.ensures.len
