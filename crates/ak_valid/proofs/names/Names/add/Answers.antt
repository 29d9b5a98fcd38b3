use Rattle.std.proofs.lemmas.Result.{err_from_is_err_and}
use Rattle.ak_valid.proofs.Naming.{added}
use Rattle.ak_valid.proofs.names.Names.add.Goals as goal

pub returns-in_err-insert : goal.returns-in_err-insert
returns-in_err-insert c = let p = err_from_is_err_and c.from_residual.result c.from_residual.ensures.1 in rw (p.1) tt

pub returns : goal.returns
returns c = added c.self.inside.names.keys c.insert.new.self.keys c.args.name c.args.self.now c.in_ok-insert.field-0 c.self.view_is
    c.in_ok-insert.ensures.added c.in_ok-insert.ensures.keys
