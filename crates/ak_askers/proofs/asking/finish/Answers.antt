use Rattle.std.proofs.Common.{sym, subst}
use Rattle.ak_hub.specs.Outsides.{HasActed}
use Rattle.ak_askers.proofs.Holding.{finishes}
use Rattle.ak_askers.proofs.asking.finish.Goals as goal

pub returns-clause-acted : goal.returns-clause-acted
returns-clause-acted g c = λ nums plan p is on all.
    subst (λ heard. HasActed c.args.hub.now c.args.asker plan p c.end_asker.new.pass heard c.args.short) (sym c.from_vec.ensures)
    (finishes c.args.hub.now c.args.asker nums plan p c.args.pass c.end_asker.new.pass c.args.told.items c.args.short c.end_asker.result is
    c.end_asker.ensures.pass c.end_asker.ensures.ended on all)
