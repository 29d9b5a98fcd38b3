use Rattle.ak_exec.proofs.Groups.{all_goes}
use Rattle.ak_exec.proofs.statements.groups.all.Goals as goal

pub returns : goal.returns
returns c =
    all_goes c.args.ctx c.args.r c.args.proc c.args.deferreds.now c.args.args.now c.args.parts.now c.fresh.new.self c.begin_all.new.self
    c.args.vals.now c.push.new.self c.in_ok-values.values c.in_ok-ivars.ivars c.in_ok-result.result c.in_ok-ivars.ensures.names
    c.in_ok-values.ensures c.in_ok-result.ensures.fresh c.in_ok-result.ensures.number c.in_ok-result.ensures.own
    (rw c.as_slice.ensures at c.in_ok-begin_all.ensures) c.in_ok-push.ensures.ok
