use Rattle.ak_exec.proofs.Groups.{choice_goes}
use Rattle.ak_exec.proofs.statements.groups.choose.Goals as goal

pub returns : goal.returns
returns c =
    choice_goes c.args.ctx c.args.r c.args.choices.now c.args.args.now c.args.parts.now c.fresh.new.self c.begin_choice.new.self
    c.args.vals.now c.push.new.self c.in_ok-values.values c.in_ok-all.all c.in_ok-result.result c.in_ok-all.ensures.choices
    c.in_ok-values.ensures c.in_ok-result.ensures.fresh c.in_ok-result.ensures.number c.in_ok-result.ensures.own
    c.in_ok-begin_choice.ensures c.in_ok-push.ensures.ok
