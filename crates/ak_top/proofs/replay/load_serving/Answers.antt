use Rattle.ak_top.proofs.Serving.{refused_with, serving_has_no_fault, lacking_refuses}
use Rattle.ak_top.proofs.replay.load_serving.Goals as goal

pub returns-then-lacks_ask-clause-refuses : goal.returns-then-lacks_ask-clause-refuses
returns-then-lacks_ask-clause-refuses c = lacking_refuses c.args.askers c.args.bytes.now c.in-Ok.ensures.refuses

pub returns-else-lacks_ask-clause-refuses : goal.returns-else-lacks_ask-clause-refuses
returns-else-lacks_ask-clause-refuses c =
    serving_has_no_fault c.args.askers c.args.bytes.now c.in-Ok.program c.in-Ok.ensures.program (c.lacks_ask.ensures.serves c.if-lacks_ask.false)
    c.in-Ok.ensures.refuses

pub returns-in-Err-clause-refuses : goal.returns-in-Err-clause-refuses
returns-in-Err-clause-refuses c =
    refused_with c.args.askers c.args.bytes.now c.in-Err.stop c.in-Err.ensures.refuses c.in-Err.ensures.accepts
