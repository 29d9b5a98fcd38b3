use Rattle.ak_top.proofs.Loading.{parse_refuses, parse_accepts, valid_refuses, valid_accepts, taken_has_no_fault}
use Rattle.ak_top.proofs.running.load.Goals as goal

pub returns-in-Ok-validate-clause-refuses : goal.returns-in-Ok-validate-clause-refuses
returns-in-Ok-validate-clause-refuses c =
    taken_has_no_fault c.args.bytes.now c.in-Ok.script c.in-Ok.ensures.script c.in-Ok.ensures.fault c.in-Ok-validate.ensures.ok.0

pub returns-in-Err-validate-clause-refuses : goal.returns-in-Err-validate-clause-refuses
returns-in-Err-validate-clause-refuses c = λ line kind f.
    rw c.from.ensures (valid_refuses c.args.bytes.now c.in-Ok.script c.in-Err-validate.refused c.in-Ok.ensures.script
    c.in-Ok.ensures.fault c.in-Err-validate.ensures.err line kind f)

pub returns-in-Err-validate-clause-accepts : goal.returns-in-Err-validate-clause-accepts
returns-in-Err-validate-clause-accepts c = λ s is.
    rw c.from.ensures (valid_accepts c.args.bytes.now c.in-Ok.script c.in-Err-validate.refused c.in-Ok.ensures.script c.in-Err-validate.ensures.err s is)

pub returns-in-Err-clause-refuses : goal.returns-in-Err-clause-refuses
returns-in-Err-clause-refuses c = λ line kind f.
    rw c.from-in-Err.ensures (parse_refuses c.args.bytes.now c.in-Err.refused c.in-Err.ensures.script c.in-Err.ensures.fault line kind f)

pub returns-in-Err-clause-accepts : goal.returns-in-Err-clause-accepts
returns-in-Err-clause-accepts c = λ s is.
    rw c.from-in-Err.ensures (parse_accepts c.args.bytes.now c.in-Err.refused c.in-Err.ensures.script s is)
