use Rattle.std.proofs.Common.{Err}
use Rattle.ak_record.proofs.Faults.{reads_many, answers_history, answers_fault}
use Rattle.ak_record.proofs.record.read_record.Goals as goal

pub judged-requires-clause-lines : goal.judged-requires-clause-lines
judged-requires-clause-lines c =
    reads_many c.args.bytes.now c.args.first c.in-Ok.recorded.history c.in-Ok.recorded.lines c.in-Ok.ensures.right

pub returns-in-Ok-clause-history : goal.returns-in-Ok-clause-history
returns-in-Ok-clause-history c =
    answers_history c.one_reading.ensures.history c.args.threads c.args.askers c.args.bytes.now c.args.first c.judged.result
    (c.judged.ensures c.args.bytes.now c.args.first c.in-Ok.ensures.right)

pub returns-in-Ok-clause-fault : goal.returns-in-Ok-clause-fault
returns-in-Ok-clause-fault c =
    answers_fault c.args.threads c.args.askers c.args.bytes.now c.args.first c.judged.result
    (c.judged.ensures c.args.bytes.now c.args.first c.in-Ok.ensures.right)

pub returns-in-Err-BadLine-clause-history : goal.returns-in-Err-BadLine-clause-history
returns-in-Err-BadLine-clause-history c =
    answers_history c.one_reading.ensures.history c.args.threads c.args.askers c.args.bytes.now c.args.first (Err c.refused_at.result)
    c.refused_at.ensures

pub returns-in-Err-BadLine-clause-fault : goal.returns-in-Err-BadLine-clause-fault
returns-in-Err-BadLine-clause-fault c =
    answers_fault c.args.threads c.args.askers c.args.bytes.now c.args.first (Err c.refused_at.result) c.refused_at.ensures
