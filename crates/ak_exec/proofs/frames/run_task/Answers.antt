use Rattle.std.proofs.Common.{◌≤◌, length, subst, arith}
use Rattle.ak_machine.specs.Errors.{After}
use Rattle.ak_machine.specs.Groups.{part_at}
use Rattle.ak_machine.specs.Job.{value_or_zero}
use Rattle.ak_state.specs.Drawn.{drawn}
use Rattle.ak_state.specs.Fits.{Fits}
use Rattle.ak_state.specs.Reads.{named}
use Rattle.ak_state.specs.Groups.{choice_ended}
use Rattle.ak_state.proofs.Fitting.{value_call}
use Rattle.ak_state.proofs.Groups.{with_parts, try_done_grows}
use Rattle.ak_state.proofs.Choices.{part_ended_grows, part_call_fits, choice_ended_grows, choice_call_fits}
use Rattle.ak_state.proofs.Ends.{body_ended_grows, body_failed_grows}
use Rattle.ak_state.proofs.Errors.{send_grows}
use Rattle.ak_exec.proofs.Answered.{answering_fits}
use Rattle.ak_exec.proofs.frames.run_task.Goals as goal

pub run_call-requires-in-OnValue-clause-call : goal.run_call-requires-in-OnValue-clause-call
run_call-requires-in-OnValue-clause-call c =
    let frame = rw c.in-OnValue.is at c.requires.frame
    in rw c.in_ok-all-in-OnValue.ensures
    (value_call c.args.program.now.procs (drawn c.args.parts.now.plain) c.in-OnValue.proc (value_or_zero c.args.task.value)
    (named c.args.parts.now c.in-OnValue.vals) frame.0)

-- ---- a part of an `all`
pub run_call_if-requires-clause-call : goal.run_call_if-requires-clause-call
run_call_if-requires-clause-call c =
    let s = c.args.parts.now.plain
    in let g = c.in-AllPart.group
    in let k = c.in-AllPart.part
    in let there = with_parts s.groups g k (rw c.in-AllPart.is at c.requires.frame)
    in let told = c.in_ok-call-in-AllPart.ensures
    in rw told.ended (part_call_fits c.args.program.now.procs (part_at g k s) g k _ s _ c.requires.fits there told.call)

pub run_call_if-requires-clause-fits : goal.run_call_if-requires-clause-fits
run_call_if-requires-clause-fits c =
    let s = c.args.parts.now.plain
    in let g = c.in-AllPart.group
    in let k = c.in-AllPart.part
    in rw c.in_ok-call-in-AllPart.ensures.ended (part_ended_grows c.args.program.now.procs (part_at g k s) g k _ s c.requires.fits).fits

-- ---- a choice
pub run_call_if-requires-in-ChoicePart-clause-monitor : goal.run_call_if-requires-in-ChoicePart-clause-monitor
run_call_if-requires-in-ChoicePart-clause-monitor c =
    let s = c.args.parts.now.plain
    in let g = c.in-ChoicePart.group
    in let more : length s.monitors ≤ length (choice_ended g s).monitors =
    (choice_ended_grows c.args.program.now.procs g s c.requires.fits).more.monitors
    in rw c.in_ok-call-in-ChoicePart.ensures.ended (omega (arith, c.requires.monitor, more))

pub run_call_if-requires-in-ChoicePart-clause-call : goal.run_call_if-requires-in-ChoicePart-clause-call
run_call_if-requires-in-ChoicePart-clause-call c =
    let there = rw c.in-ChoicePart.is at c.requires.frame
    in let told = c.in_ok-call-in-ChoicePart.ensures
    in rw told.ended (choice_call_fits c.args.program.now.procs c.in-ChoicePart.group c.args.parts.now.plain _ c.requires.fits there told.call)

pub run_call_if-requires-in-ChoicePart-clause-fits : goal.run_call_if-requires-in-ChoicePart-clause-fits
run_call_if-requires-in-ChoicePart-clause-fits c =
    rw c.in_ok-call-in-ChoicePart.ensures.ended
    (choice_ended_grows c.args.program.now.procs c.in-ChoicePart.group c.args.parts.now.plain c.requires.fits).fits

pub returns-in_ok-end_try-in-TryDone-clause-fits : goal.returns-in_ok-end_try-in-TryDone-clause-fits
returns-in_ok-end_try-in-TryDone-clause-fits c =
    rw c.in_ok-end_try-in-TryDone.ensures
    (try_done_grows c.args.program.now.procs c.in-TryDone.guard _ c.args.parts.now.plain c.requires.fits).fits

-- ---- bodies of throttles
pub returns-in_ok-end_body-in-BodyDone-clause-fits : goal.returns-in_ok-end_body-in-BodyDone-clause-fits
returns-in_ok-end_body-in-BodyDone-clause-fits c =
    rw c.in_ok-end_body-in-BodyDone.ensures
    (body_ended_grows c.args.program.now.procs c.in-BodyDone.body _ c.args.parts.now.plain c.requires.fits).fits

pub send-requires-clause-monitor : goal.send-requires-clause-monitor
send-requires-clause-monitor c =
    rw c.in_ok-fail_body-in-BodyFailed.ensures
    (omega (
      arith,
      c.requires.monitor,
      (body_failed_grows c.args.program.now.procs c.in-BodyFailed.body c.args.parts.now.plain c.requires.fits).more.monitors,
    ))

pub send-requires-clause-fits : goal.send-requires-clause-fits
send-requires-clause-fits c =
    rw c.in_ok-fail_body-in-BodyFailed.ensures
    (record {
      program = c.args.program.now.procs;
      fits = (body_failed_grows c.args.program.now.procs c.in-BodyFailed.body c.args.parts.now.plain c.requires.fits).fits;
    })

pub returns-in_ok-flow-in-BodyFailed-clause-fits : goal.returns-in_ok-flow-in-BodyFailed-clause-fits
returns-in_ok-flow-in-BodyFailed-clause-fits c =
    let program = c.args.program.now.procs
    in let s = c.args.parts.now.plain
    in let failed = body_failed_grows program c.in-BodyFailed.body s c.requires.fits
    in let fits : Fits program c.fail_body.new.self.plain = rw c.in_ok-fail_body-in-BodyFailed.ensures failed.fits
    in subst (λ (a : After). Fits program a.state) c.in_ok-flow-in-BodyFailed.ensures.sent
    (send_grows program c.args.ctx.mon _ c.fail_body.new.self.plain fits).fits

pub returns-in_ok-raised-in-Raise-clause-fits : goal.returns-in_ok-raised-in-Raise-clause-fits
returns-in_ok-raised-in-Raise-clause-fits c =
    let program = c.args.program.now.procs
    in subst (λ (a : After). Fits program a.state) c.in_ok-raised-in-Raise.ensures.sent
    (send_grows program c.args.ctx.mon _ c.args.parts.now.plain c.requires.fits).fits

-- ---- an answer to a request
pub returns-in_ok-answer_out-in-AnswerOut-clause-fits : goal.returns-in_ok-answer_out-in-AnswerOut-clause-fits
returns-in_ok-answer_out-in-AnswerOut-clause-fits c =
    answering_fits c.args.program.now.procs c.args.ctx c.in-AnswerOut.request _ c.args.parts.now c.answer_out.new.self _ c.requires.monitor c.requires.fits
    c.in_ok-answer_out-in-AnswerOut.ensures c.nothing_left.ensures
