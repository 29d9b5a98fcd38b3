use Rattle.std.proofs.Common.{◌≡◌, true, List, sym, subst, ◌∙◌, rules}
use Rattle.ak_text.specs.Lines.{text_lines, counts}
use Rattle.ak_row.proofs.Fitting.{AreRead, read_all, read_more}
use Rattle.ak_trace.specs.declared.entry.Entry.{Entry}
use Rattle.ak_trace.specs.Reading.{IsEntry, TraceReads, IsRight}
use Rattle.ak_trace.proofs.Readings.{one_trace, no_bad_in_a_trace, right_trace, right_bad}
use Rattle.ak_trace.proofs.read.read_trace.Goals as goal

pub returns-in_err-read_entry-clause-trace : goal.returns-in_err-read_entry-clause-trace
returns-in_err-read_entry-clause-trace c = let right : IsRight c.args.bytes.now c.from_residual.result =
    search rules in right_trace c.args.bytes.now c.from_residual.result right

pub returns-in_err-read_entry-clause-bad : goal.returns-in_err-read_entry-clause-bad
returns-in_err-read_entry-clause-bad c = let right : IsRight c.args.bytes.now c.from_residual.result =
    search rules in right_bad c.args.bytes.now c.from_residual.result right

pub loop-line-preserved-in_ok-push : goal.loop-line-preserved-in_ok-push
loop-line-preserved-in_ok-push c =
    let kept : counts c.in-Some.line ≡ true = sym c.counts.ensures ∙ c.if-counts.true in
    subst (λ (es : List Entry). AreRead IsEntry es c.next.new.self (text_lines c.args.bytes.now)) (sym c.in_ok-push.ensures.ok)
    (read_more IsEntry c.loop-line.entries c.loop-line.line-iterator c.next.new.self
    (text_lines c.args.bytes.now) c.in-Some.line c.in_ok-read_entry.field-0 c.loop-line.invariant c.in-Some.ensures.steps kept
    c.in_ok-read_entry.ensures.ok)

pub returns-clause-trace : goal.returns-clause-trace
returns-clause-trace c = λ entries h.
    let read : TraceReads c.args.bytes.now c.loop-line.entries =
    read_all IsEntry c.loop-line.entries c.loop-line.line-iterator (text_lines c.args.bytes.now) c.loop-line.invariant
    c.in-None.ensures.steps.0 in
    one_trace c.args.bytes.now c.loop-line.entries entries read h

pub returns-clause-bad : goal.returns-clause-bad
returns-clause-bad c = λ line h.
    let read : TraceReads c.args.bytes.now c.loop-line.entries =
    read_all IsEntry c.loop-line.entries c.loop-line.line-iterator (text_lines c.args.bytes.now) c.loop-line.invariant
    c.in-None.ensures.steps.0 in
    no_bad_in_a_trace c.args.bytes.now c.loop-line.entries line read h
