use Rattle.std.proofs.Common.{◌≡◌, ℕ, rules}
use Rattle.ak_history.specs.Reading.{HistoryReads, IsFirstBad, rows_events, rows_numbers, lines_from}
use Rattle.ak_record.proofs.Faults.{after_first, front_reads, reads_many, fault_behind, fault_before}
use Rattle.ak_record.proofs.record.refused_at.Goals as goal

pub overflow_sub-line : goal.overflow_sub-line
overflow_sub-line c = after_first c.args.bytes.now c.args.first c.args.line c.requires.bad

pub judged-requires-clause-lines : goal.judged-requires-clause-lines
judged-requires-clause-lines c =
    reads_many c.first_lines.result.now c.args.first c.in-Ok.recorded.history c.in-Ok.recorded.lines c.in-Ok.ensures.right

pub unreachable-requires : goal.unreachable-requires
unreachable-requires c =
    let bad : IsFirstBad c.first_lines.result.now c.args.first c.in-Err-BadLine.field-0-0 = search rules in
    c.one_reading.ensures.not_both c.first_lines.result.now c.args.first (rows_events c.requires.bad.rows)
    (rows_numbers c.requires.bad.rows (lines_from c.args.first c.first_lines.result.now)) c.in-Err-BadLine.field-0-0
    (front_reads c.args.bytes.now c.first_lines.result.now c.args.first c.args.line c.requires.bad c.first_lines.ensures.lines) bad

pub returns-in-Ok-judged : goal.returns-in-Ok-judged
returns-in-Ok-judged c =
    fault_behind c.one_reading.ensures.line c.one_reading.ensures.history c.args.threads c.args.askers c.args.bytes.now c.first_lines.result.now
    c.args.first c.args.line c.in-Ok-judged.history c.requires.bad c.first_lines.ensures.lines
    (c.in-Ok-judged.ensures c.first_lines.result.now c.args.first c.in-Ok.ensures.right)

pub returns-in-Err : goal.returns-in-Err
returns-in-Err c =
    fault_before c.args.threads c.args.askers c.args.bytes.now c.first_lines.result.now c.args.first c.args.line c.in-Err.refused c.requires.bad
    c.first_lines.ensures.lines (c.in-Err.ensures c.first_lines.result.now c.args.first c.in-Ok.ensures.right)
