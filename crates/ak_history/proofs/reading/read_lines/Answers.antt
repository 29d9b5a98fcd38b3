use Rattle.std.proofs.Common.{◌≡◌, ◌+◌, List, length, refl, sym, subst, ◌∙◌}
use Rattle.std.proofs.lemmas.Result.{err_from_is_err_and}
use Rattle.ak_text.specs.Lines.{TextLine, text_lines, numbered, lines_of}
use Rattle.ak_history.specs.Taking.{walked, nothing_read}
use Rattle.ak_history.proofs.Going.{IsOn, starts, goes_past, goes_on, stops, ends}
use Rattle.ak_history.proofs.reading.read_lines.Goals as goal
use Rattle.ak_history.proofs.reading.read_lines.Goals.{then-counts+in_ok-take, else-counts}

pub loop-line-init : goal.loop-line-init
loop-line-init c =
    let lines : c.into_iter-line-iterator.result ≡ text_lines c.args.bytes.now =
    c.into_iter-line-iterator.ensures.into_iter_gives ∙ c.lines-line-items.ensures in
    subst (λ (left : List TextLine). IsOn left c.args.first (record { history = c.make.result; lines = c.make-2.result })
    (walked nothing_read (numbered c.args.first (lines_of c.args.bytes.now))) (c.args.first + length c.args.bytes.now)) (sym lines)
    (starts c.args.bytes.now c.args.first (record { history = c.make.result; lines = c.make-2.result }) (rw (c.make.ensures, c.make-2.ensures) refl))

pub returns-in_err-take : goal.returns-in_err-take
returns-in_err-take c =
    let p = err_from_is_err_and c.from_residual.result c.from_residual.ensures.1 in
    rw (p.1, p.2)
    (stops (Unit {0}) c.loop-line.line-iterator c.next.new.self c.in-Some.line c.loop-line.number c.loop-line.recorded c.take.new.self _ _
    c.in_err-take.field-0.0 c.loop-line.invariant c.in-Some.ensures.steps
    (sym c.counts.ensures ∙ c.if-counts.true) c.in_err-take.ensures)

pub loop-line-preserved : goal.loop-line-preserved
loop-line-preserved c =
    elim c.if-counts.branch [
      | then-counts+in_ok-take w ↦ rw (w.recorded-is)
          (goes_on c.loop-line.line-iterator c.next.new.self c.in-Some.line c.loop-line.number c.loop-line.recorded _ _ _
          c.loop-line.invariant c.in-Some.ensures.steps
          (sym c.counts.ensures ∙ w.if-counts.true) w.in_ok-take.ensures)
      | else-counts w ↦ rw (w.recorded-is)
          (goes_past c.loop-line.line-iterator c.next.new.self c.in-Some.line c.loop-line.number c.loop-line.recorded _ _
          c.loop-line.invariant c.in-Some.ensures.steps (sym c.counts.ensures ∙ w.if-counts.false))
    ]

pub returns : goal.returns
returns c = ends c.loop-line.line-iterator c.loop-line.number c.loop-line.recorded _ _ c.loop-line.invariant c.in-None.ensures.steps.0
