use Rattle.std.proofs.Common.{◌≡◌, Err, refl, sym, ap, subst, ℕ, List, ◌∙◌, arith}
use Rattle.ak_text.specs.Lines.{TextLine, text_lines}
use Rattle.ak_syntax.proofs.Scanned.{AreNumbered, numbered_first, numbered_next}
use Rattle.ak_let_syntax.specs.declared.refusal.LetFault.TheVariants.{BadLine}
use Rattle.ak_let_syntax.specs.declared.refusal.LetRefused.{LetRefused}
use Rattle.ak_let_syntax.specs.Lines.{Tells, no_lines, refused_at, taking}
use Rattle.ak_syntax.specs.Takings.{scanned}
use Rattle.ak_let_syntax.proofs.Parsed.{closed_tells, next_found, open_tells, refused_tells}
use Rattle.ak_let_syntax.proofs.parse.parse_lines.Goals as goal

pub loop-line-init : goal.loop-line-init
loop-line-init c =
    let lines : c.into_iter-line-iterator.result ≡ text_lines c.args.bytes.now =
    c.into_iter-line-iterator.ensures.into_iter_gives ∙ c.lines-line-items.ensures in
    record {
      same = rw (c.new-reader.ensures, lines) refl;
      numbered = subst (λ (left : List TextLine). AreNumbered 0 left c.args.bytes.now) (sym lines) (numbered_first c.args.bytes.now);
    }

pub returns-in-Err : goal.returns-in-Err
returns-in-Err c =
    let refusal : c.refused_at.result ≡ refused_at c.in-Some.line.number c.in-Err.refused =
    c.refused_at.ensures ∙ ap (λ (n : ℕ). refused_at n c.in-Err.refused) c.number-last.ensures in
    subst (λ (r : LetRefused). Tells (Err r) (scanned taking no_lines 0 (text_lines c.args.bytes.now))) (sym refusal)
    (refused_tells c.loop-line.reader c.loop-line.last c.loop-line.line-iterator c.next.new.self c.in-Some.line c.in-Err.refused _
    c.loop-line.invariant.same c.in-Some.ensures.steps c.in-Err.ensures)

pub loop-line-preserved : goal.loop-line-preserved
loop-line-preserved c = record {
  same = rw (c.number-last.ensures)
      (next_found c.loop-line.reader c.take.new.self c.loop-line.last c.loop-line.line-iterator c.next.new.self c.in-Some.line _
      c.loop-line.invariant.same c.in-Some.ensures.steps c.in-Ok.ensures);
  numbered = rw (c.number-last.ensures)
      ((numbered_next c.loop-line.last c.loop-line.line-iterator c.next.new.self c.in-Some.line c.args.bytes.now
      c.loop-line.invariant.numbered c.in-Some.ensures.steps).0);
}

pub overflow_add-last : goal.overflow_add-last
overflow_add-last c = let few = c.loop-line.invariant.numbered.2 in omega arith

pub returns-then-is_open : goal.returns-then-is_open
returns-then-is_open c =
    rw (c.at.ensures) (
      BadLine,
      refl,
      open_tells c.loop-line.reader c.loop-line.last c.loop-line.line-iterator _ c.loop-line.invariant.same c.in-None.ensures.steps.0
          (sym c.if-is_open.ensures),
    )

pub returns : goal.returns
returns c = rw (c.into_funs.ensures)
    (closed_tells c.loop-line.reader c.loop-line.last c.loop-line.line-iterator _ c.loop-line.invariant.same c.in-None.ensures.steps.0
    (sym c.if-is_open.ensures))
