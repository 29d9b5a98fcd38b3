use Rattle.std.proofs.Common.{◌≡◌, ◌+◌, ◌-◌, List, ℕ, [], ◌∷◌, ◌++◌, length, take, drop, subst, sym, ap, ◌∙◌, arith, length-append}
use Rattle.ak_text.specs.Lines.{lines_of}
use Rattle.ak_record.specs.Walks.{IsFirstLine}
use Rattle.ak_record.proofs.Lines.{from_place, walks_on, walked_lines, walked_all}
use Rattle.ak_record.proofs.record.first_lines.Goals as goal
use Rattle.ak_record.proofs.record.first_lines.Goals.{then-loop-left-test+else-end-bytes, else-loop-left-test}

pub loop-left-preserved : goal.loop-left-preserved
loop-left-preserved c =
    let bytes = c.args.bytes.now in
    let end = c.loop-left.end in
    let n = c.line_len-end.result in
    let inv = c.loop-left.invariant in
    let l : IsFirstLine (drop end bytes) n = subst (λ (rest : List ℕ). IsFirstLine rest n) (from_place bytes end) c.line_len-end.ensures in
    record {
      before = inv.before ++ take n (drop end bytes) ∷ [];
      walked = walks_on bytes end n inv.before inv.walked c.if-end-bytes.true l;
      counted = omega (arith, inv.counted, c.loop-left-test.true, length-append inv.before (take n (drop end bytes) ∷ []));
    }

pub returns-clause-lines : goal.returns-clause-lines
returns-clause-lines c =
    let bytes = c.args.bytes.now in
    let inv = c.loop-left.invariant in
    elim c.loop-left-test.branch [
      | then-loop-left-test+else-end-bytes w ↦
          walked_all bytes c.loop-left.end c.args.count inv.before inv.walked (omega (arith, w.if-end-bytes, inv.walked.within)) (omega (arith, inv.counted))
      | else-loop-left-test w ↦
          let all : length inv.before ≡ c.args.count = omega (arith, inv.counted, w.loop-left-test) in
          subst (λ (k : ℕ). lines_of (take c.loop-left.end bytes) ≡ take k (lines_of bytes)) all
          (walked_lines bytes c.loop-left.end inv.before inv.walked)
    ]
