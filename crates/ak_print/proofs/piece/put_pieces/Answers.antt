use Rattle.std.proofs.Common.{arith, rules}
use Rattle.ak_base.proofs.Passing.{on_err, passes-item, passes-item_fault}
use Rattle.ak_print.specs.Piece.{piece_bytes}
use Rattle.ak_print.proofs.piece.put_pieces.Goals as goal

pub returns-in_err-put : goal.returns-in_err-put
returns-in_err-put g c = record {
  passes = search rules;
  begins = on_err c.from_residual.result
      (passes-item_fault piece_bytes c.args.pieces.now c.loop-piece.piece-index _ _ _ _ _ _ (omega arith)
      c.loop-piece.invariant.passes c.in_err-put.ensures.begins);
  lost = search rules;
  never_falls = search rules;
  cause = search rules;
}

pub loop-piece-preserved : goal.loop-piece-preserved
loop-piece-preserved g c = record {
  passes = passes-item piece_bytes c.args.pieces.now c.loop-piece.piece-index _ _ _ _ _ _ _ (omega arith)
      c.loop-piece.invariant.passes c.in_ok-put.ensures.passes;
  never_falls = omega (arith, c.in_ok-put.ensures.never_falls);
}
