use Rattle.std.proofs.Common.{rules}
use Rattle.ak_base.proofs.Passing.{took-then_fault, passes-by, on_err}
use Rattle.ak_base.proofs.buffer.Buffer.put.Goals as goal

pub returns-in_err-write_all : goal.returns-in_err-write_all
returns-in_err-write_all g c = record {
  passes = search rules;
  begins = on_err c.from_residual-in_err-write_all.result
      (took-then_fault _ _ _ c.args.self.now c.args.piece.now c.in_ok-flush.ensures.written.takes c.in_err-write_all.ensures.begins);
  lost = search rules;
  never_falls = search rules;
  cause = search rules;
}

pub returns-then-piece-gt-ROOM : goal.returns-then-piece-gt-ROOM
returns-then-piece-gt-ROOM g c = record {
  passes = rw c.flush.ensures.empty
      (passes-by _ _ _ c.args.self.now c.args.piece.now c.in_ok-flush.ensures.written.takes c.in_ok-write_all.ensures.takes);
  begins = search rules;
  lost = search rules;
  never_falls = search rules;
  cause = search rules;
}
