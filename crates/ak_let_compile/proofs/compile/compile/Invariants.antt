use Rattle.ak_let_compile.proofs.Whole.{IsCompiled}
use Rattle.ak_let_compile.proofs.compile.compile.Given as goal

abbrev pub invariant-loop-i : goal.invariant-loop-i
invariant-loop-i l = IsCompiled l.source l.line l.procs l.i
