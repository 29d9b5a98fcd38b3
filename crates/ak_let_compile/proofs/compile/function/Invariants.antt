use Rattle.ak_let_compile.specs.Drafts.{entry_at}
use Rattle.ak_let_compile.proofs.Function.{IsWalked}
use Rattle.ak_let_compile.proofs.compile.function.Given as goal

abbrev pub invariant-loop-line : goal.invariant-loop-line
invariant-loop-line l = IsWalked (entry_at l.entries) l.fn.place l.fn.line l.fun l.fn.procs l.procs l.draft l.line-index
