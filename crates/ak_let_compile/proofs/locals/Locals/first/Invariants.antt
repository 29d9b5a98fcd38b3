use Rattle.ak_let.specs.Compile.{locals_from}
use Rattle.ak_let_compile.proofs.Begins.{IsPut}
use Rattle.ak_let_compile.proofs.locals.Locals.first.Given as goal

abbrev pub invariant-loop-place : goal.invariant-loop-place
invariant-loop-place l = IsPut locals_from l.place l.count l.atoms.items
