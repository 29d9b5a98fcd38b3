use Rattle.std.proofs.Common.{◌≡◌, map, take}
use Rattle.ak_let.specs.Compile.{atom}
use Rattle.ak_let_compile.proofs.locals.Locals.args.Given as goal

abbrev pub invariant-loop-arg : goal.invariant-loop-arg
invariant-loop-arg l = l.atoms.items ≡ map (atom l.self) (take l.arg-index l.args)
