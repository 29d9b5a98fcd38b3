use Rattle.std.proofs.Common.{◌≡◌, ℕ, List, map, take, Bor}
use Rattle.ak_let_reader.proofs.locals.Locals.of.Given as goal

abbrev pub invariant-loop-param : goal.invariant-loop-param
invariant-loop-param l = map (λ (name : Bor (List ℕ)). name.now) l.names.items ≡ take l.param-index l.params
