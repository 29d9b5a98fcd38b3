use Rattle.ak_let.specs.Compile.{params_from}
use Rattle.ak_let_compile.proofs.Begins.{IsPut}
use Rattle.ak_let_compile.proofs.draft.parameters.Given as goal

abbrev pub invariant-loop-name : goal.invariant-loop-name
invariant-loop-name l = IsPut params_from l.name l.count l.params
