use Rattle.std.proofs.Common.{take}
use Rattle.ak_let_reader.specs.Numbered.{fun_names}
use Rattle.ak_let_reader.specs.Places.{ArePlaces}
use Rattle.ak_let_reader.proofs.functions.Functions.of.Given as goal

abbrev pub invariant-loop-i : goal.invariant-loop-i
invariant-loop-i l = ArePlaces l.places.entries (fun_names (take l.i l.funs))
