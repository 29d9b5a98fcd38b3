use Rattle.std.proofs.Common.{◌≡◌, List, ℕ, take}
use Rattle.std.specs.List.{flat_map}
use Rattle.ak_script.specs.declared.script.Kind.TheVariants.{Def}
use Rattle.ak_valid.specs.Uses.{local}
use Rattle.ak_valid.specs.Faults.{use_faults, least}
use Rattle.ak_valid.proofs.uses.deferreds.Given as goal

abbrev pub invariant-loop-name : goal.invariant-loop-name
invariant-loop-name l = l.fault ≡ least (flat_map (λ (d : List ℕ). use_faults l.locals (local d Def)) (take l.name-index l.names))
