use Rattle.std.proofs.Common.{◌≡◌, take}
use Rattle.std.specs.List.{flat_map}
use Rattle.ak_script.specs.declared.script.Kind.TheVariants.{Def}
use Rattle.ak_script.specs.declared.statement.Choice.{Choice}
use Rattle.ak_valid.specs.Uses.{local}
use Rattle.ak_valid.specs.Faults.{use_faults, least}
use Rattle.ak_valid.proofs.uses.choices.Given as goal

abbrev pub invariant-loop-choice : goal.invariant-loop-choice
invariant-loop-choice l = l.fault ≡ least (flat_map (λ (choice : Choice). use_faults l.locals (local choice.d Def)) (take l.choice-index l.choices))
