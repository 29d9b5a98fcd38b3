use Rattle.std.proofs.Common.{◌≡◌, take}
use Rattle.std.specs.List.{flat_map}
use Rattle.ak_script.specs.declared.statement.Choice.{Choice}
use Rattle.ak_valid.specs.Faults.{least, callee_faults}
use Rattle.ak_valid.proofs.calls.choices.Given as goal

abbrev pub invariant-loop-choice : goal.invariant-loop-choice
invariant-loop-choice l = l.fault
    ≡ least (flat_map (λ (choice : Choice). callee_faults l.procs l.locals (record { name = choice.proc; front = 1; args = l.args }))
    (take l.choice-index l.choices))
