use Rattle.std.proofs.Common.{◌≡◌, ◌-◌}
use Rattle.ak_labor.specs.Value.{mixed}
use Rattle.ak_labor.proofs.labor.after_steps.Given as goal

abbrev pub invariant-loop : goal.invariant-loop
invariant-loop l = mixed (l.steps - l.counter) l.state ≡ mixed l.steps l.steps
