use Rattle.std.proofs.Common.{◌≡◌}
use Rattle.ak_hub.specs.Calls.{HasOnlySeen}
use Rattle.ak_hub.specs.Hubs.{IsPassOf}
use Rattle.ak_hub.proofs.hub.Hub.answer_or_wait.Given as goal

abbrev pub invariant-loop : goal.invariant-loop
invariant-loop g l =
    IsPassOf l.self l.initial.pass.number l.pass × (l.pass.spare ≡ l.initial.pass.spare) × HasOnlySeen l.self l.initial.pass l.pass
