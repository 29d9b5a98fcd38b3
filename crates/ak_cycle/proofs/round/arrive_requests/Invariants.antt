use Rattle.std.proofs.Common.{◌≡◌, drop}
use Rattle.ak_machine.specs.Cycle.{requests_served}
use Rattle.ak_exec.specs.Worlds.{with_state}
use Rattle.ak_cycle.specs.Turns.{MayBeServed, AreNext}
use Rattle.ak_cycle.proofs.round.arrive_requests.Given as goal

-- what is left comes to what all come to
abbrev pub invariant-loop-k : goal.invariant-loop-k
invariant-loop-k l =
    record {
      served : MayBeServed l.world.program.ask (drop l.k l.arrivals.requests);
      next : AreNext (drop l.k l.arrivals.requests) l.world.plain;
      arrived : requests_served l.initial.world.program.ask l.arrivals.requests l.initial.world.plain
          ≡ requests_served l.world.program.ask (drop l.k l.arrivals.requests) l.world.plain;
      world : l.world ≡ with_state l.world.plain l.initial.world;
    }
