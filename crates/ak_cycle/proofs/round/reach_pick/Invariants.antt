use Rattle.std.proofs.Common.{◌≡◌}
use Rattle.ak_cycle.specs.Turns.{IsAt, has_waited, rounds_left}
use Rattle.ak_cycle.proofs.round.reach_pick.Given as goal

-- a drain comes next
abbrev pub invariant-loop-arrivals : goal.invariant-loop-arrivals
invariant-loop-arrivals g l =
    record {
      at : IsAt l.initial.world.program l.initial.world.config l.world (g.P.Port.asked l.port) (g.P.Port.replies l.port) (g.P.Port.waits l.port);
      ran : l.world.ran ≡ l.initial.world.ran;
      threads : g.P.Port.threads l.port ≡ g.P.Port.threads l.initial.port;
      askers : g.P.Port.askers l.port ≡ g.P.Port.askers l.initial.port;
    }

abbrev pub decreases-loop-arrivals : goal.decreases-loop-arrivals
decreases-loop-arrivals g l = rounds_left l.world (has_waited (g.P.Port.asked l.port) (g.P.Port.waits l.port)) (g.P.Port.turns l.port)
