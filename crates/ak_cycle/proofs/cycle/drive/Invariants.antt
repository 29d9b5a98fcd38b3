use Rattle.std.proofs.Common.{◌≡◌}
use Rattle.ak_cycle.specs.Turns.{GoesOn, left_where}
use Rattle.ak_cycle.proofs.cycle.drive.Given as goal

-- the run is under way, or is to be closed where it doesn't go on
abbrev pub invariant-loop-on : goal.invariant-loop-on
invariant-loop-on g l =
    record {
      goes : GoesOn l.on l.initial.world.program l.initial.world.config l.world (g.P.Port.asked l.port) (g.P.Port.replies l.port) (g.P.Port.waits l.port);
      threads : g.P.Port.threads l.port ≡ g.P.Port.threads l.initial.port;
      askers : g.P.Port.askers l.port ≡ g.P.Port.askers l.initial.port;
    }

abbrev pub decreases-loop-on : goal.decreases-loop-on
decreases-loop-on g l = left_where l.on l.world
