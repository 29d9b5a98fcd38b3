use Rattle.std.proofs.Common.{◌≡◌, drop, map}
use Rattle.ak_machine.specs.Cycle.{arrive_all}
use Rattle.ak_ledger.specs.Outside.{AreOut, work_kept}
use Rattle.ak_exec.specs.Worlds.{with_state}
use Rattle.ak_cycle.proofs.round.arrive_all.Given as goal

-- what is left comes to what all come to
abbrev pub invariant-loop-k : goal.invariant-loop-k
invariant-loop-k l =
    record {
      out : AreOut (map work_kept l.world.plain.works) (drop l.k l.arrivals.works);
      arrived : arrive_all l.arrivals.works l.initial.world.plain ≡ arrive_all (drop l.k l.arrivals.works) l.world.plain;
      world : l.world ≡ with_state l.world.plain l.initial.world;
    }
