use Rattle.std.proofs.Common.{arith}
use Rattle.ak_rings.proofs.Order.{cycle_begins}
use Rattle.ak_rings.proofs.rings.Rings.reset.Goals as goal

pub returns-clause-picks : goal.returns-clause-picks
returns-clause-picks g c =
    rw (← c.self.view_is)
    (cycle_begins (record {
      normal = c.self.inside.normal.items;
      low = c.self.inside.low.items;
      normal_ran = c.self.inside.normal_ran;
      low_ran = c.self.inside.low_ran;
      limit = c.self.inside.limit;
      next = c.self.inside.next;
    }) (omega (arith, c.self.invariant.2)))
