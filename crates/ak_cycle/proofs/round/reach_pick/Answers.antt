use Rattle.std.proofs.Common.{◌≡◌, ◌∙◌, Bool, false, sym}
use Rattle.ak_rings.specs.Queues.{has_pick}
use Rattle.ak_cycle.specs.Turns.{has_waited}
use Rattle.ak_cycle.proofs.Rounds.{rounds_fewer}
use Rattle.ak_cycle.proofs.round.reach_pick.Goals as goal

pub loop-arrivals-smaller : goal.loop-arrivals-smaller
loop-arrivals-smaller g c =
    let none : has_pick c.fetch.new.world.plain.queues ≡ false = sym c.can_pick.ensures ∙ c.if-can_pick.false
    in let asked = g.P.Port.asked c.loop-arrivals.port
    in let waits = g.P.Port.waits c.loop-arrivals.port
    in let waited : Bool = has_waited (g.P.Port.asked c.end_cycle.new.port) (g.P.Port.waits c.end_cycle.new.port)
    in rounds_fewer c.loop-arrivals.world c.fetch.new.world c.end_cycle.new.world asked waits waited (g.P.Port.turns c.loop-arrivals.port)
    (g.P.Port.turns c.fetch.new.port) (g.P.Port.turns c.end_cycle.new.port)
    (c.in_ok-fetch.ensures.gained c.if-not-branch.false) c.fetch.ensures.turns c.end_cycle.ensures.turns none c.in_ok-end_cycle.ensures.come
    (c.in_ok-end_cycle.ensures.left c.if-not-branch-2.false)
