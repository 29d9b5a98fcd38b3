use Rattle.ak_replay.proofs.Ways.{AreAlike, seen, can_count, expect_goes, expect_passes}
use Rattle.ak_replay.proofs.port.ReplayPort.expect.Goals as goal

pub count-requires : goal.count-requires
count-requires g c =
    let p = c.self.inside in
    let walked = rw (← c.self.view_is) at c.find.ensures.walked in
    let found = rw (← c.self.view_is) at c.in_ok-find.ensures.found in
    can_count c.args.self.now p c.args.ask c.self.invariant.kept walked c.requires.room found.0

pub invariant_of-self : goal.invariant_of-self
invariant_of-self g c =
    let p = c.self.inside in
    let found = rw (← c.self.view_is) at c.in_ok-find.ensures.found in
    record {
      named = c.self.invariant.named;
      kept = expect_goes p c.args.ask c.count.new.self c.self.invariant.kept found.1 found.0 c.requires.no_drain c.count.ensures;
    }

pub returns-clause-ok : goal.returns-clause-ok
returns-clause-ok g c =
    let p = c.self.inside in
    let walked = rw (← c.self.view_is) at c.find.ensures.walked in
    let found = rw (← c.self.view_is) at c.in_ok-find.ensures.found in
    let same : AreAlike c.args.self.now (seen p) = rw (← c.self.view_is) at c.find.ensures.same in
    expect_passes c.args.self.now p c.args.ask c.count.new.self c.self.invariant.kept same walked c.requires.open found.1 found.0
    c.requires.no_drain c.count.ensures
