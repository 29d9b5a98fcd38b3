use Rattle.std.proofs.Common.{◌≡◌, ◌∙◌, [], inr, rules}
use Rattle.ak_labor.specs.declared.ask.Ask.TheVariants as ask
use Rattle.ak_replay.proofs.Ways.{AreAlike, seen, can_count, before_drain, drain_goes, drain_passes, drain_arrives, drain_serves, drain_turns}
use Rattle.ak_replay.proofs.port.ReplayPortPort.drain.Goals as goal

pub count-requires : goal.count-requires
count-requires g c =
    let p = c.self.inside in
    let walked = rw (← c.self.view_is) at c.find.ensures.walked in
    let found = rw (← c.self.view_is) at c.in_ok-find.ensures.found in
    can_count c.args.self.now p ask.Drain c.self.invariant.kept walked tt found.0

pub invariant_of-self : goal.invariant_of-self
invariant_of-self g c =
    let p = c.self.inside in
    let found = rw (← c.self.view_is) at c.in_ok-find.ensures.found in
    let left : c.set_left.new.self ≡ record { works = []; requests = []; left = p.due.left } = search rules in
    record {
      named = c.self.invariant.named;
      kept = drain_goes p c.count.new.self c.set_left.new.self c.self.invariant.kept found.1 found.0 c.count.ensures left;
    }

pub returns-clause-asked : goal.returns-clause-asked
returns-clause-asked g c =
    let p = c.self.inside in
    let walked = rw (← c.self.view_is) at c.find.ensures.walked in
    let found = rw (← c.self.view_is) at c.in_ok-find.ensures.found in
    let same : AreAlike c.args.self.now (seen p) = rw (← c.self.view_is) at c.find.ensures.same in
    let brings : c.swap.new.x ≡ p.due = search rules in
    drain_passes c.args.self.now p c.count.new.self c.swap.new.x c.self.invariant.kept same walked c.requires found.1 found.0
    c.count.ensures brings

pub returns-clause-arrive : goal.returns-clause-arrive
returns-clause-arrive g c =
    let p = c.self.inside in
    let walked = rw (← c.self.view_is) at c.find.ensures.walked in
    let same : AreAlike c.args.self.now (seen p) = rw (← c.self.view_is) at c.find.ensures.same in
    let brings : c.swap.new.x ≡ p.due = search rules in
    drain_arrives c.args.self.now p c.swap.new.x (before_drain c.args.self.now p c.self.invariant.kept same walked c.requires)
    (brings ∙ c.self.invariant.kept.due)

pub returns-clause-serves : goal.returns-clause-serves
returns-clause-serves g c =
    let p = c.self.inside in
    let walked = rw (← c.self.view_is) at c.find.ensures.walked in
    let same : AreAlike c.args.self.now (seen p) = rw (← c.self.view_is) at c.find.ensures.same in
    let brings : c.swap.new.x ≡ p.due = search rules in
    drain_serves c.args.self.now p c.swap.new.x (before_drain c.args.self.now p c.self.invariant.kept same walked c.requires)
    (brings ∙ c.self.invariant.kept.due)

pub returns-clause-woken : goal.returns-clause-woken
returns-clause-woken g c =
    let p = c.self.inside in
    let walked = rw (← c.self.view_is) at c.find.ensures.walked in
    let found = rw (← c.self.view_is) at c.in_ok-find.ensures.found in
    let same : AreAlike c.args.self.now (seen p) = rw (← c.self.view_is) at c.find.ensures.same in
    λ waited. inr (drain_turns c.args.self.now p c.count.new.self c.self.invariant.kept same walked found.0 c.count.ensures)
