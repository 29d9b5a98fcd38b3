use Rattle.std.proofs.Common.{◌≡◌, ◌∙◌, Some, None, false, sym, ap}
use Rattle.ak_machine.specs.Cycle.{has_more}
use Rattle.ak_exec.specs.Worlds.{Worldly}
use Rattle.ak_cycle.specs.Turns.{ending_of, may_come}
use Rattle.ak_cycle.proofs.Rounds.{may_wait, cycle_at, cycle_comes, end_over, wait_at, waited_least}
use Rattle.ak_cycle.proofs.round.end_cycle.Goals as goal

pub returns-then-more-clause-on : goal.returns-then-more-clause-on
returns-then-more-clause-on g c =
    cycle_at _ _ _ c.begin_cycle.new.world _ _ _ c.requires.served c.requires.pick (sym c.more.ensures ∙ c.if-more.true) c.in_ok-begin_cycle.ensures.world

pub returns-then-more-clause-come : goal.returns-then-more-clause-come
returns-then-more-clause-come g c =
    ap (λ (w : Worldly). may_come w.plain) c.in_ok-begin_cycle.ensures.world ∙ cycle_comes c.args.world.now.plain

pub returns-in_ok-finish-in-Some-clause-on : goal.returns-in_ok-finish-in-Some-clause-on
returns-in_ok-finish-in-Some-clause-on g c =
    let more : has_more c.args.world.now.plain ≡ false = sym c.more.ensures ∙ c.if-more.false
    in let ends : ending_of c.args.world.now.config.threads c.args.world.now.plain ≡ Some c.in-Some.why = sym c.ending.ensures ∙ c.in-Some.is
    in end_over _ _ _ c.finish.new.world _ _ _ c.requires.served c.requires.pick c.in-Some.why more ends c.in_ok-finish-in-Some.ensures.ok

pub wait-requires-clause-some : goal.wait-requires-clause-some
wait-requires-clause-some g c =
    let goes : ending_of c.args.world.now.config.threads c.args.world.now.plain ≡ None = sym c.ending.ensures ∙ c.in-None.is
    in may_wait _ _ c.args.world.now _ _ _ _ _ c.requires.served c.requires.threads c.requires.askers goes

pub returns-in_ok-begin_cycle-in-None-clause-left : goal.returns-in_ok-begin_cycle-in-None-clause-left
returns-in_ok-begin_cycle-in-None-clause-left g c on =
    let more : has_more c.args.world.now.plain ≡ false = sym c.more.ensures ∙ c.if-more.false
    in waited_least c.args.world.now c.begin_cycle-in-None.new.world _ _ _ _ c.in_ok-wait-in-None.ensures.asked c.in_ok-wait-in-None.ensures.ok more
    c.in_ok-begin_cycle-in-None.ensures.picks

pub returns-in_ok-begin_cycle-in-None-clause-on : goal.returns-in_ok-begin_cycle-in-None-clause-on
returns-in_ok-begin_cycle-in-None-clause-on g c =
    let more : has_more c.args.world.now.plain ≡ false = sym c.more.ensures ∙ c.if-more.false
    in let goes : ending_of c.args.world.now.config.threads c.args.world.now.plain ≡ None = sym c.ending.ensures ∙ c.in-None.is
    in wait_at _ _ c.args.world.now c.begin_cycle-in-None.new.world _ _ _ c.requires.served c.requires.pick _ _ _ more goes
    c.in_ok-wait-in-None.ensures.asked c.in_ok-wait-in-None.ensures.replies c.in_ok-wait-in-None.ensures.ok
    c.in_ok-begin_cycle-in-None.ensures.world
