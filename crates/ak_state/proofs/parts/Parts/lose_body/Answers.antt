use Rattle.std.proofs.Common.{◌≡◌, ◌<◌, ◌∙◌, length, ap, sym, subst, arith}
use Rattle.std.specs.Prelude.{IfSome}
use Rattle.std.specs.Option.{option_map}
use Rattle.ak_cells.specs.Names.{name_in}
use Rattle.ak_throttle.specs.Throttle.{after_failure}
use Rattle.ak_machine.specs.Throttles.{front_called, drops_raised}
use Rattle.ak_state.specs.Seen.{Seen, doing}
use Rattle.ak_state.specs.Bodies.{stepped, front_mapped}
use Rattle.ak_state.proofs.Fitting.{then_grows}
use Rattle.ak_state.proofs.Bodies.{throttles_paired, front_lost, front_lost_grows, drops_grow}
use Rattle.ak_state.proofs.Errors.{some_grown}
use Rattle.ak_state.proofs.Ends.{failure_front_monitor}
use Rattle.ak_state.proofs.parts.Parts.lose_body.Goals as goal

pub start_front-requires-clause-throttle : goal.start_front-requires-clause-throttle
start_front-requires-clause-throttle c =
    let f = c.requires.fits
    in subst (λ (x : Seen). c.args.b.now.throttle < length x.plain.started) (sym c.take_failed-front.ensures.rest)
    (omega (arith, c.requires.throttle, throttles_paired f.program c.args.self.now.plain f.fits))

pub start_front-requires-clause-monitor : goal.start_front-requires-clause-monitor
start_front-requires-clause-monitor c =
    subst (λ (x : Seen). IfSome c.take_failed-front.result (λ y. y.1.ctx.mon < length x.plain.monitors)) (sym c.take_failed-front.ensures.rest)
    (failure_front_monitor (name_in c.args.self.now.names) c.args.b.now c.args.self.now.plain c.requires.fits c.take_failed-front.result
    c.take_failed-front.ensures.front)

pub fill_marks-requires-clause-throttle : goal.fill_marks-requires-clause-throttle
fill_marks-requires-clause-throttle c =
    let b = c.args.b.now
    in let s = c.args.self.now
    in let f = c.requires.fits
    in let lost : c.start_front.new.self ≡ doing (front_lost b) s =
    c.in_ok-start_front.ensures
    ∙ ap (λ (y : Seen). doing (front_called b.throttle (option_map (front_mapped (name_in y.names)) c.take_failed-front.result)) y)
    c.take_failed-front.ensures.rest
    ∙ ap (λ o. doing (λ t. front_called b.throttle o (stepped (after_failure b.no) b.throttle t)) s) c.take_failed-front.ensures.front
    in let raised : c.raise_drops.new.self ≡ doing (drops_raised b.throttle) (doing (front_lost b) s) =
    c.in_ok-raise_drops.ensures ∙ ap (doing (drops_raised b.throttle)) lost
    in let one = front_lost_grows f.program b s.plain f.fits c.requires.runs c.requires.over
    in let two = drops_grow f.program b.throttle (front_lost b s.plain) one.fits
    in rw raised (omega (arith, c.requires.throttle, one.more.throttles, two.more.throttles))

pub fill_marks-requires-clause-fits : goal.fill_marks-requires-clause-fits
fill_marks-requires-clause-fits c =
    let b = c.args.b.now
    in let s = c.args.self.now
    in let f = c.requires.fits
    in let lost : c.start_front.new.self ≡ doing (front_lost b) s =
    c.in_ok-start_front.ensures
    ∙ ap (λ (y : Seen). doing (front_called b.throttle (option_map (front_mapped (name_in y.names)) c.take_failed-front.result)) y)
    c.take_failed-front.ensures.rest
    ∙ ap (λ o. doing (λ t. front_called b.throttle o (stepped (after_failure b.no) b.throttle t)) s) c.take_failed-front.ensures.front
    in let raised : c.raise_drops.new.self ≡ doing (drops_raised b.throttle) (doing (front_lost b) s) =
    c.in_ok-raise_drops.ensures ∙ ap (doing (drops_raised b.throttle)) lost
    in let one = front_lost_grows f.program b s.plain f.fits c.requires.runs c.requires.over
    in let t = front_lost b s.plain
    in rw raised (some_grown s.plain (drops_raised b.throttle t) f
    (then_grows f.program s.plain t (drops_raised b.throttle t) one (drops_grow f.program b.throttle t one.fits)))
