use Rattle.std.proofs.Common.{◌<◌, ◌∙◌, length, ap, sym, subst, arith}
use Rattle.std.specs.Prelude.{IfSome}
use Rattle.std.specs.Option.{option_map}
use Rattle.ak_cells.specs.Names.{name_in}
use Rattle.ak_throttle.specs.Throttle.{after_end}
use Rattle.ak_machine.specs.Throttles.{front_called}
use Rattle.ak_state.specs.Seen.{Seen, doing}
use Rattle.ak_state.specs.Bodies.{stepped, front_mapped}
use Rattle.ak_state.proofs.Bodies.{throttles_paired}
use Rattle.ak_state.proofs.Ends.{end_front_monitor}
use Rattle.ak_state.proofs.parts.Parts.leave_body.Goals as goal

pub start_front-requires-clause-throttle : goal.start_front-requires-clause-throttle
start_front-requires-clause-throttle c =
    let f = c.requires.fits
    in subst (λ (x : Seen). c.args.b.now.throttle < length x.plain.started) (sym c.take_ended-front.ensures.rest)
    (omega (arith, c.requires.throttle, throttles_paired f.program c.args.self.now.plain f.fits))

pub start_front-requires-clause-monitor : goal.start_front-requires-clause-monitor
start_front-requires-clause-monitor c =
    subst (λ (x : Seen). IfSome c.take_ended-front.result (λ y. y.1.ctx.mon < length x.plain.monitors)) (sym c.take_ended-front.ensures.rest)
    (end_front_monitor (name_in c.args.self.now.names) c.args.b.now c.args.self.now.plain c.requires.fits c.take_ended-front.result
    c.take_ended-front.ensures.front)

pub returns : goal.returns
returns c =
    let b = c.args.b.now
    in let s = c.args.self.now
    in c.in_ok-start_front.ensures
    ∙ ap (λ (y : Seen). doing (front_called b.throttle (option_map (front_mapped (name_in y.names)) c.take_ended-front.result)) y)
    c.take_ended-front.ensures.rest
    ∙ ap (λ o. doing (λ t. front_called b.throttle o (stepped (after_end b.no) b.throttle t)) s) c.take_ended-front.ensures.front
