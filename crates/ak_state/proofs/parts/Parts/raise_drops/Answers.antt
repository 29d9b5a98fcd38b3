use Rattle.std.proofs.Common.{◌≡◌, ◌∙◌, ap, sym, arith, rules}
use Rattle.std.specs.Prelude.{Some, None}
use Rattle.std.proofs.lemmas.List.{length-set}
use Rattle.ak_cells.specs.Names.{name_in}
use Rattle.ak_throttle.specs.Throttle.{dropped_taken}
use Rattle.ak_frames.specs.declared.frame.Frame.TheVariants.{Raise}
use Rattle.ak_machine.specs.Mapped.{body_mapped}
use Rattle.ak_machine.specs.Deferred.{enqueue, plain_task}
use Rattle.ak_machine.specs.Throttles.{throttle_at, drop_raised, dropped_error}
use Rattle.ak_state.specs.Seen.{Seen, doing}
use Rattle.ak_state.specs.Bodies.{stepped, first_dropped}
use Rattle.ak_state.proofs.Errors.{seen_is}
use Rattle.ak_state.proofs.Ends.{drop_next, drop_over, fewer_dropped}
use Rattle.ak_state.proofs.parts.Parts.raise_drops.Goals as goal

pub loop-body-smaller : goal.loop-body-smaller
loop-body-smaller c =
    let s = c.loop-body.self
    in let body = body_mapped (name_in s.names) c.in-Some.body
    in let first : first_dropped c.args.t s.plain ≡ Some body = sym c.in-Some.ensures.first
    in let done : c.enqueue.new.self ≡ doing (λ x. drop_raised x body) (doing (stepped dropped_taken c.args.t) s) =
    c.in_ok-enqueue.ensures ∙ ap (λ (x : Seen). doing (enqueue c.in-Some.body.ctx (plain_task (Raise dropped_error))) x) c.next_dropped.ensures.rest
    in rw done (fewer_dropped c.dropped_one_at_a_time_are_all_that_were_dropped.ensures c.args.t body s.plain c.loop-body.invariant.throttle first)

pub loop-body-preserved : goal.loop-body-preserved
loop-body-preserved c =
    let s = c.loop-body.self
    in let inv = c.loop-body.invariant
    in let body = body_mapped (name_in s.names) c.in-Some.body
    in let first : first_dropped c.args.t s.plain ≡ Some body = sym c.in-Some.ensures.first
    in let done : c.enqueue.new.self ≡ doing (λ x. drop_raised x body) (doing (stepped dropped_taken c.args.t) s) =
    c.in_ok-enqueue.ensures ∙ ap (λ (x : Seen). doing (enqueue c.in-Some.body.ctx (plain_task (Raise dropped_error))) x) c.next_dropped.ensures.rest
    in rw done (record {
      throttle = omega (arith, inv.throttle, length-set s.plain.throttles c.args.t (dropped_taken (throttle_at c.args.t s.plain)));
      names = inv.names;
      raised = drop_next c.dropped_one_at_a_time_are_all_that_were_dropped.ensures c.args.t body s.plain inv.throttle first ∙ inv.raised;
    })

pub returns : goal.returns
returns c =
    let s = c.loop-body.self
    in let inv = c.loop-body.invariant
    in let none : first_dropped c.args.t s.plain ≡ None = sym c.in_default.ensures.first ∙ (search rules)
    in c.next_dropped.ensures.rest
    ∙ seen_is (doing (stepped dropped_taken c.args.t) s) _
    (drop_over c.dropped_one_at_a_time_are_all_that_were_dropped.ensures c.args.t s.plain none ∙ inv.raised) inv.names
