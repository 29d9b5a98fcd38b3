use Rattle.std.proofs.Common.{◌≡◌, ◌<◌, ◌∙◌, length, ap, sym, subst, arith, rules}
use Rattle.std.specs.Prelude.{pos, Some, None}
use Rattle.ak_cells.specs.Names.{name_in}
use Rattle.ak_throttle.specs.Throttle.{satisfied_taken}
use Rattle.ak_machine.specs.Deferred.{fill}
use Rattle.ak_state.specs.Seen.{Seen, doing}
use Rattle.ak_state.specs.Bodies.{stepped, first_done}
use Rattle.ak_state.proofs.Errors.{some_grown, seen_is}
use Rattle.ak_state.proofs.Ends.{done_drawn, done_fits, done_next, done_over, fewer_done}
use Rattle.ak_state.proofs.parts.Parts.fill_marks.Goals as goal

pub fill-requires : goal.fill-requires
fill-requires c =
    let s = c.loop-i.self
    in let i = name_in s.names c.in-Some.i
    in let first : first_done c.args.t s.plain ≡ Some i = sym c.in-Some.ensures.first
    in c.check_drawn.ensures
    (subst (λ (x : Seen). name_in x.names c.in-Some.i < length x.plain.cells.ivars) (sym c.next_done.ensures.rest)
    (done_drawn c.args.t i s.plain c.loop-i.invariant.fits first))

pub loop-i-smaller : goal.loop-i-smaller
loop-i-smaller c =
    let s = c.loop-i.self
    in let i = name_in s.names c.in-Some.i
    in let first : first_done c.args.t s.plain ≡ Some i = sym c.in-Some.ensures.first
    in let done : c.fill.new.self ≡ doing (fill i (pos 0)) (doing (stepped satisfied_taken c.args.t) s) =
    c.in_ok-fill.ensures.filled ∙ ap (λ (x : Seen). doing (fill (name_in x.names c.in-Some.i) (pos 0)) x) c.next_done.ensures.rest
    in rw done (fewer_done c.done_one_at_a_time_are_all_that_are_done.ensures c.args.t i s.plain c.loop-i.invariant.throttle first)

pub loop-i-preserved : goal.loop-i-preserved
loop-i-preserved c =
    let s = c.loop-i.self
    in let inv = c.loop-i.invariant
    in let i = name_in s.names c.in-Some.i
    in let first : first_done c.args.t s.plain ≡ Some i = sym c.in-Some.ensures.first
    in let done : c.fill.new.self ≡ doing (fill i (pos 0)) (doing (stepped satisfied_taken c.args.t) s) =
    c.in_ok-fill.ensures.filled ∙ ap (λ (x : Seen). doing (fill (name_in x.names c.in-Some.i) (pos 0)) x) c.next_done.ensures.rest
    in let grows = done_fits c.args.t i s.plain inv.fits
    in rw done (record {
      throttle = omega (arith, inv.throttle, grows.more.throttles);
      fits = some_grown s.plain (fill i (pos 0) (stepped satisfied_taken c.args.t s.plain)) inv.fits grows;
      names = inv.names;
      filled = done_next c.done_one_at_a_time_are_all_that_are_done.ensures c.args.t i s.plain inv.throttle first ∙ inv.filled;
    })

pub returns : goal.returns
returns c =
    let s = c.loop-i.self
    in let inv = c.loop-i.invariant
    in let none : first_done c.args.t s.plain ≡ None = sym c.in_default.ensures.first ∙ (search rules)
    in c.next_done.ensures.rest
    ∙ seen_is (doing (stepped satisfied_taken c.args.t) s) _
    (done_over c.done_one_at_a_time_are_all_that_are_done.ensures c.args.t s.plain none ∙ inv.filled) inv.names
