use Rattle.std.proofs.Common.{◌≡◌, ◌<◌, ◌∙◌, length, ap, sym, subst, arith, rules}
use Rattle.std.specs.Prelude.{pos, Some, None}
use Rattle.ak_cells.specs.Names.{name_in}
use Rattle.ak_pipe.specs.Pipe.{freed_taken}
use Rattle.ak_machine.specs.Deferred.{fill}
use Rattle.ak_state.specs.Seen.{Seen, doing}
use Rattle.ak_state.specs.Streams.{piped, first_freed}
use Rattle.ak_state.proofs.Errors.{some_grown, seen_is}
use Rattle.ak_state.proofs.Streams.{freed_drawn, freed_fits, free_next, free_over, fewer_freed}
use Rattle.ak_state.proofs.parts.Parts.free_pushbacks.Goals as goal

pub fill-requires : goal.fill-requires
fill-requires c =
    let s = c.loop-i.self
    in let i = name_in s.names c.in-Some.i
    in let first : first_freed c.args.p s.plain ≡ Some i = sym c.in-Some.ensures.first
    in c.check_drawn.ensures
    (subst (λ (x : Seen). name_in x.names c.in-Some.i < length x.plain.cells.ivars) (sym c.next_free.ensures.rest)
    (freed_drawn c.args.p i s.plain c.loop-i.invariant.fits first))

pub loop-i-smaller : goal.loop-i-smaller
loop-i-smaller c =
    let s = c.loop-i.self
    in let i = name_in s.names c.in-Some.i
    in let first : first_freed c.args.p s.plain ≡ Some i = sym c.in-Some.ensures.first
    in let done : c.fill.new.self ≡ doing (fill i (pos 0)) (doing (piped freed_taken c.args.p) s) =
    c.in_ok-fill.ensures.filled ∙ ap (λ (x : Seen). doing (fill (name_in x.names c.in-Some.i) (pos 0)) x) c.next_free.ensures.rest
    in rw done (fewer_freed c.pushbacks_one_at_a_time_are_all_that_are_freed.ensures c.args.p i s.plain c.loop-i.invariant.pipe first)

pub loop-i-preserved : goal.loop-i-preserved
loop-i-preserved c =
    let s = c.loop-i.self
    in let inv = c.loop-i.invariant
    in let i = name_in s.names c.in-Some.i
    in let first : first_freed c.args.p s.plain ≡ Some i = sym c.in-Some.ensures.first
    in let done : c.fill.new.self ≡ doing (fill i (pos 0)) (doing (piped freed_taken c.args.p) s) =
    c.in_ok-fill.ensures.filled ∙ ap (λ (x : Seen). doing (fill (name_in x.names c.in-Some.i) (pos 0)) x) c.next_free.ensures.rest
    in let grows = freed_fits c.args.p i s.plain inv.fits
    in rw done (record {
      pipe = omega (arith, inv.pipe, grows.more.pipes);
      fits = some_grown s.plain (fill i (pos 0) (piped freed_taken c.args.p s.plain)) inv.fits grows;
      names = inv.names;
      filled = free_next c.pushbacks_one_at_a_time_are_all_that_are_freed.ensures c.args.p i s.plain inv.pipe first ∙ inv.filled;
    })

pub returns : goal.returns
returns c =
    let s = c.loop-i.self
    in let inv = c.loop-i.invariant
    in let none : first_freed c.args.p s.plain ≡ None = sym c.in_default.ensures.first ∙ (search rules)
    in c.next_free.ensures.rest
    ∙ seen_is (doing (piped freed_taken c.args.p) s) _
    (free_over c.pushbacks_one_at_a_time_are_all_that_are_freed.ensures c.args.p s.plain none ∙ inv.filled) inv.names
