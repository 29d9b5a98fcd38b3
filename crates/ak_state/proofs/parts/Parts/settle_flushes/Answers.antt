use Rattle.std.proofs.Common.{◌≡◌, ◌<◌, ◌∙◌, length, ap, sym, subst, arith, rules, w64, to_z, of_z, SFits}
use Rattle.std.specs.Prelude.{ℤ, Some, None}
use Rattle.std.proofs.lemmas.Int.{to_z-of_z}
use Rattle.ak_cells.specs.Names.{name_in}
use Rattle.ak_pipe.specs.Pipe.{settled_taken}
use Rattle.ak_machine.specs.Deferred.{fill}
use Rattle.ak_state.specs.Seen.{Seen, doing}
use Rattle.ak_state.specs.Streams.{piped, first_settled}
use Rattle.ak_state.proofs.Errors.{some_grown, seen_is}
use Rattle.ak_state.proofs.Streams.{settled_drawn, settled_fits, settle_next, settle_over, fewer_settled}
use Rattle.ak_state.proofs.parts.Parts.settle_flushes.Goals as goal

pub fill-requires : goal.fill-requires
fill-requires c =
    let s = c.loop-settled.self
    in let i = name_in s.names c.in-Some.settled.0
    in let first : first_settled c.args.p s.plain ≡ Some (i, c.in-Some.settled.1) = sym c.in-Some.ensures.first
    in c.check_drawn.ensures
    (subst (λ (x : Seen). name_in x.names c.in-Some.settled.0 < length x.plain.cells.ivars) (sym c.next_flushed.ensures.rest)
    (settled_drawn c.args.p i c.in-Some.settled.1 s.plain c.loop-settled.invariant.fits first))

pub loop-settled-smaller : goal.loop-settled-smaller
loop-settled-smaller c =
    let s = c.loop-settled.self
    in let i = name_in s.names c.in-Some.settled.0
    in let v : ℤ = c.in-Some.settled.1
    in let range : SFits w64 v = search rules
    in let z : to_z w64 (of_z w64 v) ≡ v = to_z-of_z w64 v range
    in let first : first_settled c.args.p s.plain ≡ Some (i, v) = sym c.in-Some.ensures.first
    in let done : c.fill.new.self ≡ doing (fill i v) (doing (piped settled_taken c.args.p) s) =
    c.in_ok-fill.ensures.filled
    ∙ ap (λ (n : ℤ). doing (fill (name_in c.next_flushed.new.self.names c.in-Some.settled.0) n) c.next_flushed.new.self) z
    ∙ ap (λ (x : Seen). doing (fill (name_in x.names c.in-Some.settled.0) v) x) c.next_flushed.ensures.rest
    in rw done (fewer_settled c.flushes_one_at_a_time_are_all_that_are_settled.ensures c.args.p i v s.plain c.loop-settled.invariant.pipe first)

pub loop-settled-preserved : goal.loop-settled-preserved
loop-settled-preserved c =
    let s = c.loop-settled.self
    in let inv = c.loop-settled.invariant
    in let i = name_in s.names c.in-Some.settled.0
    in let v : ℤ = c.in-Some.settled.1
    in let range : SFits w64 v = search rules
    in let z : to_z w64 (of_z w64 v) ≡ v = to_z-of_z w64 v range
    in let first : first_settled c.args.p s.plain ≡ Some (i, v) = sym c.in-Some.ensures.first
    in let done : c.fill.new.self ≡ doing (fill i v) (doing (piped settled_taken c.args.p) s) =
    c.in_ok-fill.ensures.filled
    ∙ ap (λ (n : ℤ). doing (fill (name_in c.next_flushed.new.self.names c.in-Some.settled.0) n) c.next_flushed.new.self) z
    ∙ ap (λ (x : Seen). doing (fill (name_in x.names c.in-Some.settled.0) v) x) c.next_flushed.ensures.rest
    in let grows = settled_fits c.args.p i v s.plain inv.fits
    in rw done (record {
      pipe = omega (arith, inv.pipe, grows.more.pipes);
      fits = some_grown s.plain (fill i v (piped settled_taken c.args.p s.plain)) inv.fits grows;
      names = inv.names;
      filled = settle_next c.flushes_one_at_a_time_are_all_that_are_settled.ensures c.args.p i v s.plain inv.pipe first ∙ inv.filled;
    })

pub returns : goal.returns
returns c =
    let s = c.loop-settled.self
    in let inv = c.loop-settled.invariant
    in let none : first_settled c.args.p s.plain ≡ None = sym c.in_default.ensures.first ∙ (search rules)
    in c.next_flushed.ensures.rest
    ∙ seen_is (doing (piped settled_taken c.args.p) s) _
    (settle_over c.flushes_one_at_a_time_are_all_that_are_settled.ensures c.args.p s.plain none ∙ inv.filled) inv.names
