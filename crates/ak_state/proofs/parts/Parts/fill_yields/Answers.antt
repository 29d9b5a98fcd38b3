use Rattle.std.proofs.Common.{◌≡◌, ◌∙◌, ap, sym}
use Rattle.std.specs.Prelude.{pos, Some}
use Rattle.ak_cells.specs.Names.{name_in}
use Rattle.ak_machine.specs.Deferred.{fill}
use Rattle.ak_state.specs.Seen.{Seen, doing}
use Rattle.ak_state.specs.Alarms.{first_yield, without_yield}
use Rattle.ak_state.proofs.Errors.{some_grown}
use Rattle.ak_state.proofs.Alarms.{yield_fits, yield_next, fewer_yields}
use Rattle.ak_state.proofs.parts.Parts.fill_yields.Goals as goal

pub loop-i-smaller : goal.loop-i-smaller
loop-i-smaller c =
    let s = c.loop-i.self
    in let i = name_in s.names c.in-Some.i
    in let first : first_yield s.plain ≡ Some i = sym c.in-Some.ensures.first
    in let done : c.fill.new.self ≡ doing (fill i (pos 0)) (doing without_yield s) =
    c.in_ok-fill.ensures.filled ∙ ap (λ (x : Seen). doing (fill (name_in x.names c.in-Some.i) (pos 0)) x) c.next_yield.ensures.rest
    in rw done (fewer_yields s.plain i first)

pub loop-i-preserved : goal.loop-i-preserved
loop-i-preserved c =
    let s = c.loop-i.self
    in let inv = c.loop-i.invariant
    in let i = name_in s.names c.in-Some.i
    in let first : first_yield s.plain ≡ Some i = sym c.in-Some.ensures.first
    in let done : c.fill.new.self ≡ doing (fill i (pos 0)) (doing without_yield s) =
    c.in_ok-fill.ensures.filled ∙ ap (λ (x : Seen). doing (fill (name_in x.names c.in-Some.i) (pos 0)) x) c.next_yield.ensures.rest
    in rw done (record {
      fits = some_grown s.plain (fill i (pos 0) (without_yield s.plain)) inv.fits (yield_fits s.plain i inv.fits);
      names = inv.names;
      filled = yield_next s.plain i first ∙ inv.filled;
    })
