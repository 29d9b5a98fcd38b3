use Rattle.std.proofs.Common.{◌≡◌, ◌<◌, ◌∙◌, length, ap, sym, subst, rules}
use Rattle.std.specs.Prelude.{pos, Some, None}
use Rattle.ak_cells.specs.Names.{name_in}
use Rattle.ak_machine.specs.Deferred.{fill}
use Rattle.ak_state.specs.Seen.{Seen, doing}
use Rattle.ak_state.specs.Alarms.{first_due, without_alarm}
use Rattle.ak_state.proofs.Errors.{some_grown, seen_is}
use Rattle.ak_state.proofs.Alarms.{alarm_drawn, alarm_fits, alarm_next, alarms_over, fewer_due}
use Rattle.ak_state.proofs.parts.Parts.fill_alarms.Goals as goal

pub fill-requires : goal.fill-requires
fill-requires c =
    let s = c.loop-i.self
    in let i = name_in s.names c.in-Some.i
    in let first : first_due s.plain ≡ Some i = sym c.in-Some.ensures.first
    in c.check_drawn.ensures
    (subst (λ (x : Seen). name_in x.names c.in-Some.i < length x.plain.cells.ivars) (sym c.next_due.ensures.rest)
    (alarm_drawn s.plain i c.loop-i.invariant.fits first))

pub loop-i-smaller : goal.loop-i-smaller
loop-i-smaller c =
    let s = c.loop-i.self
    in let i = name_in s.names c.in-Some.i
    in let first : first_due s.plain ≡ Some i = sym c.in-Some.ensures.first
    in let done : c.fill.new.self ≡ doing (fill i (pos 0)) (doing without_alarm s) =
    c.in_ok-fill.ensures.filled ∙ ap (λ (x : Seen). doing (fill (name_in x.names c.in-Some.i) (pos 0)) x) c.next_due.ensures.rest
    in rw done (fewer_due c.due_one_at_a_time_gives_all_that_are_due.ensures s.plain i c.loop-i.invariant.fits first)

pub loop-i-preserved : goal.loop-i-preserved
loop-i-preserved c =
    let s = c.loop-i.self
    in let inv = c.loop-i.invariant
    in let i = name_in s.names c.in-Some.i
    in let first : first_due s.plain ≡ Some i = sym c.in-Some.ensures.first
    in let done : c.fill.new.self ≡ doing (fill i (pos 0)) (doing without_alarm s) =
    c.in_ok-fill.ensures.filled ∙ ap (λ (x : Seen). doing (fill (name_in x.names c.in-Some.i) (pos 0)) x) c.next_due.ensures.rest
    in rw done (record {
      fits = some_grown s.plain (fill i (pos 0) (without_alarm s.plain)) inv.fits (alarm_fits s.plain i inv.fits);
      names = inv.names;
      filled = alarm_next c.due_one_at_a_time_gives_all_that_are_due.ensures s.plain i inv.fits first ∙ inv.filled;
    })

pub returns : goal.returns
returns c =
    let s = c.loop-i.self
    in let inv = c.loop-i.invariant
    in let none : first_due s.plain ≡ None = sym c.in_default.ensures.first ∙ (search rules)
    in c.next_due.ensures.rest
    ∙ seen_is (doing without_alarm s) _
    (alarms_over c.due_one_at_a_time_gives_all_that_are_due.ensures s.plain inv.fits none ∙ inv.filled) inv.names
