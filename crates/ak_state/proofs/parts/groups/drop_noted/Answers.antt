use Rattle.std.proofs.Common.{◌≡◌, ◌∙◌, Some, sym}
use Rattle.ak_base.specs.Lists.{first_of}
use Rattle.ak_choice.specs.Groups.{group_in}
use Rattle.ak_state.proofs.Choices.{dropped_one}
use Rattle.ak_state.proofs.parts.groups.drop_noted.Goals as goal

pub loop-registration-preserved : goal.loop-registration-preserved
loop-registration-preserved c =
    let inv = c.loop-registration.invariant
    in let first : Some c.in-Some.registration ≡ first_of (group_in c.loop-registration.groups c.args.g).notes = sym c.in-Some.is ∙ c.next_note.ensures.front
    in let one = dropped_one c.notes_one_at_a_time_are_all_that_were_noted.ensures c.args.g c.in-Some.registration c.loop-registration.cells.named
    c.loop-registration.groups inv.there first
    in rw (c.next_note.ensures.rest, c.unregister.ensures)
    (record { there = one.there; cells = one.cells_left ∙ inv.cells; groups = one.groups_left ∙ inv.groups })
