use Rattle.std.proofs.Common.{ℕ, List, length, ap, ◌∙◌}
use Rattle.ak_cells.specs.Names.{name_in}
use Rattle.ak_machine.specs.declared.held.Choosable.{Choosable}
use Rattle.ak_machine.specs.declared.held.Purpose.TheVariants.{ForChoice}
use Rattle.ak_machine.specs.Groups.{with_group, choice_registered}
use Rattle.ak_machine.specs.Mapped.{purpose_mapped}
use Rattle.ak_state.specs.Seen.{doing}
use Rattle.ak_state.proofs.Choices.{choice_seen, deferreds_mapped}
use Rattle.ak_state.proofs.parts.Parts.begin_choice.Goals as goal

pub returns : goal.returns
returns c =
    let items = c.as_slice-choice-items.ensures
    in let f = name_in c.args.self.now.names
    in let purpose = ForChoice c.args.choices c.args.vals c.args.to
    in choice_seen c.args.ctx.now c.in_ok-group.group (λ (ns : List ℕ). λ (choice : Choosable). name_in ns choice.deferred) c.args.choices
    c.loop-choice.choice-index purpose c.args.self.now c.begin_group.new.self c.loop-choice.self c.keep_purpose.new.self c.in_ok-group.ensures.fresh
    c.in_ok-group.ensures.number c.loop-choice.invariant.names (rw items at c.loop-choice-test.false) (rw items at c.loop-choice.invariant.registered)
    c.in_ok-keep_purpose.ensures
    ∙ ap (λ is. doing (λ s. choice_registered c.args.ctx.now (length s.groups) is (with_group 0 (purpose_mapped f purpose) s)) c.args.self.now)
    (deferreds_mapped f c.args.choices)
