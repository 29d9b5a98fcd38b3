use Rattle.std.proofs.Common.{ap, ◌∙◌}
use Rattle.ak_choice.specs.Groups.{group_in}
use Rattle.ak_state.specs.Seen.{other_lists, doing}
use Rattle.ak_state.proofs.Stands.{seen_as}
use Rattle.ak_state.proofs.Choices.{seen_dropped, decided_left, kept_without, left_by_notes}
use Rattle.ak_state.proofs.parts.Parts.decide_choice.Goals as goal

pub invariant_of-self : goal.invariant_of-self
invariant_of-self c =
    rw c.drop_noted.ensures.cells
    (kept_without (group_in c.self.inside.lists.groups c.args.g).notes c.self.inside.cells.named c.self.invariant)

pub returns : goal.returns
returns c =
    rw (c.drop_noted.ensures.cells, c.drop_noted.ensures.groups)
    (seen_dropped c.self.inside.cells.named c.self.inside.queues.queues c.self.inside.trace (other_lists c.self.inside.lists) c.args.g
    ∙ ap (doing (left_by_notes c.args.g)) (c.self.view_is ∙ c.decide.ensures)
    ∙ ap (seen_as c.args.self.now.names) (decided_left c.args.g c.args.self.now.plain))
