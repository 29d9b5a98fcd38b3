use Rattle.std.proofs.Common.{◌≡◌, drop}
use Rattle.ak_state.specs.Groups.{choice_takes}
use Rattle.ak_state.proofs.parts.groups.choice_taken.Given as goal

-- those so far are empty
abbrev pub invariant-loop-choice : goal.invariant-loop-choice
invariant-loop-choice l = record {
  same : l.cells ≡ l.initial.cells;
  taken : choice_takes (drop l.choice-index l.choices) l.vals l.to l.initial.cells.named
      ≡ choice_takes l.choices l.vals l.to l.initial.cells.named;
}
