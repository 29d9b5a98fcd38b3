use Rattle.std.proofs.Common.{◌≡◌, ◌<◌, length}
use Rattle.ak_choice.specs.Groups.{group_in, without_notes}
use Rattle.ak_state.specs.Groups.{without_handlers}
use Rattle.ak_state.proofs.parts.groups.drop_noted.Given as goal

-- those that are left come to what all come to
abbrev pub invariant-loop-registration : goal.invariant-loop-registration
invariant-loop-registration l = record {
  there : l.g < length l.groups;
  cells : without_handlers (group_in l.groups l.g).notes l.cells.named
      ≡ without_handlers (group_in l.initial.groups l.g).notes l.initial.cells.named;
  groups : without_notes l.g l.groups ≡ without_notes l.g l.initial.groups;
}

abbrev pub decreases-loop-registration : goal.decreases-loop-registration
decreases-loop-registration l = length (group_in l.groups l.g).notes
