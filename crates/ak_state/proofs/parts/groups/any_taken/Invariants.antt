use Rattle.std.proofs.Common.{◌≡◌, drop}
use Rattle.ak_state.specs.Groups.{any_takes}
use Rattle.ak_state.proofs.parts.groups.any_taken.Given as goal

-- those so far are empty
abbrev pub invariant-loop-i : goal.invariant-loop-i
invariant-loop-i l = record {
  same : l.cells ≡ l.initial.cells;
  taken : any_takes (drop l.i-index l.deferreds) l.to l.initial.cells.named ≡ any_takes l.deferreds l.to l.initial.cells.named;
}
