use Rattle.std.proofs.Common.{◌≡◌, ◌<◌, length, map, take}
use Rattle.std.specs.List.{All}
use Rattle.ak_cells.specs.Names.{name_in}
use Rattle.ak_machine.specs.Effect.{name_in as name_at}
use Rattle.ak_state.specs.Reads.{named}
use Rattle.ak_state.proofs.parts.Parts.deferreds_at.Given as goal

abbrev pub invariant-loop-k : goal.invariant-loop-k
invariant-loop-k l = record {
  names : map (name_in l.self.names) l.ivars.items ≡ map (name_at (named l.self l.vals)) (take l.k-index l.k-items);
  drawn : All (λ i. i < length l.self.plain.cells.ivars) l.ivars.items;
}
