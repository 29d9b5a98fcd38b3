use Rattle.std.proofs.Common.{◌≡◌, ◌<◌, length, map, take}
use Rattle.std.specs.List.{All}
use Rattle.ak_cells.specs.Names.{name_in}
use Rattle.ak_machine.specs.declared.held.Choosable.{Choosable}
use Rattle.ak_machine.specs.Mapped.{choosable_mapped}
use Rattle.ak_machine.specs.Statement.{choosable}
use Rattle.ak_state.specs.Reads.{named}
use Rattle.ak_state.proofs.parts.Parts.choices_at.Given as goal

abbrev pub invariant-loop-choice : goal.invariant-loop-choice
invariant-loop-choice l = record {
  choices : map (choosable_mapped (name_in l.self.names)) l.all.items ≡ map (choosable (named l.self l.vals)) (take l.choice-index l.choice-items);
  drawn : All (λ (choice : Choosable). choice.deferred < length l.self.plain.cells.ivars) l.all.items;
}
