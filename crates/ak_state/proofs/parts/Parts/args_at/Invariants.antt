use Rattle.std.proofs.Common.{◌≡◌, take}
use Rattle.ak_cells.specs.Names.{name_in}
use Rattle.ak_machine.specs.Effect.{args_of}
use Rattle.ak_machine.specs.Mapped.{values_mapped}
use Rattle.ak_state.specs.Reads.{named}
use Rattle.ak_state.proofs.parts.Parts.args_at.Given as goal

abbrev pub invariant-loop-atom : goal.invariant-loop-atom
invariant-loop-atom l = values_mapped (name_in l.self.names) l.values.items ≡ args_of (named l.self l.vals) (take l.atom-index l.atom-items)
