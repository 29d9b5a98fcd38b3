use Rattle.std.proofs.Common.{◌≡◌, length, map, drop}
use Rattle.ak_cells.specs.Names.{name_in}
use Rattle.ak_machine.specs.Groups.{all_registered}
use Rattle.ak_state.proofs.parts.Parts.begin_all.Given as goal

-- those that are left come to what all come to
abbrev pub invariant-loop-k : goal.invariant-loop-k
invariant-loop-k l = record {
  ivars : length l.self.plain.cells.ivars ≡ length l.initial.self.plain.cells.ivars;
  names : l.self.names ≡ l.initial.self.names;
  registered : all_registered l.ctx l.group (map (name_in l.initial.self.names) (drop l.k l.deferreds)) l.k l.self.plain
      ≡ all_registered l.ctx l.group (map (name_in l.initial.self.names) l.deferreds) 0 l.initial.self.plain;
}
