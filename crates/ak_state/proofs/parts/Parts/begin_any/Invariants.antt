use Rattle.std.proofs.Common.{◌≡◌, ◌<◌, length, map, drop}
use Rattle.ak_cells.specs.Names.{name_in}
use Rattle.ak_machine.specs.Groups.{choice_registered}
use Rattle.ak_state.proofs.parts.Parts.begin_any.Given as goal

-- those that are left come to what all come to
abbrev pub invariant-loop-i : goal.invariant-loop-i
invariant-loop-i l = record {
  group : l.group < length l.self.plain.groups;
  ivars : length l.self.plain.cells.ivars ≡ length l.initial.self.plain.cells.ivars;
  names : l.self.names ≡ l.initial.self.names;
  registered : choice_registered l.ctx l.group (map (name_in l.initial.self.names) (drop l.i-index l.i-items)) l.self.plain
      ≡ choice_registered l.ctx l.group (map (name_in l.initial.self.names) l.i-items) l.initial.self.plain;
}
