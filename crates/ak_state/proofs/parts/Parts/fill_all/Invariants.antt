use Rattle.std.proofs.Common.{◌≡◌, length, map}
use Rattle.ak_cells.specs.Names.{name_in}
use Rattle.ak_state.specs.Errors.{AreDrawn, all_filled}
use Rattle.ak_state.proofs.parts.Parts.fill_all.Given as goal

-- those that are left come to what all come to
abbrev pub invariant-loop-i : goal.invariant-loop-i
invariant-loop-i l = record {
  drawn : AreDrawn (map (name_in l.initial.self.names) l.waiting.items) l.self.plain;
  names : l.self.names ≡ l.initial.self.names;
  filled : all_filled l.fn.num (map (name_in l.initial.self.names) l.waiting.items) l.self.plain ≡ all_filled l.fn.num
      (map (name_in l.initial.self.names) l.initial.waiting.items) l.initial.self.plain;
}

abbrev pub decreases-loop-i : goal.decreases-loop-i
decreases-loop-i l = length l.waiting.items
