use Rattle.std.proofs.Common.{refl}
use Rattle.ak_cells.specs.Names.{name_in, trimmed}
use Rattle.ak_state.proofs.Works.{empty_mapped, general_mapped}
use Rattle.ak_state.proofs.parts.Parts.is_stuck.Goals as goal

pub returns : goal.returns
returns c =
    let f = name_in (trimmed c.self.inside.cells.named.names)
    in rw (
      ← c.self.view_is,
      c.is_empty-works.ensures,
      c.all_general-general.ensures,
      c.active.ensures,
      empty_mapped f c.self.inside.lists.works.out,
      general_mapped f c.self.inside.lists.works.out,
    ) refl
