use Rattle.std.proofs.Common.{◌≡◌, ◌∷◌, [], Some, sym, ap, ◌∙◌, rules}
use Rattle.ak_cells.specs.Names.{name_in, trimmed}
use Rattle.ak_monitor.specs.Monitors.{path, catcher}
use Rattle.ak_state.proofs.Errors.{path_mapped, catcher_mapped, alone_catches, above_catches}
use Rattle.ak_state.proofs.parts.Parts.above.Goals as goal

pub unreachable-requires : goal.unreachable-requires
unreachable-requires c =
    let f = name_in (trimmed c.self.inside.cells.named.names)
    in let ms = c.self.inside.lists.monitors
    in let alone : path ms c.args.mon ≡ c.args.mon ∷ [] = search rules
    in let caught : catcher ms c.args.mon ≡ Some c.args.c = sym (catcher_mapped f ms c.args.mon) ∙ (rw (← c.self.view_is) at c.requires.caught)
    in c.requires.below (alone_catches ms c.args.mon c.args.c alone caught)

pub returns-clause-path : goal.returns-clause-path
returns-clause-path c =
    let f = name_in (trimmed c.self.inside.cells.named.names)
    in let ms = c.self.inside.lists.monitors
    in let way : path ms c.args.mon ≡ c.args.mon ∷ path ms c.in-Some.parent = search rules
    in rw (← c.self.view_is)
    (path_mapped f ms c.args.mon ∙ way ∙ ap (λ above. c.args.mon ∷ above) (sym (path_mapped f ms c.in-Some.parent)))

pub returns-clause-caught : goal.returns-clause-caught
returns-clause-caught c =
    let f = name_in (trimmed c.self.inside.cells.named.names)
    in let ms = c.self.inside.lists.monitors
    in let way : path ms c.args.mon ≡ c.args.mon ∷ path ms c.in-Some.parent = search rules
    in let caught : catcher ms c.args.mon ≡ Some c.args.c = sym (catcher_mapped f ms c.args.mon) ∙ (rw (← c.self.view_is) at c.requires.caught)
    in rw (← c.self.view_is)
    (catcher_mapped f ms c.in-Some.parent ∙ above_catches ms c.args.mon c.in-Some.parent c.args.c way c.requires.below caught)
