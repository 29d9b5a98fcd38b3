use Rattle.ak_state.proofs.cells.fill.Given as goal

abbrev pub ghosts-fill_by : goal.ghosts-fill_by
ghosts-fill_by a = record { name = a.blank.name; parts = a.blank.parts }
