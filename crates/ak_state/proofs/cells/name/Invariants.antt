use Rattle.ak_state.proofs.cells.name.Given as goal

abbrev pub ghosts-name_by : goal.ghosts-name_by
ghosts-name_by a = record { name = a.blank.name; parts = a.blank.parts }
