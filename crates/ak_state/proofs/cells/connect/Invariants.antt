use Rattle.ak_state.proofs.cells.connect.Given as goal

abbrev pub ghosts-connect_by : goal.ghosts-connect_by
ghosts-connect_by a = record { name = a.blank.name; parts = a.blank.parts }
