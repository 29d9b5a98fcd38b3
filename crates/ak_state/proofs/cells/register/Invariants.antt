use Rattle.ak_state.proofs.cells.register.Given as goal

abbrev pub ghosts-register_by : goal.ghosts-register_by
ghosts-register_by a = record { name = a.blank.name; parts = a.blank.parts }
