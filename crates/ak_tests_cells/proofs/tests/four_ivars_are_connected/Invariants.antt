use Rattle.ak_tests_cells.proofs.tests.four_ivars_are_connected.Given as goal

abbrev pub ghosts-first_wrong : goal.ghosts-first_wrong
ghosts-first_wrong g a = record { name = a.blank.name; parts = a.blank.parts }
