use Rattle.ak_tests_cells.proofs.tests.plain_cells_answer_alike.Given as goal

abbrev pub ghosts-first_difference : goal.ghosts-first_difference
ghosts-first_difference g a = record { name = a.blank.name; parts = a.blank.parts }
