use Rattle.ak_tests_parts.proofs.replay.another_call_leaves_the_record.Given as goal

-- the record that was handed in
abbrev pub ghosts-left_by_a_drain : goal.ghosts-left_by_a_drain
ghosts-left_by_a_drain g a = record { recording = record { threads = 1; askers = 0; history = a.history } }
