use Rattle.ak_tests_parts.proofs.replay.helper_is_granted_as_in_the_record.Given as goal

-- the record that was handed in
abbrev pub ghosts-is_granted : goal.ghosts-is_granted
ghosts-is_granted g a = record { recording = record { threads = 1; askers = 0; history = a.history } }
