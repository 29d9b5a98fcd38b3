use Rattle.ak_tests_parts.proofs.replay.work_comes_as_in_the_record.Given as goal

-- the record that was handed in
abbrev pub ghosts-fetched : goal.ghosts-fetched
ghosts-fetched g a = record { recording = record { threads = 1; askers = 0; history = a.history } }
