use Rattle.ak_rerun.proofs.rerun.rerun.Given as goal

-- the record that was handed in
abbrev pub ghosts-run_on : goal.ghosts-run_on
ghosts-run_on a = record { recording = record { threads = a.config.threads; askers = a.config.askers; history = a.history } }
