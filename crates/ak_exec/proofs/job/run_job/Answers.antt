use Rattle.ak_exec.proofs.job.run_job.Goals as goal

pub returns-clause-runs : goal.returns-clause-runs
returns-clause-runs c = rw c.in_ok-note.ensures.ok at c.run_task.ensures.runs
