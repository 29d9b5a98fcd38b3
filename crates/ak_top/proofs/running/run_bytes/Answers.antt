use Rattle.ak_top.proofs.running.run_bytes.Goals as goal

pub returns-in-Ok-clause-refuses : goal.returns-in-Ok-clause-refuses
returns-in-Ok-clause-refuses g c = λ line kind f. absurd (c.in-Ok.ensures.refuses line kind f)
