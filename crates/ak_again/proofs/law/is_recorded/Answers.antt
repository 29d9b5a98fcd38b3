use Rattle.ak_again.proofs.law.is_recorded.Goals as goal

pub returns : goal.returns
returns c = λ threads askers history first readable legal.
    let back = c.reads_back.ensures history first readable in
    record { numbers = back.0; reads = back.1; legal = legal }
