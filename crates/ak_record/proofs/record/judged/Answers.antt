use Rattle.std.proofs.Common.{List, ℕ, get_or, subst, sym, rules}
use Rattle.ak_record.specs.Records.{IsFault}
use Rattle.ak_record.proofs.Faults.{fault_at_event}
use Rattle.ak_record.proofs.record.judged.Goals as goal

pub returns-in-Err-Illegal : goal.returns-in-Err-Illegal
returns-in-Err-Illegal c = λ bytes first reads.
    subst (λ (ns : List ℕ). IsFault c.args.threads c.args.askers bytes first (get_or ns c.in-Err-Illegal.place 0)) (sym c.as_slice.ensures)
    (fault_at_event c.one_reading.ensures.line c.args.threads c.args.askers bytes first c.args.recorded.history c.args.recorded.lines
    c.in-Err-Illegal.place reads (search rules))
