use Rattle.ak_history.proofs.Readings.{one_history, one_bad_line, never_both, either}
use Rattle.ak_history.proofs.Walks.{one_line}
use Rattle.ak_history.proofs.laws.one_reading.Goals as goal

pub returns-clause-line : goal.returns-clause-line
returns-clause-line c = one_line

pub returns-clause-history : goal.returns-clause-history
returns-clause-history c = one_history

pub returns-clause-bad_line : goal.returns-clause-bad_line
returns-clause-bad_line c = one_bad_line

pub returns-clause-not_both : goal.returns-clause-not_both
returns-clause-not_both c = never_both

pub returns-clause-either : goal.returns-clause-either
returns-clause-either c = either
