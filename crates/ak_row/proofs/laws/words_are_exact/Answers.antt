use Rattle.ak_row.proofs.Numbers.{thing_reads, thing_some, long_reads, long_some, count_reads, count_some, signed_reads, signed_some}
use Rattle.ak_row.proofs.Parts.{kind_item}
use Rattle.ak_row.proofs.laws.words_are_exact.Goals as goal

pub returns-clause-things : goal.returns-clause-things
returns-clause-things c = λ word n. (thing_reads word n, λ h. thing_some word n h.0 h.1)

pub returns-clause-longs : goal.returns-clause-longs
returns-clause-longs c = λ word n. (long_reads word n, λ h. long_some word n h.0 h.1)

pub returns-clause-counts : goal.returns-clause-counts
returns-clause-counts c = λ word n. (count_reads word n, λ h. count_some word n h.0 h.1 h.2)

pub returns-clause-signed : goal.returns-clause-signed
returns-clause-signed c = λ word z. (signed_reads word z, λ h. signed_some word z h.0 h.1)

pub returns-clause-kinds : goal.returns-clause-kinds
returns-clause-kinds c = λ word kind. (kind_item.sound word kind, kind_item.complete word kind)
