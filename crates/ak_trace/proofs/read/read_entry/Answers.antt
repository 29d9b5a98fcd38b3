use Rattle.std.proofs.Common.{sym, ap, ◌∙◌}
use Rattle.ak_trace.specs.declared.refusal.TraceRefused.TheVariants.{BadLine}
use Rattle.ak_trace.proofs.TakenRows.{entry_reads, no_entry_of}
use Rattle.ak_trace.proofs.read.read_entry.Goals as goal

pub returns-in-Some-clause-ok : goal.returns-in-Some-clause-ok
returns-in-Some-clause-ok c = entry_reads c.args.line.now c.in-Some.entry (sym c.entry.ensures ∙ c.in-Some.is)

pub returns-in-None-clause-err : goal.returns-in-None-clause-err
returns-in-None-clause-err c = (ap BadLine c.number.ensures, λ e. no_entry_of c.args.line.now (sym c.entry.ensures ∙ c.in-None.is) e)
