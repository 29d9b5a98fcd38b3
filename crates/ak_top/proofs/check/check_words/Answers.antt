use Rattle.std.proofs.Common.{ap}
use Rattle.ak_top.specs.declared.status.Report.{Report}
use Rattle.ak_top.proofs.Usages.{usage_told}
use Rattle.ak_top.proofs.check.check_words.Goals as goal

pub returns-in-Err-clause-usage : goal.returns-in-Err-clause-usage
returns-in-Err-clause-usage g c place =
    usage_told c.args.words.now c.in-Err.place place c.without_run.result.status (ap (λ (r : Report). r.status) c.without_run.ensures) c.in-Err.ensures.usage
