use Rattle.std.proofs.Common.{refl}
use Rattle.ak_tools.specs.declared.status.ToolStatus.TheVariants.{Usage}
use Rattle.ak_tools.proofs.Usages.{usage_told}
use Rattle.ak_tools.proofs.tools.tools.Goals as goal

pub returns-in-Err-clause-usage : goal.returns-in-Err-clause-usage
returns-in-Err-clause-usage g c place =
    usage_told c.args.words.now c.in-Err.place place (Usage c.in-Err.place) refl c.in-Err.ensures.usage
