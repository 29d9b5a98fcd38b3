use Rattle.std.proofs.Common.{sym, subst}
use Rattle.ak_reading.specs.Reading.{script_limit, WasRead}
use Rattle.ak_top.proofs.Sources.{was_read, source_refuses}
use Rattle.ak_top.proofs.running.run_source.Goals as goal

pub returns-in-Ok-clause-refuses : goal.returns-in-Ok-clause-refuses
returns-in-Ok-clause-refuses g c =
    let read = subst (WasRead (g.S.Source.left c.args.source.now)) (sym c.bytes.ensures)
    (was_read script_limit (g.S.Source.left c.args.source.now) c.in-Ok.text c.in-Ok.ensures.read)
    in source_refuses (g.S.Source.left c.args.source.now) c.bytes.result.now c.run_bytes.result.0 read c.run_bytes.ensures.refuses
