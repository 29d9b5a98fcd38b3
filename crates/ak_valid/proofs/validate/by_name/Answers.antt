use Rattle.std.proofs.Common.{◌≡◌, take, refl, arith}
use Rattle.std.proofs.lemmas.List.{take_all}
use Rattle.ak_valid.proofs.Firsts.{firsts_next}
use Rattle.ak_valid.proofs.validate.by_name.Goals as goal

pub loop-proc-init : goal.loop-proc-init
loop-proc-init c = record { named = λ name. rw (c.in_ok-named.ensures) refl; places = λ distinct. c.in_ok-named.ensures }

pub loop-proc-preserved : goal.loop-proc-preserved
loop-proc-preserved c =
    firsts_next c.loop-proc.named c.add.new.self c.args.procs.now c.loop-proc.proc-index c.proc-item.result
    (omega arith) c.proc-item.is c.loop-proc.invariant c.in_ok-add.ensures

pub returns : goal.returns
returns c = let whole : take c.loop-proc.proc-index c.args.procs.now ≡ c.args.procs.now =
    take_all c.loop-proc.proc-index c.args.procs.now (omega arith) in rw whole at c.loop-proc.invariant
