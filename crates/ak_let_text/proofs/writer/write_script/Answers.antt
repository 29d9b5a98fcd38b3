use Rattle.std.proofs.Common.{flat_map, ap, ◌∙◌, arith}
use Rattle.std.proofs.lemmas.List.{take_all}
use Rattle.ak_let_text.specs.Words.{proc_bytes}
use Rattle.ak_let_text.proofs.Spaced.{text_of_each}
use Rattle.ak_let_text.proofs.writer.write_script.Goals as goal

pub returns : goal.returns
returns c =
    c.writer-2.view_is
    ∙ c.loop-proc.invariant
    ∙ ap (flat_map proc_bytes) (take_all c.loop-proc.proc-index c.args.procs.now (omega arith))
    ∙ text_of_each c.args.procs.now
