use Rattle.std.proofs.Common.{refl}
use Rattle.ak_history.specs.Text.{history_text}
use Rattle.ak_top.specs.Headline.{program_of}
use Rattle.ak_top.specs.Output.{pool_line}
use Rattle.ak_top.proofs.Again.{replays_as}
use Rattle.ak_top.proofs.law.replays_its_output.Goals as goal

pub returns : goal.returns
returns c = λ config script trace history ran can.
    replays_as config script trace history ran can
    (c.reads_with_line_end.ensures script ran.script ran.is_script.reads can.short_script)
    (c.is_cut_behind_the_script.ensures script pool_line (history_text history) ran.script ran.is_script.reads (refl, refl) refl refl)
    (λ first. c.is_recorded.ensures config.threads config.askers history first can.readable ran.legal)
    (c.meets_its_history.ensures (program_of ran.script) config history ran.legal ran.ended ran.asks_are)
