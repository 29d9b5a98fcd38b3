-- What a run leaves, as the source of a replay. Own.
use Rattle.std.specs.Prelude.{ℕ, ◌≤◌, ◌≡◌, true, List, ◌++◌, length, Some}
use Rattle.ak_trace.specs.declared.entry.Entry.{Entry}
use Rattle.ak_history.specs.declared.event.Event.{Event}
use Rattle.ak_history.specs.Reading.{IsReadable}
use Rattle.ak_history.specs.Text.{history_text}
use Rattle.ak_labor.specs.declared.config.Config.{Config}
use Rattle.ak_meets.specs.Meets.{Yes}
use Rattle.ak_again.specs.Ends.{with_line_end}
use Rattle.ak_top.specs.declared.status.Report.{Report}
use Rattle.ak_top.specs.Output.{pool_line}
use Rattle.ak_reading.specs.Reading.{script_limit}
use Rattle.ak_top.specs.Replays.{source_limit, Goes, GivesTold, ReportsReplay}
use Rattle.ak_top.specs.Reports.{is_carried_out}

-- the script of a run, whose last line gets an end where it has none, and what the run prints behind its trace
abbrev pub source_of : List ℕ → List Event → List ℕ
source_of script history = with_line_end script ++ pool_line ++ history_text history

-- that source is within its limits, and the history can be read back
pub record CanReplay (script : List ℕ) (history : List Event) : Type 0 where
  pub short_script : length (with_line_end script) ≤ script_limit
  pub short : length (source_of script history) ≤ source_limit
  pub readable : IsReadable history

-- The source has what a replay carries out to its end, and every replay of it that was carried out reports this trace and this
-- history.
pub record ReplaysAs (config : Config) (source : List ℕ) (trace : List Entry) (history : List Event) : Type 0 where
  pub goes : GivesTold config (Some source) (Goes Yes)
  pub same : (report : Report) → ReportsReplay config (Some source) report → is_carried_out report.status ≡ true
      → (report.trace ≡ trace) × (report.history ≡ history)
