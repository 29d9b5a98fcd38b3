-- What each command reports. Own.
use Rattle.std.specs.Prelude.{ℕ, List, Option}
use Rattle.ak_meets.specs.Meets.{Yes}
use Rattle.ak_words.specs.declared.command.Command.{Command}
use Rattle.ak_words.specs.declared.command.Command.TheVariants.{Run, Replay, Check}
use Rattle.ak_top.specs.declared.status.Report.{Report}
use Rattle.ak_top.specs.Refusals.{TellsScript}
use Rattle.ak_top.specs.Replays.{Goes, GivesTold, ReportsReplay}
use Rattle.ak_top.specs.Reports.{ReportsRun, ReportsCheck}

-- the report of a command, of a source that tells its bytes or none
abbrev pub Reports : Command → Option (List ℕ) → Report → Type 0
Reports (Run config) told report = ReportsRun config told report
Reports (Replay config) told report = ReportsReplay config told report
Reports Check told report = ReportsCheck told report

-- a source tells what the command carries out to its end: a valid script, and for a replay a history that goes with it
abbrev pub TellsWhole : Command → Option (List ℕ) → Type 0
TellsWhole (Run config) told = TellsScript told
TellsWhole (Replay config) told = GivesTold config told (Goes Yes)
TellsWhole Check told = TellsScript told
