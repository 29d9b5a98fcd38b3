-- A program that prints a number, and what is recorded of it.
use Rattle.std.specs.Prelude.{pos, List, [], ◌∷◌, None}
use Rattle.ak_history.specs.declared.event.Event.{Event}
use Rattle.ak_history.specs.declared.event.Event.TheVariants.{Drain, Close}
use Rattle.ak_program.specs.declared.statement.NumAtom.TheVariants.{Literal}
use Rattle.ak_program.specs.declared.statement.NumStmt.TheVariants.{Print}
use Rattle.ak_program.specs.Programs.{NumProgram}
use Rattle.ak_labor.specs.declared.config.Config.{Config}

abbrev pub printing : NumProgram
printing =
    record {
      procs = record { name = 0; line = 1; params = []; body = record { line = 2; prefix = None; stmt = Print (Literal (pos 7)) } ∷ [] } ∷ [];
      main = 0;
      ask = None;
    }

abbrev pub usual : Config
usual = record { threads = 4; limit = 500; jobs = 100000; askers = 0 }

abbrev pub whole : List Event
whole = Drain [] [] ∷ Drain [] [] ∷ Close ∷ []

abbrev pub closed_early : List Event
closed_early = Drain [] [] ∷ Close ∷ []

abbrev pub cut : List Event
cut = Drain [] [] ∷ []
