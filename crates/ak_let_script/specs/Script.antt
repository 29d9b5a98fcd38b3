-- What it is for a text to be the script of a source. Own.
use Rattle.std.specs.Prelude.{ℕ, ◌+◌, ◌*◌, ◌≤◌, List, length}
use Rattle.ak_script.specs.declared.script.Proc.{Proc}
use Rattle.ak_syntax.specs.Grammar.{Reads}
use Rattle.ak_valid.specs.Valid.{Valid}
use Rattle.ak_let.specs.declared.source.Source.{Source}
use Rattle.ak_let.specs.Compile.{program_of}
use Rattle.ak_let.specs.Correct.{IsCorrect, text_lines}
use Rattle.ak_let_text.specs.Compiles.{IsNumberedTo}

-- the bytes are read as a valid script, within every limit; every run of its program is that of the source; and for l lines of
-- the source's text it has at most 2 l + 8 procedures
pub record IsScriptOf (source : Source) (bytes : List ℕ) : Type 0 where
  pub script : List Proc
  pub reads : Reads bytes script
  pub valid : Valid script
  pub program : IsNumberedTo script (program_of source)
  pub correct : IsCorrect source (program_of source)
  pub few : length script ≤ 2 * text_lines source.funs + 8
